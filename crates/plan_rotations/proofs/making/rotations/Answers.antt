use Rattle.plan_rotations.proofs.Flown.{are_flown, are_kept, are_known}
use Rattle.plan_rotations.proofs.making.rotations.Goals as goal

pub returns-clause-known : goal.returns-clause-known
returns-clause-known c = are_known c.args.tables.now c.args.plan.now c.args.days c.args.visits c.in_ok-of_fleets.field-0 c.in_ok-of_fleets.ensures

pub returns-clause-flown : goal.returns-clause-flown
returns-clause-flown c = are_flown c.args.tables.now c.args.plan.now c.args.days c.args.visits c.in_ok-of_fleets.field-0 c.in_ok-of_fleets.ensures

pub returns-clause-kept : goal.returns-clause-kept
returns-clause-kept c = are_kept c.args.tables.now c.args.plan.now c.args.days c.args.visits c.in_ok-of_fleets.field-0 c.in_ok-of_fleets.ensures
