use Rattle.std.proofs.Common.{◌≡◌, sym, ap, length, subst, arith}
use Rattle.fleet_model.specs.Schedule.{fleets_in}
use Rattle.plan_rotations.specs.Rotations.{AreMadeBelow}
use Rattle.plan_rotations.proofs.Pushed.{made_pushed}
use Rattle.plan_rotations.proofs.making.of_fleets.Goals as goal

pub loop-fleet-preserved : goal.loop-fleet-preserved
loop-fleet-preserved c =
    made_pushed c.args.tables.now c.args.plan.now c.args.days c.args.visits c.loop-fleet.all.items c.push.new.self.items c.loop-fleet.fleet
    c.in_ok-rotation_of.field-0 c.in_ok-push.ensures.items c.loop-fleet.invariant c.in_ok-rotation_of.ensures

pub loop-fleet-init : goal.loop-fleet-init
loop-fleet-init c = record { each_fleet = ap length c.new-all.ensures.items; each = λ fleet lt. absurd (omega (arith, lt)) }

pub returns : goal.returns
returns c =
    let made = AreMadeBelow c.args.tables.now c.args.plan.now c.args.days c.args.visits in
    let all : c.loop-fleet.fleet ≡ fleets_in c.args.tables.now = omega arith in
    subst (λ rotations. made rotations (fleets_in c.args.tables.now)) (sym c.from_vec.ensures) (subst (made c.loop-fleet.all.items) all c.loop-fleet.invariant)
