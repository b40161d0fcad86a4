use Rattle.std.proofs.Common.{false, ap, arith}
use Rattle.fleet_model.specs.Kept.{kept_by}
use Rattle.dual_bound.specs.Bound.{part}
use Rattle.fleet_model.proofs.FewChoices.{few_choice}
use Rattle.cert_check.proofs.Visits.{ends_first, ends_second, in_same}
use Rattle.cert_check.proofs.Walks.{asked_here, first_next, second_next}
use Rattle.cert_check.proofs.walking.+walk.Goals as goal

pub walk-enter-requires-clause-may : goal.walk-enter-requires-clause-may
walk-enter-requires-clause-may g t c = asked_here (g.V.Visit.may c.args.visitor.now c.args.tables.now) _ _ c.requires.may

pub walk-enter-requires-in-Some-clause-may : goal.walk-enter-requires-in-Some-clause-may
walk-enter-requires-in-Some-clause-may g t c = asked_here (g.V.Visit.may c.args.visitor.now c.args.tables.now) _ _ c.requires.may

pub walk-walk_part-requires : goal.walk-walk_part-requires
walk-walk_part-requires g t c = λ κs outlives.
    let next = first_next (g.V.Visit.may c.args.visitor.now c.args.tables.now) c.args.tables.now _ _ _ _ _ c.in-Some.ensures _ (omega (arith, c.decreases)) c.requires.known c.requires.may in
    (next.0, (outlives, next.1))

pub walk-walk_part-requires-in-Some : goal.walk-walk_part-requires-in-Some
walk-walk_part-requires-in-Some g t c = λ κs outlives.
    let next =
    second_next (g.V.Visit.may c.args.visitor.now c.args.tables.now) c.args.tables.now _ _ _ _ _ c.in-Some.ensures _ (omega (arith, c.decreases)) c.requires.known c.requires.may _ (ap kept_by c.if-walk_part.ensures.kept)
    in (next.0, (outlives, next.1))

pub walk-returns-then-walk_part-clause-visited : goal.walk-returns-then-walk_part-clause-visited
walk-returns-then-walk_part-clause-visited g t c =
    ends_first (g.V.Visit.finds c.args.visitor.now c.args.tables.now) c.args.tables.now _ _ _ _ _ c.in-Some.ensures _ _ _ c.if-enter.ensures c.if-walk_part.ensures.visited

pub walk-returns-else-walk_part-clause-visited : goal.walk-returns-else-walk_part-clause-visited
walk-returns-else-walk_part-clause-visited g t c =
    ends_second (g.V.Visit.finds c.args.visitor.now c.args.tables.now) c.args.tables.now _ _ _ _ _ c.in-Some.ensures _ _ _ _ _ c.if-enter.ensures c.if-walk_part.ensures.visited
    (in_same (g.V.Visit.finds c.args.visitor.now c.args.tables.now) _ _ _ _ _ _ (ap (λ rows. part (kept_by rows) c.in-Some.parts.pair.leg c.in-Some.parts.pair.choice false) c.if-walk_part.ensures.kept) c.walk_part-in-Some.ensures.visited)

pub walk_part-narrow-undo-requires-clause-fleet : goal.walk_part-narrow-undo-requires-clause-fleet
walk_part-narrow-undo-requires-clause-fleet g t c = few_choice _ _ _ c.requires.pair
