use Rattle.std.proofs.Common.{◌≡◌, take}
use Rattle.std.specs.List.{filter}
use Rattle.euler_rotation.specs.Prefixes.{may_turn}
use Rattle.euler_rotation.proofs.field.those_that_may.Given as goal

abbrev pub invariant-loop-other : goal.invariant-loop-other
invariant-loop-other l =
    l.legs.items ≡ filter (may_turn l.clean.asked.now.tables.now l.clean.asked.now.plan.now l.clean.asked.now.fleet l.clean.asked.now.pairs.now l.leg) (take l.other-index l.order)
