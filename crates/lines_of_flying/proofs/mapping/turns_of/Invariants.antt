use Rattle.std.proofs.Common.{◌≡◌}
use Rattle.lines_of_flying.proofs.AllSuccessors.{turns_below}
use Rattle.lines_of_flying.proofs.mapping.turns_of.Given as goal

abbrev pub invariant-loop-leg : goal.invariant-loop-leg
invariant-loop-leg l = l.turns.items ≡ turns_below l.ground.tables.now l.ground.plan.now l.ground.fleet l.ground.pairs.now l.leg
