use Rattle.lines_of_flying.proofs.cycle_join.Passes.{IsPass}
use Rattle.lines_of_flying.proofs.cycle_join.exchanges.join_some.Given as goal

abbrev pub invariant-loop-place : goal.invariant-loop-place
invariant-loop-place l = IsPass l.ground l.fn.cycles l.cycles l.joined l.place
