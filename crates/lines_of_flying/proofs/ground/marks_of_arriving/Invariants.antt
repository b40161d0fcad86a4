use Rattle.lines_of_flying.specs.ground_turns.Maps.{arrivals_of}
use Rattle.lines_of_flying.specs.Grounds.{AreMarks}
use Rattle.lines_of_flying.proofs.ground.marks_of_arriving.Given as goal

abbrev pub invariant-loop-leg : goal.invariant-loop-leg
invariant-loop-leg l = AreMarks (arrivals_of l.pairs) l.leg l.marks.items
