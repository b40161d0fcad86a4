use Rattle.std.proofs.Common.{length}
use Rattle.simplex_frac.proofs.end_check.Multiples.{IsAddingTimes}
use Rattle.simplex_frac.proofs.end_check.weighing.add_multiple.Given as goal

abbrev pub invariant-loop-entry : goal.invariant-loop-entry
invariant-loop-entry l = IsAddingTimes l.initial.sums.items l.value l.line l.sums.items l.left

abbrev pub decreases-loop-entry : goal.decreases-loop-entry
decreases-loop-entry l = length l.left
