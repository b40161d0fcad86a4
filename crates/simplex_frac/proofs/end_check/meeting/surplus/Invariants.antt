use Rattle.std.proofs.Common.{length}
use Rattle.simplex_frac.specs.end_check.Sums.{share_in}
use Rattle.simplex_frac.proofs.end_check.Products.{IsSumming}
use Rattle.simplex_frac.proofs.end_check.meeting.surplus.Given as goal

abbrev pub invariant-loop-entry : goal.invariant-loop-entry
invariant-loop-entry l = IsSumming l.line (share_in l.point l.scale) l.total l.left

abbrev pub decreases-loop-entry : goal.decreases-loop-entry
decreases-loop-entry l = length l.left
