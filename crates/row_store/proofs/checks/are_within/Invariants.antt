use Rattle.std.proofs.Common.{ℕ, ◌<◌, pos, get_or}
use Rattle.frac_row.specs.Outgrown.{IsWithin}
use Rattle.row_store.proofs.checks.are_within.Given as goal

abbrev pub invariant-loop-place : goal.invariant-loop-place
invariant-loop-place l = (k : ℕ) → k < l.place → IsWithin (get_or l.costs k (pos 0))
