use Rattle.std.proofs.Common.{◌≡◌, length}
use Rattle.row_store.specs.Choice.{is_negative}
use Rattle.row_store.specs.Scan.{first_where}
use Rattle.row_store.proofs.sparse_scanning.first_negative.Given as goal

abbrev pub invariant-loop-entry : goal.invariant-loop-entry
invariant-loop-entry l =
    first_where (λ entry. is_negative entry.number) l.bound l.left ≡ first_where (λ entry. is_negative entry.number) l.bound l.entries

abbrev pub decreases-loop-entry : goal.decreases-loop-entry
decreases-loop-entry l = length l.left
