use Rattle.std.proofs.Common.{◌≡◌, ◌&&◌, ◌==◌, length, unsigned_abs}
use Rattle.frac_row.specs.Row.{number_of}
use Rattle.row_store.specs.Choice.{is_negative}
use Rattle.row_store.specs.Scan.{first_where}
use Rattle.row_store.proofs.sparse_scanning.first_cheaper.Given as goal

abbrev pub invariant-loop-entry : goal.invariant-loop-entry
invariant-loop-entry l =
    first_where (λ entry. is_negative entry.number && (unsigned_abs (number_of l.phase entry.column) == 0)) l.bound l.left
    ≡ first_where (λ entry. is_negative entry.number && (unsigned_abs (number_of l.phase entry.column) == 0)) l.bound l.costs

abbrev pub decreases-loop-entry : goal.decreases-loop-entry
decreases-loop-entry l = length l.left
