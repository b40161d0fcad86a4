-- What is known of a table that steps reach.
use Rattle.std.proofs.Common.{ℕ, List}
use Rattle.frac_row.specs.declared.row.FracRow.{FracRow}
use Rattle.row_store.specs.declared.problem.Rows.{Rows}
use Rattle.simplex_frac.specs.ReachedTables.{IsReachedBySteps}
use Rattle.simplex_frac.proofs.ReachedPoints.{has_tables}
use Rattle.simplex_frac.proofs.ReachedRows.{reads_off}
use Rattle.simplex_frac.proofs.ReachedUnitColumns.{has_unit_columns}
use Rattle.simplex_frac.specs.dual_lift.LastTables.{IsReachedTable}

module _ (rows : Rows) (table : List FracRow) (basis : List ℕ) (reached : IsReachedBySteps rows table basis) where
  pub known : IsReachedTable rows table basis
  known = record { problem = reached.problem; shape = has_tables rows table basis reached; reads = reads_off rows table basis reached; units = has_unit_columns rows table basis reached }
