-- With which table and basis a run over a subproblem's lines ended.
use Rattle.std.specs.Prelude.{ℕ, List}
use Rattle.frac_row.specs.declared.row.FracRow.{FracRow}
use Rattle.fleet_model.specs.Kept.{Domains}
use Rattle.fleet_model.specs.declared.tables.Tables.{Tables}
use Rattle.row_store.specs.declared.problem.Rows.{Rows}
use Rattle.simplex_frac.specs.LastTables.{IsTurn}
use Rattle.simplex_frac.specs.declared.turn.Turn.{Turn}
use Rattle.lp_rows.specs.Points.{AreLinesOf}

-- after some pivots the proved run over the lines of the subproblem has this table and this basis, and does this there
pub record Ends (t : Tables) (keeps : Domains) (does : Turn) (table : List FracRow) (basis : List ℕ) : Type 0 where
  pub rows : Rows
  pub lines : AreLinesOf t keeps rows
  pub made : ℕ
  pub turn : IsTurn rows made table basis does
