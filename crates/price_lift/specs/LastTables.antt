-- The last table of a run over a subproblem's lines, by how its dual values are read, and what is first too large there.
use Rattle.std.specs.Prelude.{◌≡◌, ℕ, List, Option}
use Rattle.sums.specs.Places.{or_else}
use Rattle.frac_row.specs.declared.row.FracRow.{FracRow}
use Rattle.fleet_model.specs.Kept.{Domains}
use Rattle.fleet_model.specs.Schedule.{legs_in}
use Rattle.fleet_model.specs.declared.tables.Tables.{Tables}
use Rattle.row_store.specs.declared.problem.Rows.{Rows}
use Rattle.lp_rows.specs.Points.{AreLinesOf}
use Rattle.simplex_frac.specs.dual_lift.LastTables.{HasBasicPoint, IsEndBy, IsReachedTable, counts_costs}
use Rattle.simplex_frac.specs.dual_lift.Readings.{duals_by, duals_excess}
use Rattle.simplex_frac.specs.declared.dual_lift.error.Excess.{Excess}
use Rattle.simplex_frac.specs.declared.dual_lift.reading.Reading.{Reading}
use Rattle.lp_rows.specs.Layout.{Starts}
use Rattle.price_lift.specs.PaidBack.{payback_excess_by}
use Rattle.price_lift.specs.TooLarge.{point_ends, prices_excess}

-- a table that steps reach from the lines of the subproblem, with the signs of the end
pub record IsLastBy (t : Tables) (keeps : Domains) (table : List FracRow) (basis : List ℕ) (reading : Reading) : Type 0 where
  pub rows : Rows
  pub lines : AreLinesOf t keeps rows
  pub reached : IsReachedTable rows table basis
  pub ends : IsEndBy rows table basis reading

-- .. at a cheapest point
pub record IsPointBy (t : Tables) (keeps : Domains) (table : List FracRow) (basis : List ℕ) (reading : Reading) : Type 0 where
  pub last : IsLastBy t keeps table basis reading
  pub point : HasBasicPoint last.rows table basis
  pub costs : counts_costs reading ≡ 1

-- .. where no point meets the lines
pub record IsRefusalBy (t : Tables) (keeps : Domains) (table : List FracRow) (basis : List ℕ) (reading : Reading) : Type 0 where
  pub last : IsLastBy t keeps table basis reading
  pub no_costs : counts_costs reading ≡ 0

-- what is first too large on the way to prices, and to weights behind them
unfoldable pub prices_excess_by : Tables → List FracRow → Reading → Option Excess
prices_excess_by t table reading = or_else (duals_excess table reading (legs_in t)) (prices_excess (legs_in t) (duals_by table reading (legs_in t)))

unfoldable pub point_excess : Tables → Domains → List FracRow → List ℕ → Reading → Starts → Option Excess
point_excess t keeps table basis reading starts =
    or_else (prices_excess_by t table reading) (point_ends t keeps table basis starts (duals_by table reading (legs_in t)))

-- .. and to prices that are paid back, where there are no weights
unfoldable pub none_excess : Tables → Domains → List FracRow → Reading → Starts → Option Excess
none_excess t keeps table reading starts = or_else (prices_excess_by t table reading) (payback_excess_by t keeps starts (duals_by table reading (legs_in t)))
