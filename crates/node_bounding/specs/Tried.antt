-- What the search for an end of a subproblem's lines comes to.
use Rattle.std.specs.Prelude.{Option}
use Rattle.fleet_model.specs.Kept.{Domains}
use Rattle.fleet_model.specs.declared.tables.Tables.{Tables}
use Rattle.row_store.specs.declared.problem.Rows.{Rows}
use Rattle.simplex_frac.specs.end_check.Ends.{IsPricedEnd, IsRefusedEnd}
use Rattle.simplex_frac.specs.declared.end_check.hint.Hint.{Hint}
use Rattle.simplex_frac.specs.declared.end_check.hint.Hint.TheVariants as hint
use Rattle.lp_rows.specs.Layout.{Starts}
use Rattle.lp_rows.specs.Points.{AreLinesOf}
use Rattle.simplex_frac.specs.declared.dual_lift.error.Excess.{Excess}
use Rattle.price_lift.specs.BestPoint.{AreRefuting, IsBestPoint}
use Rattle.price_lift.specs.EndLifts.{end_excess, refusing_excess}
use Rattle.node_bounding.specs.declared.relaxing.Relaxed.{Relaxed}
use Rattle.node_bounding.specs.declared.relaxing.Relaxed.TheVariants as relaxed

-- a hint is an end of lines: a cheapest point with dual values that show it, or multipliers that no point meets
abbrev pub IsEndIn : Rows → Hint → Type 0
IsEndIn rows (hint.Point point) = IsPricedEnd rows point
IsEndIn rows (hint.Refusal refusal) = IsRefusedEnd rows refusal

-- .. of some lines of the subproblem
pub record EndsLines (t : Tables) (keeps : Domains) (found : Hint) : Type 0 where
  pub rows : Rows
  pub lines : AreLinesOf t keeps rows
  pub ends : IsEndIn rows found

-- prices that refute the subproblem; or its best fractional assignment, with prices that are worth as much
abbrev pub Settles : Tables → Domains → Relaxed → Type 0
Settles t keeps (relaxed.Refuted prices) = AreRefuting t keeps prices
Settles t keeps (relaxed.Bounded best) = IsBestPoint t keeps best
Settles t keeps (relaxed.Stopped why) = ⊥

-- what is first too large on the way from an end to prices and weights
abbrev pub excess_from : Tables → Domains → Hint → Starts → Option Excess
excess_from t keeps (hint.Point point) starts = end_excess t keeps point starts
excess_from t keeps (hint.Refusal refusal) starts = refusing_excess t keeps refusal starts
