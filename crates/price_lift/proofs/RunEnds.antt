-- What the proved run over a subproblem's lines ends with, and that no table of it is a ray.
use Rattle.std.proofs.Common.{◌≡◌, ℕ, ◌<◌, List, length, pos, ◌*ℤ◌, ◌≤ℤ◌, refl, ◌∙◌, ap, arith}
use Rattle.std.proofs.lemmas.Int.{ints}
use Rattle.std.specs.Prelude.{unwrap_or}
use lib.IntN.{zero-*ℤ}
use Rattle.sums.specs.Below.{sum_below_ℤ}
use Rattle.sums.proofs.SumBounds.{term_le}
use Rattle.sums.proofs.WholeSums.{sum_below_ℤ-same}
use Rattle.sums.proofs.WholeSwaps.{sum_below_ℤ-zero}
use Rattle.frac_row.specs.declared.row.FracRow.{FracRow}
use Rattle.fleet_model.specs.declared.tables.Tables.{Tables}
use Rattle.fleet_model.specs.Counts.{Weights}
use Rattle.fleet_model.specs.Kept.{Domains}
use Rattle.fleet_model.specs.Legal.{cost_of}
use Rattle.fleet_model.specs.Mixed.{IsMixedPlan, mixed_cost, weighted_cost}
use Rattle.fleet_model.specs.Schedule.{choices_in, leg_on, legs_in}
use Rattle.row_store.specs.Table.{HasColumns, right_side}
use Rattle.simplex_frac.specs.Duality.{IsReached}
use Rattle.simplex_frac.specs.declared.turn.Turn.{Turn}
use Rattle.simplex_frac.specs.declared.turn.Turn.TheVariants as turns
use Rattle.simplex_frac.proofs.BestPoints.{best_tells, no_point_tells}
use Rattle.simplex_frac.proofs.MetPoints.{basic_point_meets}
use Rattle.simplex_frac.proofs.RayPoints.{ray_is_direction}
use Rattle.simplex_frac.proofs.RightSides.{run_keeps_right_sides}
use Rattle.simplex_frac.proofs.RunPoints.{run_is_reached}
use Rattle.lp_rows.specs.Points.{pair_part}
use Rattle.lp_rows.specs.Layout.{program_columns}
use Rattle.lp_rows.specs.Outline.{IsOutline, column_count}
use Rattle.lp_rows.specs.declared.outline.Outline.{Outline}
use Rattle.price_lift.proofs.LastTables.{counted_columns}
use Rattle.simplex_frac.specs.dual_lift.LastTables.{HasBasicPoint, IsReachedTable}
use Rattle.simplex_frac.specs.dual_lift.Mixture.{HasPhases, IsMixture}
use Rattle.simplex_frac.specs.declared.dual_lift.mixture.Mixture.{Mixture}
use Rattle.simplex_frac.specs.declared.dual_lift.reading.Reading.TheVariants.{BothRows, PhaseRow}
use Rattle.simplex_frac.proofs.dual_lift.EndDuals.{best_has_phases}
use Rattle.simplex_frac.proofs.dual_lift.Reached.{known}
use Rattle.price_lift.specs.Ends.{Ends}
use Rattle.price_lift.specs.LastTables.{IsPointBy, IsRefusalBy}
use Rattle.price_lift.proofs.Columns.{sides_at_least}

module _ (t : Tables) (keeps : Domains) (does : Turn) (table : List FracRow) (basis : List ℕ) (ends : Ends t keeps does table basis) where
  reached : IsReached ends.rows ends.made table basis
  reached = record { problem = ends.turn.problem; reaches = ends.turn.turns.reaches }

  pub of_run : IsReachedTable ends.rows table basis
  of_run = known ends.rows table basis (run_is_reached ends.rows ends.made table basis reached)

  pub run_sides : (line : ℕ) → line < length ends.rows.lines → pos 0 ≤ℤ right_side table line
  run_sides line below = run_keeps_right_sides ends.rows ends.made table basis line reached (sides_at_least t keeps ends.lines.starts ends.rows ends.lines.lines) below

-- ---- at a cheapest point
module _ (t : Tables) (keeps : Domains) (table : List FracRow) (basis : List ℕ) (ends : Ends t keeps turns.Best table basis) where
  pub best_point : HasBasicPoint ends.rows table basis
  best_point = record {
    sides = run_sides t keeps turns.Best table basis ends;
    meets = λ scale x is. basic_point_meets ends.rows ends.made table basis scale x ends.turn (sides_at_least t keeps ends.lines.starts ends.rows ends.lines.lines) is;
  }

  pub has_phases : HasPhases table
  has_phases = best_has_phases ends.rows table basis (of_run t keeps turns.Best table basis ends) (best_tells ends.rows ends.made table basis ends.turn)

  pub best_columns : (outline : Outline) → IsOutline t keeps outline → HasColumns table (column_count outline)
  best_columns outline is = counted_columns t keeps ends.rows ends.lines table basis (of_run t keeps turns.Best table basis ends) outline is

  pub is_best : (mixture : Mixture) → IsMixture table mixture → IsPointBy t keeps table basis (BothRows mixture)
  is_best mixture is = record {
    last = record { rows = ends.rows; lines = ends.lines; reached = of_run t keeps turns.Best table basis ends; ends = (best_tells ends.rows ends.made table basis ends.turn, is) };
    point = best_point;
    costs = refl;
  }

-- ---- where no point meets the lines
pub is_refusal : (t : Tables) (keeps : Domains) (table : List FracRow) (basis : List ℕ) → Ends t keeps turns.NoPoint table basis → IsRefusalBy t keeps table basis PhaseRow
is_refusal t keeps table basis ends = record {
  last = record {
    rows = ends.rows;
    lines = ends.lines;
    reached = of_run t keeps turns.NoPoint table basis ends;
    ends = no_point_tells ends.rows ends.made table basis ends.turn (sides_at_least t keeps ends.lines.starts ends.rows ends.lines.lines);
  };
  no_costs = refl;
}

-- ---- rays
-- a plan of scale 0 weighs no pair
free : (t : Tables) (keeps : Domains) (w : Weights) → IsMixedPlan t keeps 0 w → mixed_cost t w ≡ pos 0
unfolding mixed_cost
free t keeps w plan =
    sum_below_ℤ-same (λ l. sum_below_ℤ (weighted_cost t w l) (choices_in t l)) (λ l. pos 0) (legs_in t)
    (λ l below. sum_below_ℤ-same (weighted_cost t w l) (λ c. pos 0) (choices_in t l)
    (λ c known.
    let least = term_le (λ d. w (leg_on l d)) c (choices_in t l) known in
    let nothing : w (leg_on l c) ≡ 0 = omega (arith, plan.cover l below, least) in
    ap (λ n. pos n *ℤ unwrap_or (cost_of t (leg_on l c)) (pos 0)) nothing ∙ zero-*ℤ (unwrap_or (cost_of t (leg_on l c)) (pos 0)))
    ∙ sum_below_ℤ-zero (choices_in t l))
    ∙ sum_below_ℤ-zero (legs_in t)

pub no_ray : (t : Tables) (keeps : Domains) (table : List FracRow) (basis : List ℕ) (column : ℕ) → ¬ (Ends t keeps (turns.Ray column) table basis)
no_ray t keeps table basis column ends =
    let direction = ray_is_direction ends.rows ends.made table basis column ends.turn in
    let plan = ends.lines.points_are_plans 0 direction.0 direction.1.meets in
    let cost = ends.lines.costs_are_same direction.0 ∙ free t keeps (pair_part (program_columns t keeps ends.lines.starts) direction.0) plan in
    omega (arith, ints, cost, direction.1.falls)
