-- What is lifted from an end that was checked, and what is first too large there.
use Rattle.std.specs.Prelude.{◌≡◌, ℕ, int_lt, List, length, drop, Option, ℤ, pos}
use Rattle.sums.specs.Places.{list_below, or_else}
use Rattle.frac_row.specs.Row.{reduced}
use Rattle.frac_row.specs.declared.row.FracRow.{FracRow}
use Rattle.fleet_model.specs.Kept.{Domains, pairs_kept}
use Rattle.fleet_model.specs.Schedule.{legs_in}
use Rattle.fleet_model.specs.declared.tables.Tables.{Tables}
use Rattle.simplex_frac.specs.end_check.Ends.{part_in}
use Rattle.simplex_frac.specs.declared.end_check.hint.PointHint.{PointHint}
use Rattle.simplex_frac.specs.declared.end_check.hint.RefusalHint.{RefusalHint}
use Rattle.simplex_frac.specs.dual_lift.TooLarge.{excess_if}
use Rattle.simplex_frac.specs.declared.dual_lift.error.Excess.{Excess}
use Rattle.fleet_model.specs.declared.parts.Pair.{Pair}
use Rattle.lp_rows.specs.Layout.{Starts, all_kept, concat_below}
use Rattle.dual_bound.specs.Prices.{max_scale}
use Rattle.dual_bound.specs.declared.mixed.Mixed.{Mixed}
use Rattle.price_lift.specs.BestPoint.{IsBestPoint}
use Rattle.price_lift.specs.Lifted.{AreLiftedPrices}
use Rattle.price_lift.specs.PaidBack.{payback_excess_by}
use Rattle.price_lift.specs.Parts.{weights_at}
use Rattle.price_lift.specs.TooLarge.{prices_excess}
use Rattle.price_lift.specs.declared.best_point.BestPoint.{BestPoint}

-- the values of the lines with a price, which come after the cover lines, over the scale of all
abbrev pub priced_values : Tables → List ℤ → ℤ → FracRow
priced_values t values scale = record { numbers = drop (legs_in t) values; den = scale }

abbrev pub end_duals : Tables → PointHint → FracRow
end_duals t hint = priced_values t hint.duals hint.dual_scale

abbrev pub refusing_duals : Tables → RefusalHint → FracRow
refusing_duals t hint = priced_values t hint.multipliers (pos 1)

-- the parts of the first columns, which are those of the pairs, over the scale of all columns
abbrev pub first_parts : List ℕ → ℕ → ℕ → FracRow
first_parts point scale count = record { numbers = list_below (λ column. pos (part_in point column)) count; den = pos scale }

abbrev pub pair_parts : Tables → Domains → PointHint → FracRow
pair_parts t keeps hint = first_parts hint.point hint.scale (pairs_kept t keeps)

-- the weights of pairs: their parts in lowest terms
pub record IsMixedOfParts (parts : FracRow) (pairs : List Pair) (mixed : Mixed) : Type 0 where
  pub scale : mixed.scale ≡ (reduced parts).den
  pub weights : mixed.weights ≡ concat_below (weights_at pairs (reduced parts).numbers) (length pairs)

-- step 6: the scale of the weights
abbrev pub parts_excess : FracRow → Option Excess
parts_excess parts = excess_if (int_lt (pos max_scale) (reduced parts).den) 6 0

-- what is first too large in lowest terms: of the prices, of the weights
abbrev pub lowest_end_excess : Tables → Domains → PointHint → Option Excess
lowest_end_excess t keeps hint = or_else (prices_excess (legs_in t) (end_duals t hint)) (parts_excess (pair_parts t keeps hint))

-- what is first too large: of the prices, of the weights, of the prices that are paid back
unfoldable pub end_excess : Tables → Domains → PointHint → Starts → Option Excess
end_excess t keeps hint starts =
    or_else (prices_excess (legs_in t) (end_duals t hint)) (or_else (parts_excess (pair_parts t keeps hint)) (payback_excess_by t keeps starts (end_duals t hint)))

unfoldable pub refusing_excess : Tables → Domains → RefusalHint → Starts → Option Excess
refusing_excess t keeps hint starts = or_else (prices_excess (legs_in t) (refusing_duals t hint)) (payback_excess_by t keeps starts (refusing_duals t hint))

-- what a lift of a point gives: its dual values in lowest terms, paid back, and the parts of its pairs
pub record IsLiftOf (t : Tables) (keeps : Domains) (hint : PointHint) (point : BestPoint) : Type 0 where
  pub prices : AreLiftedPrices t keeps (end_duals t hint) point.prices
  pub weights : IsMixedOfParts (pair_parts t keeps hint) (all_kept t keeps) point.mixed
  pub best : IsBestPoint t keeps point
