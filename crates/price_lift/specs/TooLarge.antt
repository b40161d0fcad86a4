-- What is first too large on the way from a last table to prices and weights.
use Rattle.std.specs.Prelude.{ℕ, ◌+◌, List, Option}
use Rattle.sums.specs.Places.{first_below, or_else}
use Rattle.frac_row.specs.declared.row.FracRow.{FracRow}
use Rattle.fleet_model.specs.Kept.{Domains, pairs_kept}
use Rattle.fleet_model.specs.Schedule.{legs_in}
use Rattle.fleet_model.specs.declared.tables.Tables.{Tables}
use Rattle.row_store.specs.Table.{height_of}
use Rattle.simplex_frac.specs.dual_lift.Duals.{real_columns}
use Rattle.simplex_frac.specs.dual_lift.TooLarge.{best_value_excess, least_scale_excess, lowest_excess, phases_excess, refusal_value_excess, scale_excess}
use Rattle.simplex_frac.specs.declared.dual_lift.error.Excess.{Excess}
use Rattle.dual_bound.specs.Prices.{max_price, max_scale}
use Rattle.lp_rows.specs.Layout.{Starts}
use Rattle.price_lift.specs.PaidBack.{payback_excess_by}
use Rattle.price_lift.specs.Duals.{best_duals, priced_lines, refusal_duals}

-- step 6, line by line: the scale of the weights
abbrev pub weights_excess : List FracRow → List ℕ → ℕ → ℕ → Option Excess
weights_excess table basis pairs line = least_scale_excess max_scale table basis pairs line

-- the first of the balance lines, the count lines and the parking lines
abbrev pub first_priced : Tables → List FracRow → (ℕ → Option Excess) → Option Excess
first_priced t table excess = first_below (λ k. excess (legs_in t + k)) (priced_lines t table)

-- steps 4 and 5: what is first too large of prices in lowest terms, their scale or, line by line from the first with a
-- price on, a price, a rent or a charge
abbrev pub prices_excess : ℕ → FracRow → Option Excess
prices_excess first duals = lowest_excess max_scale max_price first duals

-- .. of the dual values at a cheapest point
abbrev pub best_duals_excess : Tables → List FracRow → Option Excess
best_duals_excess t table =
    or_else (first_below (phases_excess table) (real_columns table))
    (or_else (scale_excess table) (first_priced t table (best_value_excess table)))

-- .. at a cheapest point behind the prices: the weights, and then the prices that are paid back
abbrev pub point_ends : Tables → Domains → List FracRow → List ℕ → Starts → FracRow → Option Excess
point_ends t keeps table basis starts duals =
    or_else (first_below (weights_excess table basis (pairs_kept t keeps)) (height_of table)) (payback_excess_by t keeps starts duals)

-- .. of all at a cheapest point, by the network of the kept pairs
unfoldable pub best_excess : Tables → Domains → List FracRow → List ℕ → Starts → Option Excess
best_excess t keeps table basis starts =
    or_else (best_duals_excess t table)
    (or_else (prices_excess (legs_in t) (best_duals t table)) (point_ends t keeps table basis starts (best_duals t table)))

-- .. of all where no point meets the lines
unfoldable pub refusal_excess : Tables → Domains → List FracRow → Starts → Option Excess
refusal_excess t keeps table starts =
    or_else (first_priced t table (refusal_value_excess table))
    (or_else (prices_excess (legs_in t) (refusal_duals t table)) (payback_excess_by t keeps starts (refusal_duals t table)))
