-- What the last table of a run gives to a lift: the row of its dual values, and the weights of its basic point.
use Rattle.std.proofs.Common.{◌≡◌, ℕ, ◌+◌, ◌≤◌, List, length, All, None, Result, Ok, Err, MatchResult, pos, neg_ℤ, ◌≤ℤ◌, sym, ◌∙◌, ap, subst, arith}
use Rattle.frac_row.specs.Row.{IsRow, reduced, width_of}
use Rattle.frac_row.specs.declared.row.FracRow.{FracRow}
use Rattle.fleet_model.specs.declared.parts.Pair.{Pair}
use Rattle.fleet_model.specs.declared.tables.Tables.{Tables}
use Rattle.fleet_model.specs.Kept.{Domains, IsBare, pairs_kept}
use Rattle.fleet_model.specs.Schedule.{legs_in}
use Rattle.row_store.specs.DualValues.{AreDualValues, WeighMore}
use Rattle.row_store.specs.Table.{HasColumns, cost_row, height_of, right_side}
use Rattle.lp_rows.specs.Layout.{IsNetwork, Starts, all_kept, concat_below, starts_in}
use Rattle.lp_rows.specs.Outline.{IsOutline, column_count}
use Rattle.lp_rows.specs.Points.{priced_count}
use Rattle.lp_rows.specs.declared.outline.Outline.{Outline}
use Rattle.lp_rows.proofs.Counted.{pairs_are, parks_are}
use Rattle.simplex_frac.specs.dual_lift.Duals.{cost_den}
use Rattle.simplex_frac.specs.dual_lift.LastTables.{IsEndBy, WeighTheCost, counts_costs}
use Rattle.simplex_frac.specs.dual_lift.Readings.{IsReadingOf, duals_by, duals_excess, scale_by, value_by}
use Rattle.simplex_frac.specs.dual_lift.TooLarge.{IsLiftError}
use Rattle.simplex_frac.specs.declared.dual_lift.error.LiftError.{LiftError}
use Rattle.simplex_frac.proofs.dual_lift.BasicPoints.{few_parts}
use Rattle.simplex_frac.proofs.dual_lift.Excesses.{both_well, second_none, then_fails}
use Rattle.simplex_frac.specs.declared.dual_lift.reading.Reading.{Reading}
use Rattle.simplex_frac.specs.declared.dual_lift.reading.Reading.TheVariants.{BothRows, PhaseRow}
use Rattle.simplex_frac.specs.dual_lift.Parts.{AreParts, HaveParts, part_below}
use Rattle.simplex_frac.specs.dual_lift.Scales.{scale_below}
use Rattle.simplex_frac.proofs.dual_lift.DualRows.{dual_there, duals_den, duals_wide}
use Rattle.simplex_frac.proofs.dual_lift.EndDuals.{are_duals, best_weighs, phases_weigh, read_so}
use Rattle.dual_bound.specs.Fractions.{IsMixedAt, IsWorth}
use Rattle.dual_bound.specs.OfTables.{IsMixedOf, IsWeightOf}
use Rattle.dual_bound.specs.Prices.{ArePrices, max_scale}
use Rattle.dual_bound.specs.Worth.{worth_of}
use Rattle.dual_bound.specs.WrittenOrder.{IsMixedInOrder}
use Rattle.dual_bound.specs.declared.mixed.Mixed.{Mixed}
use Rattle.dual_bound.specs.declared.prices.Prices.{Prices}
use Rattle.price_lift.specs.Duals.{dual_value_in}
use Rattle.price_lift.specs.LastTables.{IsLastBy, IsPointBy, prices_excess_by}
use Rattle.price_lift.specs.Lifted.{AreNodePrices}
use Rattle.price_lift.specs.Parts.{IsBasicMixed, weights_at}
use Rattle.price_lift.specs.Prices.{AreByLines}
use Rattle.price_lift.specs.Steps.{prices_by}
use Rattle.price_lift.specs.TooLarge.{prices_excess}
use Rattle.price_lift.specs.Weights.{AreBasicWeights}
use Rattle.price_lift.proofs.BasicWeights.{are_basic}
use Rattle.price_lift.proofs.DualPrices.{IsDualRow, node_prices}
use Rattle.price_lift.proofs.InOrder.{mixed_in_order}
use Rattle.price_lift.proofs.LastTables.{all_long, basis_long, counted_columns, have_dens, height_is, own_columns, priced_are}
use Rattle.price_lift.proofs.OfTables.{weights_known}
use Rattle.price_lift.proofs.PointEnds.{dens, divides, have_parts, meets, point, scale_above, sides, some_dens}
use Rattle.price_lift.proofs.PointPlans as plans

pub pairs_long : (t : Tables) (keeps : Domains) (pairs : List Pair) → pairs ≡ all_kept t keeps → length pairs ≡ pairs_kept t keeps
pairs_long t keeps pairs all = ap length all ∙ pairs_are t keeps

module _ (t : Tables) (keeps : Domains) (table : List FracRow) (basis : List ℕ) (reading : Reading) (last : IsLastBy t keeps table basis reading) where
  -- ---- the shape
  pub reads : IsReadingOf table reading
  reads = read_so last.rows table basis last.reached reading last.ends

  pub columns_are : (outline : Outline) → IsOutline t keeps outline → HasColumns table (column_count outline)
  columns_are outline is = counted_columns t keeps last.rows last.lines table basis last.reached outline is

  pub basis_is : length basis ≡ height_of table
  basis_is = basis_long t keeps last.rows last.lines table basis last.reached

  -- ---- the dual values
  abbrev duals : FracRow
  duals = duals_by table reading (legs_in t)

  wide : width_of duals ≡ priced_count t last.lines.starts
  wide = duals_wide table reading (legs_in t) ∙ priced_are t keeps last.rows last.lines table basis last.reached

  pub priced_wide : (outline : Outline) → IsOutline t keeps outline → width_of duals ≡ length outline.nodes + outline.fleets + length outline.parks
  priced_wide outline is =
      omega (arith, wide, ap length is.over.nodes, all_long t keeps last.rows last.lines table basis last.reached (starts_in outline.network) is.network, is.over.fleets, ap length is.over.parks, parks_are t)

  pub dual_row : IsDualRow t last.rows last.lines.starts (counts_costs reading) (value_by table reading) duals
  dual_row = record {
    values = subst (λ d. AreDualValues last.rows (counts_costs reading) d (value_by table reading)) (sym (duals_den table reading (legs_in t))) (are_duals last.rows table basis last.reached reading last.ends);
    wide = wide;
    numbers = λ k below. dual_there table reading (legs_in t) k (omega (arith, below, priced_are t keeps last.rows last.lines table basis last.reached));
  }

  -- where no point meets the lines
  pub more : counts_costs reading ≡ 0 → WeighMore last.rows (value_by table reading)
  more = by_cases reading last.ends
    where
      by_cases : (r : Reading) → IsEndBy last.rows table basis r → counts_costs r ≡ 0 → WeighMore last.rows (value_by table r)
      by_cases (BothRows mixture) ends none = absurd (omega (arith, none))
      by_cases PhaseRow ends none = phases_weigh last.rows table basis last.reached ends

  -- ---- what a call of prices comes to
  pub lifted_prices : (starts : Starts) → IsNetwork t keeps starts → (found : FracRow) → IsRow found → found ≡ duals → duals_excess table reading (legs_in t) ≡ None → (r : Result Prices LiftError)
      → MatchResult r (λ prices. (prices_excess (legs_in t) found ≡ None) × (prices ≡ prices_by t starts (reduced found))) (IsLiftError (prices_excess (legs_in t) found))
      → MatchResult r (λ prices. (prices_excess_by t table reading ≡ None) × AreNodePrices t keeps starts duals prices) (IsLiftError (prices_excess_by t table reading))
  unfolding prices_excess_by
  lifted_prices starts network found row same well (Ok prices) is =
      let fits = subst (λ d. prices_excess (legs_in t) d ≡ None) same is.0 in (
        both_well _ _ well fits,
        node_prices t keeps last.rows last.lines (counts_costs reading) (value_by table reading) duals dual_row fits starts network (subst IsRow same row) prices (subst (λ d. prices ≡ prices_by t starts (reduced d)) same is.1),
      )
  lifted_prices starts network found row same well (Err e) is = then_fails _ _ e well (subst (λ d. IsLiftError (prices_excess (legs_in t) d) e) same is)

  pub prices_fit : prices_excess_by t table reading ≡ None → prices_excess (legs_in t) duals ≡ None
  unfolding prices_excess_by
  prices_fit well = second_none (duals_excess table reading (legs_in t)) _ well

-- ---- at a cheapest point
module _ (t : Tables) (keeps : Domains) (table : List FracRow) (basis : List ℕ) (reading : Reading) (is : IsPointBy t keeps table basis reading) where
  pub parts_are : (pairs : List Pair) → pairs ≡ all_kept t keeps → scale_below table basis (length pairs) (height_of table) ≤ max_scale → HaveParts table basis (length pairs) (scale_below table basis (length pairs) (height_of table))
  parts_are pairs all =
      subst (λ n. scale_below table basis n (height_of table) ≤ max_scale → HaveParts table basis n (scale_below table basis n (height_of table))) (sym (pairs_long t keeps pairs all)) (have_parts t keeps is.last.rows is.last.lines table basis is.last.reached is.point)

  weigh : WeighTheCost is.last.rows table (duals_by table reading (legs_in t)).den (value_by table reading)
  weigh = subst (λ d. WeighTheCost is.last.rows table d (value_by table reading)) (sym (duals_den table reading (legs_in t))) (by_cases reading is.last.ends is.costs)
    where
      by_cases : (r : Reading) → IsEndBy is.last.rows table basis r → counts_costs r ≡ 1 → WeighTheCost is.last.rows table (scale_by table r) (value_by table r)
      by_cases (BothRows mixture) ends one = best_weighs is.last.rows table basis is.last.reached ends.0
      by_cases PhaseRow ends one = absurd (omega (arith, one))

  module _ (pairs : List Pair) (all : pairs ≡ all_kept t keeps) (mixed : Mixed) (basic : IsBasicMixed table basis pairs mixed) where
    abbrev scale : ℕ
    scale = scale_below table basis (pairs_kept t keeps) (height_of table)

    abbrev part : ℕ → ℕ
    part = part_below table basis scale (height_of table)

    kept_basic : IsBasicMixed table basis (all_kept t keeps) mixed
    kept_basic = subst (λ ps. IsBasicMixed table basis ps mixed) all basic

    long : length (all_kept t keeps) ≡ pairs_kept t keeps
    long = pairs_are t keeps

    scale_is : mixed.scale ≡ pos scale
    scale_is = kept_basic.scale ∙ ap (λ n. pos (scale_below table basis n (height_of table))) long

    within : scale ≤ max_scale
    within = subst (λ n. scale_below table basis n (height_of table) ≤ max_scale) long kept_basic.within

    parts_there : AreParts part (pairs_kept t keeps) kept_basic.parts
    parts_there = subst (λ n. AreParts (part_below table basis (scale_below table basis n (height_of table)) (height_of table)) n kept_basic.parts) long kept_basic.are

    list_is : mixed.weights ≡ concat_below (weights_at (all_kept t keeps) kept_basic.parts) (pairs_kept t keeps)
    list_is = kept_basic.weights ∙ ap (λ n. concat_below (weights_at (all_kept t keeps) kept_basic.parts) n) long

    pub weights_are : AreBasicWeights t keeps table basis mixed
    weights_are =
        are_basic t keeps is.last.lines.starts table basis mixed kept_basic.parts (own_columns t keeps is.last.rows is.last.lines table basis is.last.reached) (have_dens t keeps is.last.rows is.last.lines table basis is.last.reached)
        (sides t keeps is.last.rows is.last.lines table basis is.last.reached is.point) scale_is parts_there list_is

    pub weights_of_tables : IsMixedOf t mixed
    weights_of_tables = subst (All (IsWeightOf t)) (sym list_is) (weights_known t keeps is.last.lines.starts kept_basic.parts)

    pub weights_in_order : IsMixedInOrder t mixed
    weights_in_order =
        mixed_in_order t keeps is.last.lines.starts part scale mixed kept_basic.parts
        (λ c below. few_parts table basis (pairs_kept t keeps) scale (have_parts t keeps is.last.rows is.last.lines table basis is.last.reached is.point within) (height_of table) c (omega arith) below) within scale_is parts_there list_is

    -- ---- the basic point as one over a multiple of the scale
    abbrev factor : ℕ
    factor = dens t keeps is.last.rows is.last.lines table basis is.last.reached is.point

    abbrev at : ℕ → ℕ
    at = point t keeps is.last.rows is.last.lines table basis is.last.reached is.point

    pub no_leg_bare : (l : ℕ) → ¬ (IsBare t keeps l)
    no_leg_bare =
        plans.no_leg_bare t keeps is.last.rows is.last.lines factor scale (some_dens t keeps is.last.rows is.last.lines table basis is.last.reached is.point) (scale_above t keeps is.last.rows is.last.lines table basis is.last.reached is.point) at part
        (meets t keeps is.last.rows is.last.lines table basis is.last.reached is.point).meets (divides t keeps is.last.rows is.last.lines table basis is.last.reached is.point)

    pub mixed_is : IsMixedAt t keeps mixed
    mixed_is =
        plans.is_mixed t keeps is.last.rows is.last.lines factor scale (some_dens t keeps is.last.rows is.last.lines table basis is.last.reached is.point) (scale_above t keeps is.last.rows is.last.lines table basis is.last.reached is.point) at part
        (meets t keeps is.last.rows is.last.lines table basis is.last.reached is.point).meets (divides t keeps is.last.rows is.last.lines table basis is.last.reached is.point) mixed kept_basic.parts scale_is within parts_there list_is

    pub worth_is : prices_excess (legs_in t) (duals_by table reading (legs_in t)) ≡ None → (prices : Prices) → prices.scale ≡ (reduced (duals_by table reading (legs_in t))).den
        → AreByLines t is.last.lines.starts (dual_value_in t (reduced (duals_by table reading (legs_in t)))) prices → (paid : Prices) → paid.scale ≡ prices.scale → ArePrices t paid
        → worth_of t keeps prices 1 ≤ℤ worth_of t keeps paid 1 → IsWorth t keeps paid mixed
    worth_is fits prices same_scale by_lines paid paid_scale proper grows =
        plans.is_worth t keeps is.last.rows is.last.lines factor scale (some_dens t keeps is.last.rows is.last.lines table basis is.last.reached is.point) (scale_above t keeps is.last.rows is.last.lines table basis is.last.reached is.point) at part
        (meets t keeps is.last.rows is.last.lines table basis is.last.reached is.point).meets (divides t keeps is.last.rows is.last.lines table basis is.last.reached is.point) mixed kept_basic.parts scale_is within parts_there list_is
        (value_by table reading) (duals_by table reading (legs_in t))
        (subst (λ k. IsDualRow t is.last.rows is.last.lines.starts k (value_by table reading) (duals_by table reading (legs_in t))) is.costs (dual_row t keeps table basis reading is.last)) fits
        (cost_den table) (neg_ℤ (right_side table (cost_row table))) (is.last.reached.shape.dens (cost_row table) (omega (arith, height_is t keeps is.last.rows is.last.lines table basis is.last.reached)))
        weigh.sides (meets t keeps is.last.rows is.last.lines table basis is.last.reached is.point).cost prices same_scale by_lines paid paid_scale proper grows
