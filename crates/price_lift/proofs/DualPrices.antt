-- Prices of dual values of a subproblem's lines: by the nodes, and paid back.
use Rattle.std.proofs.Common.{◌≡◌, ℕ, ◌+◌, ◌<◌, ◌≤◌, List, length, None, ℤ, pos, ◌<ℤ◌, ◌≤ℤ◌, refl, sym, ◌∙◌, ap, subst, arith}
use Rattle.std.proofs.lemmas.Int.{ints}
use Rattle.frac_row.specs.Row.{IsRow, number_of, reduced, width_of}
use Rattle.frac_row.specs.declared.row.FracRow.{FracRow}
use Rattle.fleet_model.specs.declared.tables.Tables.{Tables}
use Rattle.fleet_model.specs.Kept.{Domains, IsBare}
use Rattle.fleet_model.specs.Schedule.{fleets_in, legs_in, period_of, stations_in}
use Rattle.row_store.specs.DualValues.{AreDualValues, WeighMore}
use Rattle.row_store.specs.declared.problem.Rows.{Rows}
use Rattle.lp_rows.specs.Layout.{IsNetwork, Starts, starts_in}
use Rattle.lp_rows.specs.Outline.{IsOutline}
use Rattle.lp_rows.specs.Points.{AreLinesOf, priced_count}
use Rattle.lp_rows.specs.declared.outline.Outline.{Outline}
use Rattle.dual_bound.specs.OfTables.{ArePricesOf}
use Rattle.dual_bound.specs.Worth.{worth_of}
use Rattle.dual_bound.specs.declared.prices.Prices.{Prices}
use Rattle.island_prices.specs.declared.rises.Rise.{Rise}
use Rattle.price_lift.specs.ArcRises.{outline_rises, rises_by}
use Rattle.price_lift.specs.Duals.{dual_value_in}
use Rattle.price_lift.specs.Lifted.{AreLiftedPrices, AreNodePrices}
use Rattle.price_lift.specs.PaidBack.{moments_by, paid_back, payback_excess, payback_excess_by}
use Rattle.price_lift.specs.Prices.{AreByLines}
use Rattle.price_lift.specs.Steps.{prices_by}
use Rattle.price_lift.specs.TooLarge.{prices_excess}
use Rattle.price_lift.proofs.ArcRises.{are_arc_rises}
use Rattle.price_lift.proofs.ByLines.{by_each_network}
use Rattle.price_lift.proofs.IslandMoments.{one_day_where}
use Rattle.price_lift.proofs.InOrder.{prices_in_order}
use Rattle.price_lift.proofs.LastTables.{low, refutes}
use Rattle.price_lift.proofs.OfTables.{charges_known, steps_known}
use Rattle.price_lift.proofs.OutlineRises.{few_there, outline_rises_are}
use Rattle.price_lift.proofs.PaidLifts.{ArePaidWell, ArePricesLow, low_by_other, paid_well}

-- a row has dual values of the lines with a price
pub record IsDualRow (t : Tables) (rows : Rows) (starts : Starts) (counted : ℕ) (y : ℕ → ℤ) (duals : FracRow) : Type 0 where
  pub values : AreDualValues rows counted duals.den y
  pub wide : width_of duals ≡ priced_count t starts
  pub numbers : (k : ℕ) → k < priced_count t starts → number_of duals k ≡ y (legs_in t + k)

module _ (t : Tables) (keeps : Domains) (rows : Rows) (lines : AreLinesOf t keeps rows) (counted : ℕ) (y : ℕ → ℤ) (duals : FracRow) (is : IsDualRow t rows lines.starts counted y duals)
    (fits : prices_excess (legs_in t) duals ≡ None) where
  -- ---- by the nodes
  pub node_prices : (starts : Starts) → IsNetwork t keeps starts → IsRow duals → (prices : Prices) → prices ≡ prices_by t starts (reduced duals) → AreNodePrices t keeps starts duals prices
  node_prices starts network row prices by = record {
    scale = ap (λ p. p.scale) by;
    by = by;
    by_lines = by_lines;
    of_tables = subst (ArePricesOf t) (sym by) (record { steps = steps_known t starts _; charges = charges_known t _ });
    limits = (low t keeps rows lines counted y duals is.values fits is.wide is.numbers prices (ap (λ p. p.scale) by) (by_lines lines.starts lines.lines.network)).limits;
    in_order = prices_in_order t keeps duals prices row (record { starts = starts; network = network; is = by });
  }
    where
      by_lines : (other : Starts) → IsNetwork t keeps other → AreByLines t other (dual_value_in t (reduced duals)) prices
      by_lines other second = subst (AreByLines t other (dual_value_in t (reduced duals))) (sym by) (by_each_network t keeps starts other (reduced duals) network second)

  -- ---- paid back
  module _ (starts : Starts) (network : IsNetwork t keeps starts) (few : (f s : ℕ) → f < fleets_in t → s < stations_in t → length (starts f s) ≤ period_of t)
      (prices : Prices) (are : AreNodePrices t keeps starts duals prices) where
    pub low_there : ArePricesLow t keeps starts prices
    low_there =
        low_by_other t keeps lines.starts starts lines.lines.network network prices
        (low t keeps rows lines counted y duals is.values fits is.wide is.numbers prices are.scale (are.by_lines lines.starts lines.lines.network))

    abbrev pub rises : List Rise
    rises = rises_by t starts (moments_by t keeps starts) prices

    pub excess_is : payback_excess t prices rises ≡ payback_excess_by t keeps starts duals
    unfolding payback_excess_by
    excess_is = ap (λ p. payback_excess t p (rises_by t starts (moments_by t keeps starts) p)) are.by

    pub well_paid : payback_excess t prices rises ≡ None → ArePaidWell t keeps starts prices low_there (paid_back t prices rises)
    well_paid small = paid_well t keeps starts prices low_there are.in_order are.of_tables rises (are_arc_rises t starts (moments_by t keeps starts) prices (one_day_where t keeps starts network) few) small

    pub lifted_are : payback_excess t prices rises ≡ None → AreLiftedPrices t keeps duals (paid_back t prices rises)
    lifted_are small =
        let well = well_paid small in
        record {
          scale = well.scale ∙ are.scale;
          paid = record { before = prices; by_lines = are.by_lines; starts = starts; network = network; paid = refl };
          good = record { proper = well.proper; known = well.of_tables; in_order = well.in_order };
        }

    -- where the right sides weigh more than 0
    pub refuted : payback_excess t prices rises ≡ None → counted ≡ 0 → WeighMore rows y → ((l : ℕ) → ¬ (IsBare t keeps l)) → pos 0 <ℤ worth_of t keeps (paid_back t prices rises) 0
    refuted small none more each =
        let before : pos 0 <ℤ worth_of t keeps prices 0 =
        subst (λ k. pos 0 <ℤ worth_of t keeps prices k) none
        (refutes t keeps rows lines counted y duals is.values fits is.wide is.numbers prices are.scale (are.by_lines lines.starts lines.lines.network) more each) in
        omega (arith, ints, before, (well_paid small).worth each 0)

  -- ---- by the outline of the kept pairs
  module _ (o : Outline) (outline : IsOutline t keeps o) (before : Prices) (are : AreNodePrices t keeps (starts_in o.network) duals before) where
    -- what is first too large by the outline is so by the dual values
    pub same_excess : payback_excess t before (outline_rises t o before) ≡ payback_excess_by t keeps (starts_in o.network) duals
    same_excess = ap (payback_excess t before) (outline_rises_are t keeps o outline before) ∙ excess_is (starts_in o.network) outline.network (few_there t keeps o outline before) before are

    module _ (paid : Prices) (facts : (payback_excess t before (outline_rises t o before) ≡ None) × (paid ≡ paid_back t before (outline_rises t o before))) where
      pub small : payback_excess t before (rises (starts_in o.network) outline.network (few_there t keeps o outline before) before are) ≡ None
      small = sym (ap (payback_excess t before) (outline_rises_are t keeps o outline before)) ∙ facts.0

      pub paid_is : paid ≡ paid_back t before (rises_by t (starts_in o.network) (moments_by t keeps (starts_in o.network)) before)
      paid_is = facts.1 ∙ ap (paid_back t before) (outline_rises_are t keeps o outline before)

      pub excess_none : payback_excess_by t keeps (starts_in o.network) duals ≡ None
      excess_none = sym same_excess ∙ facts.0

      pub prices_lifted : AreLiftedPrices t keeps duals paid
      prices_lifted = subst (AreLiftedPrices t keeps duals) (sym paid_is) (lifted_are (starts_in o.network) outline.network (few_there t keeps o outline before) before are small)

      pub worth_refutes : counted ≡ 0 → WeighMore rows y → ((l : ℕ) → ¬ (IsBare t keeps l)) → pos 0 <ℤ worth_of t keeps paid 0
      worth_refutes none more each = subst (λ p. pos 0 <ℤ worth_of t keeps p 0) (sym paid_is) (refuted (starts_in o.network) outline.network (few_there t keeps o outline before) before are small none more each)

      pub paid_scale : paid.scale ≡ before.scale
      paid_scale = ap (λ p. p.scale) paid_is ∙ (well_paid (starts_in o.network) outline.network (few_there t keeps o outline before) before are small).scale

      pub paid_grows : ((l : ℕ) → ¬ (IsBare t keeps l)) → (k : ℕ) → worth_of t keeps before k ≤ℤ worth_of t keeps paid k
      paid_grows each k = subst (λ p. worth_of t keeps before k ≤ℤ worth_of t keeps p k) (sym paid_is) ((well_paid (starts_in o.network) outline.network (few_there t keeps o outline before) before are small).worth each k)
