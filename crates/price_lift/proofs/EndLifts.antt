-- What a lift of an end that was checked comes to, from the parts that the calls give.
use Rattle.std.proofs.Common.{◌≡◌, ℕ, zero, suc, ◌+◌, ◌*◌, ◌^◌, ◌<◌, ◌≤◌, false, List, length, All, Option, Some, None, Result, Ok, Err, IfOk, MatchResult, ℤ, pos, ◌*ℤ◌, ◌<ℤ◌, ◌≤ℤ◌, unsigned_abs, refl, sym, ◌∙◌, ap, subst, inl, inr, arith}
use Rattle.std.specs.Prelude.{int_lt}
use Rattle.std.proofs.lemmas.Int.{ints}
use Rattle.std.proofs.lemmas.List.{get_or-drop, get_or_past, length-drop}
use Rattle.sums.specs.Places.{list_below, or_else}
use Rattle.sums.proofs.Places.{get_or-list_below, length-list_below}
use Rattle.sums.proofs.Signs.{factor_le_cancel}
use Rattle.sums.proofs.Sizes.{pos_above, size_is}
use Rattle.frac_row.specs.Outgrown.{IsWithin}
use Rattle.frac_row.specs.Row.{IsRow, common_divisor, number_of, reduced, width_of}
use Rattle.frac_row.specs.declared.row.FracRow.{FracRow}
use Rattle.frac_row.proofs.Rows.{common_divisor_positive, den_times, number_times, width_of-reduced}
use Rattle.entries.specs.declared.memory.NoMemory.{NoMemory}
use Rattle.fleet_model.specs.declared.tables.Tables.{Tables}
use Rattle.fleet_model.specs.Kept.{Domains, IsBare, pairs_kept}
use Rattle.fleet_model.specs.Schedule.{legs_in}
use Rattle.row_store.specs.DualValues.{AreDualValues, weighed}
use Rattle.row_store.specs.Problem.{MeetsRows}
use Rattle.row_store.specs.declared.problem.Rows.{Rows}
use Rattle.simplex_frac.specs.end_check.Ends.{AreByLine, IsPricedEnd, IsRefusedEnd, part_in, value_in}
use Rattle.simplex_frac.specs.declared.end_check.hint.PointHint.{PointHint}
use Rattle.simplex_frac.specs.declared.end_check.hint.RefusalHint.{RefusalHint}
use Rattle.lp_rows.specs.Layout.{all_kept, concat_below, pair_at_column, starts_in}
use Rattle.lp_rows.specs.Outline.{IsOutline}
use Rattle.lp_rows.specs.Points.{AreLinesOf, priced_count}
use Rattle.lp_rows.specs.declared.outline.Outline.{Outline}
use Rattle.lp_rows.proofs.Counted.{nodes_are, pairs_are, parks_are}
use Rattle.simplex_frac.specs.dual_lift.Parts.{AreParts}
use Rattle.simplex_frac.specs.dual_lift.TooLarge.{IsLiftError}
use Rattle.simplex_frac.specs.declared.dual_lift.error.Excess.{Excess}
use Rattle.simplex_frac.specs.declared.dual_lift.error.LiftError.{LiftError}
use Rattle.simplex_frac.specs.declared.dual_lift.error.LiftError.TheVariants.{TooLarge}
use Rattle.simplex_frac.proofs.dual_lift.Excesses.{both_well, first_fails, not_excess, then_fails}
use Rattle.dual_bound.specs.Fractions.{IsMixedAt, IsWorth}
use Rattle.dual_bound.specs.OfTables.{IsWeightOf}
use Rattle.dual_bound.specs.Prices.{max_scale}
use Rattle.dual_bound.specs.declared.mixed.Mixed.{Mixed}
use Rattle.dual_bound.specs.declared.prices.Prices.{Prices}
use Rattle.price_lift.specs.ArcRises.{outline_rises}
use Rattle.price_lift.specs.EndLifts.{IsLiftOf, IsMixedOfParts, end_duals, end_excess, first_parts, lowest_end_excess, pair_parts, parts_excess, priced_values, refusing_duals, refusing_excess}
use Rattle.price_lift.specs.Lifted.{AreLiftedPrices, AreNodePrices, IsLiftedRefusal}
use Rattle.price_lift.specs.PaidBack.{paid_back, payback_excess, payback_excess_by}
use Rattle.price_lift.specs.Parts.{weights_at}
use Rattle.price_lift.specs.Steps.{prices_by}
use Rattle.price_lift.specs.TooLarge.{prices_excess}
use Rattle.price_lift.proofs.DualPrices.{IsDualRow, excess_none, node_prices, paid_grows, paid_scale, prices_lifted, same_excess, worth_refutes}
use Rattle.price_lift.proofs.InOrder.{mixed_in_order}
use Rattle.price_lift.proofs.Networks.{same_nodes}
use Rattle.price_lift.proofs.OfTables.{weights_known}
use Rattle.price_lift.proofs.PointPlans as plans
use Rattle.price_lift.proofs.ScaledPlans.{no_more_parts}
use Rattle.lp_rows.proofs.PairParts.{is_pair, part_at}
use Rattle.std.proofs.lemmas.Bool.{cases_lt}

-- ---- the values of the lines with a price
module _ (t : Tables) (keeps : Domains) (rows : Rows) (lines : AreLinesOf t keeps rows) (list : List ℤ) (by : AreByLine rows list) (scale : ℤ) where
  pub values_wide : width_of (priced_values t list scale) ≡ priced_count t lines.starts
  values_wide = omega (arith, length-drop (legs_in t) list, by.long, lines.counted.lines)

  pub values_there : (k : ℕ) → number_of (priced_values t list scale) k ≡ value_in list (legs_in t + k)
  values_there k = get_or-drop (legs_in t) list k (pos 0)

  pub values_row : (counted : ℕ) → AreDualValues rows counted scale (value_in list) → IsDualRow t rows lines.starts counted (value_in list) (priced_values t list scale)
  values_row counted values = record { values = values; wide = values_wide; numbers = λ k below. values_there k }

  pub values_long : (o : Outline) → IsOutline t keeps o → length list ≡ legs_in t + (length o.nodes + o.fleets + length o.parks)
  values_long o is = omega (arith, by.long, lines.counted.lines, nodes_are t lines.starts, ap length (same_nodes t keeps lines.starts (starts_in o.network) lines.lines.network is.network), ap length is.over.nodes, is.over.fleets, ap length is.over.parks, parks_are t)

pub priced_is_row : (t : Tables) (list : List ℤ) (scale : ℤ) → ((line : ℕ) → IsWithin (value_in list line)) → IsWithin scale → pos 0 <ℤ scale → IsRow (priced_values t list scale)
priced_is_row t list scale within scale_within some = record {
  within = λ k. subst IsWithin (sym (get_or-drop (legs_in t) list k (pos 0))) (within (legs_in t + k));
  den_within = scale_within;
  positive = some;
}

-- what a call of prices gives, by other names of its values and their scale
pub priced_by : (t : Tables) (o : Outline) (prices : Prices) (list other : List ℤ) (scale second : ℤ) → list ≡ other → scale ≡ second
    → (prices_excess (legs_in t) (priced_values t list scale) ≡ None) × (prices ≡ prices_by t (starts_in o.network) (reduced (priced_values t list scale)))
    → (prices_excess (legs_in t) (priced_values t other second) ≡ None) × (prices ≡ prices_by t (starts_in o.network) (reduced (priced_values t other second)))
priced_by t o prices list other scale second same over is =
    subst (λ s. (prices_excess (legs_in t) (priced_values t other s) ≡ None) × (prices ≡ prices_by t (starts_in o.network) (reduced (priced_values t other s)))) over
    (subst (λ values. (prices_excess (legs_in t) (priced_values t values scale) ≡ None) × (prices ≡ prices_by t (starts_in o.network) (reduced (priced_values t values scale)))) same is)

-- ---- parts in lowest terms
module _ (point : List ℕ) (scale count : ℕ) (some : 0 < scale) where
  abbrev row : FracRow
  row = first_parts point scale count

  abbrev pub factor : ℕ
  factor = common_divisor row

  abbrev pub lowest_part : ℕ → ℕ
  lowest_part c = unsigned_abs (number_of (reduced row) c)

  abbrev pub lowest_scale : ℕ
  lowest_scale = unsigned_abs (reduced row).den

  den_above : pos 0 <ℤ row.den
  den_above = pos_above scale some

  pub factor_above : 0 < factor
  factor_above = common_divisor_positive row den_above

  -- of a natural number's divided one
  at_least_0 : (z : ℤ) (n : ℕ) → pos factor *ℤ z ≡ pos n → pos 0 ≤ℤ z
  at_least_0 z n e = factor_le_cancel (pos factor) (pos 0) z (pos_above factor factor_above) (omega (arith, ints, nothing, e))
    where
      nothing : pos factor *ℤ pos 0 ≡ pos 0
      nothing = times_zero factor
        where
          times_zero : (n : ℕ) → pos n *ℤ pos 0 ≡ pos 0
          times_zero n = omega (arith, ints)

  natural : (z : ℤ) (n : ℕ) → pos factor *ℤ z ≡ pos n → (z ≡ pos (unsigned_abs z)) × (n ≡ factor * unsigned_abs z)
  natural z n e =
      let is = size_is z (at_least_0 z n e) in
      (sym is, sym (ap unsigned_abs (ap (λ y. pos factor *ℤ y) is ∙ e)))

  number_is : (c : ℕ) → c < count → number_of row c ≡ pos (part_in point c)
  number_is c below = get_or-list_below (λ column. pos (part_in point column)) count c (pos 0) below

  pub part_is : (c : ℕ) → c < count → (number_of (reduced row) c ≡ pos (lowest_part c)) × (part_in point c ≡ factor * lowest_part c)
  part_is c below = natural (number_of (reduced row) c) (part_in point c) (number_times row c ∙ number_is c below)

  pub scale_is : ((reduced row).den ≡ pos lowest_scale) × (scale ≡ factor * lowest_scale)
  scale_is = natural (reduced row).den scale (den_times row)

  pub lowest_above : 0 < lowest_scale
  lowest_above = above factor lowest_scale (subst (λ n. 0 < n) scale_is.1 some)
    where
      above : (a b : ℕ) → 0 < a * b → 0 < b
      above a zero more = absurd (omega (arith, more))
      above a (suc b) more = omega arith

  pub lowest_numbers : AreParts lowest_part count (reduced row).numbers
  lowest_numbers = record {
    all = width_of-reduced row ∙ length-list_below (λ column. pos (part_in point column)) count;
    each = λ c below. (part_is c below).0;
  }

  pub within_scale : parts_excess row ≡ None → lowest_scale ≤ max_scale
  within_scale fits = small lowest_scale (subst (λ z. int_lt (pos max_scale) z ≡ false) scale_is.0 (not_excess _ _ _ fits))
    where
      small : (n : ℕ) → int_lt (pos max_scale) (pos n) ≡ false → n ≤ max_scale
      small n e = grind (arith, ints)

-- what is known to be a row is one
pub is_row_of : (row : FracRow) (r : Result FracRow NoMemory) → IfOk r (λ made. made ≡ row) → IsRow row → IfOk r IsRow
is_row_of _ (Ok made) same is = subst IsRow (sym same) is
is_row_of _ (Err e) same is = tt

-- it is a row where the numbers have 64 bits
pub parts_row : (point : List ℕ) (scale count : ℕ) → 0 < scale → scale < 2 ^ 64 → ((k : ℕ) → part_in point k < 2 ^ 64) → IsRow (first_parts point scale count)
parts_row point scale count some fits few = record {
  within = λ k. elim (cases_lt k count) [
    | inl below ↦ subst IsWithin (sym (get_or-list_below (λ column. pos (part_in point column)) count k (pos 0) below)) (omega (arith, few k))
    | inr past ↦ subst IsWithin (sym (get_or_past (list_below (λ column. pos (part_in point column)) count) k (pos 0) (omega (arith, past, length-list_below (λ column. pos (part_in point column)) count)))) (omega arith)
  ];
  den_within = omega (arith, fits);
  positive = pos_above scale some;
}

-- ---- a lift of a point
module _ (t : Tables) (keeps : Domains) (rows : Rows) (lines : AreLinesOf t keeps rows) (hint : PointHint) (end : IsPricedEnd rows hint) (o : Outline) (is : IsOutline t keeps o) where
  pub point_row : IsDualRow t rows lines.starts 1 (value_in hint.duals) (end_duals t hint)
  point_row = values_row t keeps rows lines hint.duals end.duals hint.dual_scale 1 end.values

  pub pairs_within : length o.pairs ≤ length hint.point
  pairs_within = omega (arith, ap length is.pairs, pairs_are t keeps, end.long, lines.counted.columns)

  same_pairs : first_parts hint.point hint.scale (length o.pairs) ≡ pair_parts t keeps hint
  same_pairs = ap (first_parts hint.point hint.scale) (ap length is.pairs ∙ pairs_are t keeps)

  -- in lowest terms, by the pairs of the outline
  abbrev pub lowest_by_outline : Option Excess
  lowest_by_outline = or_else (prices_excess (legs_in t) (end_duals t hint)) (parts_excess (first_parts hint.point hint.scale (length o.pairs)))

  pub lowest_is : lowest_by_outline ≡ lowest_end_excess t keeps hint
  lowest_is = ap (λ parts. or_else (prices_excess (legs_in t) (end_duals t hint)) (parts_excess parts)) same_pairs

  pub lowest_fails : (excess : Excess) → lowest_by_outline ≡ Some excess → IsLiftError (end_excess t keeps hint (starts_in o.network)) (TooLarge excess.step excess.at)
  unfolding end_excess
  lowest_fails excess first = in_front (prices_excess (legs_in t) (end_duals t hint)) (parts_excess (pair_parts t keeps hint)) (payback_excess_by t keeps (starts_in o.network) (end_duals t hint)) excess (sym lowest_is ∙ first)
    where
      in_front : (a b c : Option Excess) (x : Excess) → or_else a b ≡ Some x → or_else a (or_else b c) ≡ Some x
      in_front (Some y) b c x e = e
      in_front None (Some y) c x e = e
      in_front None None c x e = cc

  module _ (before : Prices) (priced : (prices_excess (legs_in t) (end_duals t hint) ≡ None) × (before ≡ prices_by t (starts_in o.network) (reduced (end_duals t hint)))) (row : IsRow (end_duals t hint)) where
    pub nodes_priced : AreNodePrices t keeps (starts_in o.network) (end_duals t hint) before
    nodes_priced = node_prices t keeps rows lines 1 (value_in hint.duals) (end_duals t hint) point_row priced.0 (starts_in o.network) is.network row before priced.1

    pub mixed_fails : (e : LiftError) → IsLiftError (parts_excess (first_parts hint.point hint.scale (length o.pairs))) e → IsLiftError (end_excess t keeps hint (starts_in o.network)) e
    unfolding end_excess
    mixed_fails e fails = then_fails _ _ e priced.0 (first_fails _ _ e (subst (λ p. IsLiftError (parts_excess p) e) same_pairs fails))

    module _ (mixed : Mixed) (made : (parts_excess (first_parts hint.point hint.scale (length o.pairs)) ≡ None) × IsMixedOfParts (first_parts hint.point hint.scale (length o.pairs)) o.pairs mixed) where
      fits : parts_excess (pair_parts t keeps hint) ≡ None
      fits = ap parts_excess (sym same_pairs) ∙ made.0

      of_parts : IsMixedOfParts (pair_parts t keeps hint) (all_kept t keeps) mixed
      of_parts = subst (λ ps. IsMixedOfParts (pair_parts t keeps hint) ps mixed) is.pairs (subst (λ p. IsMixedOfParts p o.pairs mixed) same_pairs made.1)

      pub paying_fails : (e : LiftError) → IsLiftError (payback_excess t before (outline_rises t o before)) e → IsLiftError (end_excess t keeps hint (starts_in o.network)) e
      unfolding end_excess
      paying_fails e fails = then_fails _ _ e priced.0 (then_fails _ _ e fits (subst (λ x. IsLiftError x e) (same_excess t keeps rows lines 1 (value_in hint.duals) (end_duals t hint) point_row priced.0 o is before nodes_priced) fails))

      -- ---- the fractional assignment
      abbrev n : ℕ
      n = pairs_kept t keeps

      list_is : mixed.weights ≡ concat_below (weights_at (all_kept t keeps) (reduced (pair_parts t keeps hint)).numbers) n
      list_is = of_parts.weights ∙ ap (concat_below (weights_at (all_kept t keeps) (reduced (pair_parts t keeps hint)).numbers)) (pairs_are t keeps)

      mixed_scale : mixed.scale ≡ pos (lowest_scale hint.point hint.scale n end.some)
      mixed_scale = of_parts.scale ∙ (scale_is hint.point hint.scale n end.some).0

      within : lowest_scale hint.point hint.scale n end.some ≤ max_scale
      within = within_scale hint.point hint.scale n end.some fits

      meets : MeetsRows rows (factor hint.point hint.scale n end.some * lowest_scale hint.point hint.scale n end.some) (part_in hint.point)
      meets = subst (λ s. MeetsRows rows s (part_in hint.point)) (scale_is hint.point hint.scale n end.some).1 end.meets

      divides : (c : ℕ) → c < n → part_in hint.point c ≡ factor hint.point hint.scale n end.some * lowest_part hint.point hint.scale n end.some c
      divides c below = (part_is hint.point hint.scale n end.some c below).1

      module _ (paid : Prices) (facts : (payback_excess t before (outline_rises t o before) ≡ None) × (paid ≡ paid_back t before (outline_rises t o before))) where
        lifted : AreLiftedPrices t keeps (end_duals t hint) paid
        lifted = prices_lifted t keeps rows lines 1 (value_in hint.duals) (end_duals t hint) point_row priced.0 o is before nodes_priced paid facts

        few : (c : ℕ) → c < n → IsWithin (pos (lowest_part hint.point hint.scale n end.some c))
        few c below =
            let planned =
            plans.plan t keeps rows lines (factor hint.point hint.scale n end.some) (lowest_scale hint.point hint.scale n end.some) (factor_above hint.point hint.scale n end.some) (lowest_above hint.point hint.scale n end.some) (part_in hint.point) (lowest_part hint.point hint.scale n end.some) meets divides in
            let most = no_more_parts t keeps (lowest_scale hint.point hint.scale n end.some) _ planned (pair_at_column t keeps c) (is_pair t keeps lines.starts c below) in
            omega (arith, most, part_at t keeps lines.starts (lowest_part hint.point hint.scale n end.some) c below, within)

        each : (l : ℕ) → ¬ (IsBare t keeps l)
        each = plans.no_leg_bare t keeps rows lines (factor hint.point hint.scale n end.some) (lowest_scale hint.point hint.scale n end.some) (factor_above hint.point hint.scale n end.some) (lowest_above hint.point hint.scale n end.some) (part_in hint.point) (lowest_part hint.point hint.scale n end.some) meets divides

        plan : IsMixedAt t keeps mixed
        plan =
            plans.is_mixed t keeps rows lines (factor hint.point hint.scale n end.some) (lowest_scale hint.point hint.scale n end.some) (factor_above hint.point hint.scale n end.some) (lowest_above hint.point hint.scale n end.some) (part_in hint.point) (lowest_part hint.point hint.scale n end.some) meets divides mixed
            (reduced (pair_parts t keeps hint)).numbers mixed_scale within (lowest_numbers hint.point hint.scale n end.some) list_is

        value : IsWorth t keeps paid mixed
        value =
            plans.is_worth t keeps rows lines (factor hint.point hint.scale n end.some) (lowest_scale hint.point hint.scale n end.some) (factor_above hint.point hint.scale n end.some) (lowest_above hint.point hint.scale n end.some) (part_in hint.point) (lowest_part hint.point hint.scale n end.some) meets divides mixed
            (reduced (pair_parts t keeps hint)).numbers mixed_scale within (lowest_numbers hint.point hint.scale n end.some) list_is (value_in hint.duals) (end_duals t hint) point_row priced.0 hint.dual_scale (weighed rows (value_in hint.duals) rows.columns) end.values.some refl
            (end.same ∙ ap (λ s. weighed rows (value_in hint.duals) rows.columns *ℤ pos s) (scale_is hint.point hint.scale n end.some).1) before nodes_priced.scale (nodes_priced.by_lines lines.starts lines.lines.network) paid
            (paid_scale t keeps rows lines 1 (value_in hint.duals) (end_duals t hint) point_row priced.0 o is before nodes_priced paid facts) lifted.good.proper
            (paid_grows t keeps rows lines 1 (value_in hint.duals) (end_duals t hint) point_row priced.0 o is before nodes_priced paid facts each 1)

        pub end_lifted : (end_excess t keeps hint (starts_in o.network) ≡ None) × IsLiftOf t keeps hint (record { prices = paid; mixed = mixed })
        unfolding end_excess
        end_lifted = (
          both_well _ _ priced.0 (both_well _ _ fits (excess_none t keeps rows lines 1 (value_in hint.duals) (end_duals t hint) point_row priced.0 o is before nodes_priced paid facts)),
          record {
            prices = lifted;
            weights = of_parts;
            best = record {
              good = lifted.good;
              known = subst (All (IsWeightOf t)) (sym list_is) (weights_known t keeps lines.starts (reduced (pair_parts t keeps hint)).numbers);
              in_order = mixed_in_order t keeps lines.starts (lowest_part hint.point hint.scale n end.some) (lowest_scale hint.point hint.scale n end.some) mixed (reduced (pair_parts t keeps hint)).numbers few within mixed_scale (lowest_numbers hint.point hint.scale n end.some) list_is;
              mixed_at = plan;
              value = value;
            };
          },
        )

-- ---- a lift of a refusal
module _ (t : Tables) (keeps : Domains) (rows : Rows) (lines : AreLinesOf t keeps rows) (hint : RefusalHint) (end : IsRefusedEnd rows hint) (o : Outline) (is : IsOutline t keeps o) where
  refusal_row : IsDualRow t rows lines.starts 0 (value_in hint.multipliers) (refusing_duals t hint)
  refusal_row = values_row t keeps rows lines hint.multipliers end.multipliers (pos 1) 0 end.values

  module _ (before : Prices) (priced : (prices_excess (legs_in t) (refusing_duals t hint) ≡ None) × (before ≡ prices_by t (starts_in o.network) (reduced (refusing_duals t hint)))) (row : IsRow (refusing_duals t hint)) where
    pub refusing_priced : AreNodePrices t keeps (starts_in o.network) (refusing_duals t hint) before
    refusing_priced = node_prices t keeps rows lines 0 (value_in hint.multipliers) (refusing_duals t hint) refusal_row priced.0 (starts_in o.network) is.network row before priced.1

    refusing_fails : (e : LiftError) → IsLiftError (payback_excess t before (outline_rises t o before)) e → IsLiftError (refusing_excess t keeps hint (starts_in o.network)) e
    unfolding refusing_excess
    refusing_fails e fails = then_fails _ _ e priced.0 (subst (λ x. IsLiftError x e) (same_excess t keeps rows lines 0 (value_in hint.multipliers) (refusing_duals t hint) refusal_row priced.0 o is before refusing_priced) fails)

    refusing_lifted : (paid : Prices) → (payback_excess t before (outline_rises t o before) ≡ None) × (paid ≡ paid_back t before (outline_rises t o before))
        → (refusing_excess t keeps hint (starts_in o.network) ≡ None) × IsLiftedRefusal t keeps (refusing_duals t hint) paid
    unfolding refusing_excess
    refusing_lifted paid facts =
        let lifted = prices_lifted t keeps rows lines 0 (value_in hint.multipliers) (refusing_duals t hint) refusal_row priced.0 o is before refusing_priced paid facts in (
          both_well _ _ priced.0 (excess_none t keeps rows lines 0 (value_in hint.multipliers) (refusing_duals t hint) refusal_row priced.0 o is before refusing_priced paid facts),
          record {
            lifted = lifted;
            refutes = λ each. record {
              good = lifted.good;
              refute = worth_refutes t keeps rows lines 0 (value_in hint.multipliers) (refusing_duals t hint) refusal_row priced.0 o is before refusing_priced paid facts refl end.more each;
            };
          },
        )

    pub refusing_paid : (r : Result Prices LiftError) → MatchResult r (λ paid. (payback_excess t before (outline_rises t o before) ≡ None) × (paid ≡ paid_back t before (outline_rises t o before))) (IsLiftError (payback_excess t before (outline_rises t o before)))
        → MatchResult r (λ paid. (refusing_excess t keeps hint (starts_in o.network) ≡ None) × IsLiftedRefusal t keeps (refusing_duals t hint) paid) (IsLiftError (refusing_excess t keeps hint (starts_in o.network)))
    refusing_paid (Ok paid) facts = refusing_lifted paid facts
    refusing_paid (Err e) fails = refusing_fails e fails
