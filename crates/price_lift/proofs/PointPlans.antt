-- The fractional assignment of a point's pair part, over a scale that is divided, and that it costs what prices are worth.
use Rattle.std.proofs.Common.{◌≡◌, ℕ, ◌*◌, ◌<◌, ◌≤◌, false, List, None, ℤ, pos, ◌*ℤ◌, ◌<ℤ◌, ◌≤ℤ◌, unsigned_abs, sym, ◌∙◌, ap, subst, arith}
use Rattle.std.proofs.lemmas.Int.{ints}
use lib.IntN.{*ℤ_comm}
use Rattle.sums.proofs.Counts.{count_below-some}
use Rattle.sums.proofs.Integers.{*ℤ_assoc, *ℤ_cancel, *ℤ_left_comm, one-*ℤ}
use Rattle.sums.proofs.Sums.{sum_below-agree, sum_below-zero}
use Rattle.sums.proofs.Orders.{factor_le}
use Rattle.sums.proofs.Signs.{factor_le_cancel}
use Rattle.sums.proofs.Sizes.{above_is_some, pos_above}
use Rattle.sums.proofs.Tests.{by_test, never_passes}
use Rattle.frac_row.specs.Row.{reduced}
use Rattle.frac_row.specs.declared.row.FracRow.{FracRow}
use Rattle.fleet_model.specs.declared.parts.Pair.{Pair}
use Rattle.fleet_model.specs.declared.tables.Tables.{Tables}
use Rattle.fleet_model.specs.Counts.{Weights}
use Rattle.fleet_model.specs.Kept.{Domains, IsBare, pairs_kept}
use Rattle.fleet_model.specs.Mixed.{IsMixedPlan, mixed_cost, weight_on}
use Rattle.fleet_model.specs.Schedule.{IsPair, choices_in, leg_on, legs_in}
use Rattle.row_store.specs.DualValues.{weighed}
use Rattle.row_store.specs.Problem.{MeetsRows, point_cost}
use Rattle.row_store.specs.declared.problem.Rows.{Rows}
use Rattle.lp_rows.specs.declared.kinds.Column.{Column}
use Rattle.lp_rows.specs.Layout.{Starts, all_kept, concat_below, program_columns}
use Rattle.lp_rows.specs.Points.{AreLinesOf, pair_part}
use Rattle.lp_rows.proofs.ColumnPlaces.{pair_column}
use Rattle.lp_rows.proofs.PairParts.{part_at, same_parts}
use Rattle.lp_rows.proofs.Places.{nothing_there}
use Rattle.simplex_frac.specs.dual_lift.Parts.{AreParts}
use Rattle.dual_bound.specs.Fractions.{IsMixedAt, IsWeight, IsWorth, parts_in}
use Rattle.dual_bound.specs.Mixed.{weight_in}
use Rattle.dual_bound.specs.Prices.{ArePrices, IsScale, max_scale}
use Rattle.dual_bound.specs.Worth.{worth_of}
use Rattle.dual_bound.specs.declared.mixed.Mixed.{Mixed}
use Rattle.dual_bound.specs.declared.prices.Prices.{Prices}
use Rattle.dual_bound.proofs.Duality.{weak_duality}
use Rattle.price_lift.specs.Duals.{dual_value_in}
use Rattle.price_lift.specs.Parts.{weights_at}
use Rattle.price_lift.specs.Prices.{AreByLines}
use Rattle.price_lift.specs.TooLarge.{prices_excess}
use Rattle.price_lift.proofs.BasicWeights.{by_column}
use Rattle.price_lift.proofs.DualPrices.{IsDualRow}
use Rattle.price_lift.proofs.LastTables.{divisor, divisor_above, reaches, scale_times}
use Rattle.price_lift.proofs.ScaledPlans.{multiple_costs, no_more_parts, of_smaller_scale}

-- ---- numbers
from_both : (a b : ℤ) → a ≤ℤ b → b ≤ℤ a → a ≡ b
from_both a b p q = omega (arith, ints)

-- a worth w over s that reaches what right sides Y over S come to is the cost m over q of a point that it bounds, where
-- both are v over C
pub value_is_worth : (m s w q h D S Y C v : ℤ) → pos 0 <ℤ h → pos 0 <ℤ D → pos 0 <ℤ C → pos 0 ≤ℤ q → h *ℤ s ≡ S → Y ≤ℤ (h *ℤ w) → Y *ℤ C ≡ v *ℤ S → (D *ℤ m) *ℤ C ≡ v *ℤ (D *ℤ q) → (q *ℤ w) ≤ℤ (s *ℤ m)
    → m *ℤ s ≡ w *ℤ q
value_is_worth m s w q h D S Y C v above many more some scale reach weighs cost weak =
    *ℤ_comm m s ∙ from_both (s *ℤ m) (q *ℤ w) (factor_le_cancel h (s *ℤ m) (q *ℤ w) above (subst (λ z. z ≤ℤ (h *ℤ (q *ℤ w))) (sym paid) (subst (λ z. (q *ℤ Y) ≤ℤ z) (*ℤ_left_comm q h w) (factor_le q Y (h *ℤ w) some reach)))) weak ∙ *ℤ_comm q w
  where
    -- the cost without the common factor
    once : m *ℤ C ≡ v *ℤ q
    once = *ℤ_cancel D (m *ℤ C) (v *ℤ q) many (sym (*ℤ_assoc D m C) ∙ cost ∙ *ℤ_left_comm (v) D q)

    by_point : C *ℤ (h *ℤ (s *ℤ m)) ≡ S *ℤ (v *ℤ q)
    by_point = ap (λ z. C *ℤ z) (sym (*ℤ_assoc h s m)) ∙ *ℤ_left_comm C (h *ℤ s) m ∙ ap (λ z. z *ℤ (C *ℤ m)) scale ∙ ap (λ z. S *ℤ z) (*ℤ_comm C m ∙ once)

    by_sides : C *ℤ (q *ℤ Y) ≡ S *ℤ (v *ℤ q)
    by_sides = *ℤ_left_comm C q Y ∙ ap (λ z. q *ℤ z) (*ℤ_comm C Y ∙ weighs) ∙ *ℤ_left_comm q (v) S ∙ ap (λ z. v *ℤ z) (*ℤ_comm q S) ∙ *ℤ_left_comm (v) S q

    paid : h *ℤ (s *ℤ m) ≡ q *ℤ Y
    paid = *ℤ_cancel C (h *ℤ (s *ℤ m)) (q *ℤ Y) more (by_point ∙ sym by_sides)

-- a plan of a scale above 0 leaves no leg bare
pub no_bare : (t : Tables) (keeps : Domains) (scale : ℕ) (w : Weights) → 0 < scale → IsMixedPlan t keeps scale w → (l : ℕ) → ¬ (IsBare t keeps l)
no_bare t keeps scale w some plan l bare = omega (arith, some, plan.cover l bare.within, nothing)
  where
    not_kept : (c : ℕ) → c < choices_in t l → keeps (leg_on l c) ≡ false
    not_kept c known = never_passes (keeps (leg_on l c)) (λ kept. omega (arith, bare.none, count_below-some (λ d. keeps (leg_on l d)) (choices_in t l) c known kept))

    nothing : weight_on t w l ≡ 0
    nothing = sum_below-agree (λ c. w (leg_on l c)) (λ c. 0) (choices_in t l) (record { each = λ c known. plan.kept (leg_on l c) (record { leg = bare.within; choice = known }) (not_kept c known) }) ∙ sum_below-zero (choices_in t l)

-- ---- a point of a multiple of a scale, whose pairs have the same multiple of parts
module _ (t : Tables) (keeps : Domains) (rows : Rows) (lines : AreLinesOf t keeps rows) (factor scale : ℕ) (many : 0 < factor) (scale_above : 0 < scale) (point parts : ℕ → ℕ)
    (meets : MeetsRows rows (factor * scale) point) (divides : (c : ℕ) → c < pairs_kept t keeps → point c ≡ factor * parts c) where
  abbrev net : Starts
  net = lines.starts

  abbrev cols : List Column
  cols = program_columns t keeps net

  -- its pair part, over the scale
  abbrev pub share : Weights
  share = pair_part cols parts

  shares : (p : Pair) → pair_part cols point p ≡ factor * share p
  shares p = same_parts t keeps net factor point parts divides p

  pub plan : IsMixedPlan t keeps scale share
  plan = of_smaller_scale t factor (pair_part cols point) share (λ p known. shares p) keeps scale many (lines.points_are_plans (factor * scale) point meets)

  pub no_leg_bare : (l : ℕ) → ¬ (IsBare t keeps l)
  no_leg_bare = no_bare t keeps scale share scale_above plan

  -- ---- the fractional assignment
  module _ (mixed : Mixed) (list : List ℤ) (is_scale : mixed.scale ≡ pos scale) (within : scale ≤ max_scale) (are : AreParts parts (pairs_kept t keeps) list)
      (weights : mixed.weights ≡ concat_below (weights_at (all_kept t keeps) list) (pairs_kept t keeps)) where
    -- a pair's weight is its share of the point
    weight_is : (p : Pair) → IsPair t p → weight_in mixed p ≡ pos (share p)
    weight_is p known =
        by_column t keeps net mixed parts list are weights p
        (λ w. w ≡ pos (share p))
        (λ c below same. ap pos (sym (part_at t keeps net parts c below) ∙ ap share same))
        (λ missing. ap pos (sym (by_test (keeps p)
        (λ kept. let pair = pair_column t keeps net p known kept in absurd (missing pair.0 pair.1 pair.2))
        (λ not_kept. nothing_there t keeps net parts p not_kept))))

    shares_are : (p : Pair) → IsPair t p → share p ≡ 1 * parts_in mixed p
    shares_are p known = let size : parts_in mixed p ≡ share p = ap unsigned_abs (weight_is p known) in omega (arith, size)

    mixed_plan : IsMixedPlan t keeps scale (parts_in mixed)
    mixed_plan = of_smaller_scale t 1 share (parts_in mixed) shares_are keeps scale (omega arith) (subst (λ q. IsMixedPlan t keeps q share) (one scale) plan)
      where
        one : (n : ℕ) → n ≡ 1 * n
        one n = omega arith

    pub is_mixed : IsMixedAt t keeps mixed
    is_mixed = record {
      parts = record {
        scale = subst IsScale (sym is_scale) (record { some = at_least scale scale_above; within = at_most scale within });
        each = λ l below f known.
            let p = leg_on l f in
            let pair : IsPair t p = record { leg = below; choice = known } in
            subst (λ w. IsWeight mixed.scale w) (sym (weight_is p pair)) (subst (λ s. IsWeight s (pos (share p))) (sym is_scale) (some_weight (share p) scale (no_more_parts t keeps scale share plan p pair)));
      };
      plan = subst (λ s. IsMixedPlan t keeps (unsigned_abs s) (parts_in mixed)) (sym is_scale) mixed_plan;
    }
      where
        at_least : (n : ℕ) → 0 < n → pos 1 ≤ℤ pos n
        at_least n some = omega (arith, ints)

        at_most : (n : ℕ) → n ≤ max_scale → pos n ≤ℤ pos max_scale
        at_most n few = omega (arith, ints)

        some_weight : (w n : ℕ) → w ≤ n → IsWeight (pos n) (pos w)
        some_weight w n few = record { some = omega (arith, ints); within = omega (arith, ints) }

    -- it costs what the prices of dual values are worth where the point costs what the right sides weigh
    module _ (y : ℕ → ℤ) (duals : FracRow) (is : IsDualRow t rows net 1 y duals) (fits : prices_excess (legs_in t) duals ≡ None) (over amount : ℤ) (over_above : pos 0 <ℤ over)
        (weigh : weighed rows y rows.columns *ℤ over ≡ amount *ℤ duals.den) (costs : point_cost rows point *ℤ over ≡ amount *ℤ pos (factor * scale))
        (prices : Prices) (scale_is : prices.scale ≡ (reduced duals).den) (by_lines : AreByLines t net (dual_value_in t (reduced duals)) prices)
        (paid : Prices) (same_scale : paid.scale ≡ prices.scale) (proper : ArePrices t paid) (grows : worth_of t keeps prices 1 ≤ℤ worth_of t keeps paid 1) where
      abbrev above : pos 0 <ℤ duals.den
      above = is.values.some

      pub is_worth : IsWorth t keeps paid mixed
      is_worth =
          value_is_worth (mixed_cost t (parts_in mixed)) paid.scale (worth_of t keeps paid 1) mixed.scale (divisor t duals above fits) (pos factor) duals.den (weighed rows y rows.columns) over amount
          (divisor_above t duals above fits) (pos_above factor many) over_above (subst (λ z. pos 0 ≤ℤ z) (sym is_scale) (omega (arith, ints)))
          (ap (λ z. divisor t duals above fits *ℤ z) (same_scale ∙ scale_is) ∙ scale_times t duals above fits) reach weigh cost bound
        where
          cost : (pos factor *ℤ mixed_cost t (parts_in mixed)) *ℤ over ≡ amount *ℤ (pos factor *ℤ mixed.scale)
          cost =
              ap (λ z. z *ℤ over) (sym (multiple_costs t factor (pair_part cols point) (parts_in mixed) (λ p known. shares p ∙ ap (λ n. factor * n) (shares_are p known ∙ one (parts_in mixed p)))) ∙ sym (lines.costs_are_same point))
              ∙ costs ∙ ap (λ z. amount *ℤ (pos factor *ℤ z)) (sym is_scale)
            where
              one : (n : ℕ) → 1 * n ≡ n
              one n = omega arith

          -- what is paid back is worth no less
          reach : weighed rows y rows.columns ≤ℤ (divisor t duals above fits *ℤ worth_of t keeps paid 1)
          reach = omega (
            arith,
            ints,
            reaches t keeps rows lines 1 y duals is.values fits is.wide is.numbers prices scale_is by_lines no_leg_bare,
            factor_le (divisor t duals above fits) (worth_of t keeps prices 1) (worth_of t keeps paid 1) (above_is_some (divisor t duals above fits) (divisor_above t duals above fits)) grows,
          )

          bound : (mixed.scale *ℤ worth_of t keeps paid 1) ≤ℤ (paid.scale *ℤ mixed_cost t (parts_in mixed))
          bound =
              subst (λ z. (z *ℤ worth_of t keeps paid 1) ≤ℤ (paid.scale *ℤ mixed_cost t (parts_in mixed))) (sym is_scale)
              (subst (λ z. (pos scale *ℤ worth_of t keeps paid 1) ≤ℤ (z *ℤ mixed_cost t (parts_in mixed))) (one-*ℤ paid.scale) (weak_duality t keeps paid scale 1 (parts_in mixed) proper mixed_plan))
