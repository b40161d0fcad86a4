-- A whole fractional assignment is a legal assignment, and costs what its prices are worth.
use Rattle.std.proofs.Common.{◌≡◌, ◌≢◌, ℕ, zero, suc, ◌*◌, ◌<◌, Bool, true, false, ◌==◌, List, length, ℤ, pos, ◌*ℤ◌, ◌≤ℤ◌, inl, inr, refl, sym, ◌∙◌, ap, subst, arith}
use Rattle.std.specs.Prelude.{unsigned_abs, unwrap_or}
use Rattle.std.proofs.lemmas.Bool.Decides.{nat_tests}
use Rattle.std.proofs.lemmas.Int.{ints}
use Rattle.std.proofs.lemmas.Grind.{same_number_lists}
use lib.IntN.{*ℤ_comm, pos-*ℤ-pos}
use Rattle.sums.specs.Below.{sum_below, sum_below_ℤ}
use Rattle.sums.proofs.Integers.{*ℤ_assoc, *ℤ_cancel}
use Rattle.sums.proofs.WholeSums.{*ℤ-sum_below_ℤ, sum_below_ℤ-same}
use Rattle.sums.proofs.Sizes.{size_of_zero, zero_size}
use Rattle.frac_row.specs.Ratio.{IsCeiling}
use Rattle.fleet_model.specs.Counts.{Weights, choice_at, weights_of}
use Rattle.fleet_model.specs.Kept.{Domains, IsKeptAssignment}
use Rattle.fleet_model.specs.Legal.{IsLegal, cost_of, total_cost}
use Rattle.fleet_model.specs.Mixed.{mixed_cost, weighted_cost}
use Rattle.fleet_model.specs.Schedule.{IsPair, choices_in, leg_on, legs_in}
use Rattle.fleet_model.specs.Whole.{IsLegalBy, KeepAllowed}
use Rattle.fleet_model.specs.Whole as whole
use Rattle.fleet_model.specs.declared.parts.Pair.{Pair}
use Rattle.fleet_model.specs.declared.tables.Tables.{Tables}
use Rattle.fleet_model.proofs.MixedPlans.{legal_is_mixed}
use Rattle.fleet_model.proofs.WholePlans.{whole_is_legal}
use Rattle.dual_bound.specs.Mixed.{weight_in}
use Rattle.dual_bound.specs.Worth.{worth_of}
use Rattle.dual_bound.specs.declared.mixed.Mixed.{Mixed}
use Rattle.dual_bound.specs.declared.prices.Prices.{Prices}
use Rattle.dual_bound.specs.Fractions.{IsEndOfScale, IsMixedAt, IsMixedWhole, IsWorth, parts_in, parts_of_leg}
use Rattle.node_bounding.specs.Wholes.{FliesParts, HasChoices}
use Rattle.node_bounding.proofs.Orders.{ceiling_exact}

-- ---- weights that are so many times others
regroup : (c w : ℕ) (z : ℤ) → pos (c * w) *ℤ z ≡ pos c *ℤ (pos w *ℤ z)
regroup c w z = ap (λ n. n *ℤ z) (sym (pos-*ℤ-pos c w)) ∙ *ℤ_assoc (pos c) (pos w) z

times_cost : (t : Tables) (c : ℕ) (w u : Weights) → ((p : Pair) → IsPair t p → w p ≡ c * u p) → mixed_cost t w ≡ pos c *ℤ mixed_cost t u
unfolding mixed_cost
times_cost t c w u same =
    sum_below_ℤ-same _ _ (legs_in t) (λ l leg.
    sum_below_ℤ-same _ _ (choices_in t l) (λ f choice. ap (λ n. pos n *ℤ unwrap_or (cost_of t (leg_on l f)) (pos 0)) (same (leg_on l f) (record { leg = leg; choice = choice }))
    ∙ regroup c (u (leg_on l f)) (unwrap_or (cost_of t (leg_on l f)) (pos 0)))
    ∙ sym (*ℤ-sum_below_ℤ (pos c) (weighted_cost t u l) (choices_in t l)))
    ∙ sym (*ℤ-sum_below_ℤ (pos c) (λ l. sum_below_ℤ (weighted_cost t u l) (choices_in t l)) (legs_in t))

-- ---- a fractional assignment

-- a leg that is covered has a fleet
module _ (t : Tables) (keeps : Domains) (mixed : Mixed) (is : IsMixedAt t keeps mixed) where
  some_parts : 0 < parts_of_leg mixed
  some_parts = omega (arith, ints, is.parts.scale.some)

  pub has_fleets : HasChoices t mixed
  has_fleets = record {
    each = λ l below none.
        let all : sum_below (λ f. parts_in mixed (leg_on l f)) (choices_in t l) ≡ 0 = no_parts (λ f. parts_in mixed (leg_on l f)) (choices_in t l) (λ f known. size_of_zero (weight_in mixed (leg_on l f)) (none f known)) in
        absurd (omega (arith, all, is.plan.cover l below, some_parts));
  }
    where
      no_parts : (g : ℕ → ℕ) (n : ℕ) → ((k : ℕ) → k < n → g k ≡ 0) → sum_below g n ≡ 0
      no_parts g zero none = refl
      no_parts g (suc n) none = omega (arith, no_parts g n (λ k below. none k (omega arith)), none n (omega arith))

-- ---- a whole one
module _ (t : Tables) (keeps : Domains) (mixed : Mixed) (a : List ℕ) (allowed : KeepAllowed t keeps) (is : IsMixedAt t keeps mixed) (ends : IsMixedWhole t mixed) (flies : FliesParts t mixed a) where
  all_or_none : whole.IsWhole t (parts_of_leg mixed) (parts_in mixed)
  all_or_none = record { each = λ p pair some. by_end p some (ends p.leg pair.leg p.choice pair.choice) }
    where
      by_end : (p : Pair) → parts_in mixed p ≢ 0 → IsEndOfScale mixed.scale (weight_in mixed p) → parts_in mixed p ≡ parts_of_leg mixed
      by_end p some (inl none) = absurd (some (size_of_zero (weight_in mixed p) none))
      by_end p some (inr all) = ap unsigned_abs all

  legal_by : (b : List ℕ) × IsLegalBy t keeps (parts_of_leg mixed) (parts_in mixed) b
  legal_by = whole_is_legal t keeps (parts_of_leg mixed) (parts_in mixed) (some_parts t keeps mixed is) allowed is.plan all_or_none

  abbrev other : List ℕ
  other = legal_by.0

  -- the fleet that flies a part of a leg is the one that flies all of it
  same_fleet : (l : ℕ) → l < legs_in t → choice_at a l ≡ choice_at other l
  same_fleet l below =
      by_test (choice_at other l == choice_at a l) refl
    where
      within : l < length a
      within = omega (arith, below, flies.each_leg)

      there : parts_in mixed (leg_on l (choice_at a l)) ≡ parts_of_leg mixed * weights_of other (leg_on l (choice_at a l))
      there = legal_by.1.weights (leg_on l (choice_at a l)) (record { leg = below; choice = (flies.parts l within).known })

      by_test : (b : Bool) → (choice_at other l == choice_at a l) ≡ b → choice_at a l ≡ choice_at other l
      by_test true e = grind (arith, nat_tests)
      by_test false e =
          let none : weights_of other (leg_on l (choice_at a l)) ≡ 0 = rw e refl in
          absurd ((flies.parts l within).some (zero_size (weight_in mixed (leg_on l (choice_at a l))) (there ∙ ap (λ n. parts_of_leg mixed * n) none ∙ omega arith)))

  same_plan : a ≡ other
  same_plan = same_number_lists a other (flies.each_leg ∙ sym legal_by.1.legal.assignment.each_leg) (λ l within. same_fleet l (omega (arith, within, flies.each_leg)))

  pub whole_kept : IsKeptAssignment t keeps a
  whole_kept = subst (IsKeptAssignment t keeps) (sym same_plan) legal_by.1.kept

  pub whole_legal : IsLegal t a
  whole_legal = subst (IsLegal t) (sym same_plan) legal_by.1.legal

  -- it costs what its prices are worth
  cost_is : mixed_cost t (parts_in mixed) ≡ pos (parts_of_leg mixed) *ℤ total_cost t a
  cost_is =
      times_cost t (parts_of_leg mixed) (parts_in mixed) (weights_of other) (λ p pair. legal_by.1.weights p pair)
      ∙ ap (λ z. pos (parts_of_leg mixed) *ℤ z) ((legal_is_mixed t keeps other legal_by.1.kept legal_by.1.legal).cost ∙ ap (total_cost t) (sym same_plan))

  worth_is : (prices : Prices) → IsWorth t keeps prices mixed → total_cost t a *ℤ prices.scale ≡ worth_of t keeps prices 1
  worth_is prices worth =
      let size : mixed.scale ≡ pos (parts_of_leg mixed) = omega (arith, ints, is.parts.scale.some) in
      *ℤ_cancel (pos (parts_of_leg mixed)) (total_cost t a *ℤ prices.scale) (worth_of t keeps prices 1) (omega (arith, ints, some_parts t keeps mixed is))
      (sym (*ℤ_assoc (pos (parts_of_leg mixed)) (total_cost t a) prices.scale) ∙ ap (λ z. z *ℤ prices.scale) (sym cost_is) ∙ worth
      ∙ ap (λ z. worth_of t keeps prices 1 *ℤ z) size ∙ *ℤ_comm (worth_of t keeps prices 1) (pos (parts_of_leg mixed)))

  pub whole_worth : (prices : Prices) → pos 1 ≤ℤ prices.scale → IsWorth t keeps prices mixed → IsCeiling (worth_of t keeps prices 1) prices.scale (total_cost t a)
  whole_worth prices some worth = ceiling_exact (total_cost t a) prices.scale (worth_of t keeps prices 1) some (sym (worth_is prices worth))
