-- A pair that is flown in part is kept, and its leg keeps another fleet, which flies the rest.
use Rattle.std.proofs.Common.{◌≡◌, ◌≢◌, ℕ, zero, suc, ◌<◌, ◌≤◌, IsTrue, pos, ◌⊎◌, inl, inr, sym, ap, arith}
use Rattle.std.proofs.lemmas.Bool.{cases_lt}
use Rattle.std.proofs.lemmas.Int.{ints}
use Rattle.sums.specs.Below.{sum_below}
use Rattle.sums.proofs.Naturals.{by_number}
use Rattle.sums.proofs.Tests.{by_test}
use Rattle.fleet_model.specs.Kept.{Domains}
use Rattle.fleet_model.specs.Schedule.{IsPair, choices_in, leg_on}
use Rattle.fleet_model.specs.declared.parts.Pair.{Pair}
use Rattle.fleet_model.specs.declared.tables.Tables.{Tables}
use Rattle.dual_bound.specs.Mixed.{weight_in}
use Rattle.dual_bound.specs.declared.mixed.Mixed.{Mixed}
use Rattle.dual_bound.specs.Fractions.{IsMixedAt, parts_in, parts_of_leg}
use Rattle.cert_check.specs.Rules.{IsKeptPair}
use Rattle.node_bounding.specs.Causes.{IsFirstPartial}
use Rattle.node_bounding.specs.Splits.{IsSplit, KeepsOther}
use Rattle.price_lift.specs.BestPoint.{IsBestPoint}
use Rattle.price_lift.specs.declared.best_point.BestPoint.{BestPoint}
use Rattle.node_bounding.specs.Runs.{IsSearched}
use Rattle.node_bounding.specs.Wholes.{IsSplitPair}

-- a number below n, other than k, at which g is not 0
record IsOtherTerm (g : ℕ → ℕ) (n k : ℕ) : Type 0 where
  place : ℕ
  within : place < n
  differs : place ≢ k
  some : g place ≢ 0

-- a sum that passes a term has another one
other_term : (g : ℕ → ℕ) (n k : ℕ) → (n ≤ k → 0 < sum_below g n) → (k < n → g k < sum_below g n) → IsOtherTerm g n k
other_term g zero k before after = absurd (omega (arith, before (omega arith)))
other_term g (suc n) k before after = by_number (g n)
    (λ none. further (other_term g n k (λ less. by_before none less) (λ more. omega (arith, after (omega (arith, more)), none))))
    (λ some. elim (cases_lt n k) [
      | inl less ↦ record { place = n; within = omega arith; differs = omega (arith, less); some = some }
      | inr no_less ↦ elim (cases_lt k n) [
        | inl more ↦ record { place = n; within = omega arith; differs = omega (arith, more); some = some }
        | inr same ↦
            let is : n ≡ k = omega (arith, no_less, same) in
            let here : g k ≡ g n = ap g (sym is) in
            further (other_term g n k (λ less. omega (arith, after (omega (arith, is)), here)) (λ more. absurd (omega (arith, more, is))))
      ]
    ])
  where
    further : IsOtherTerm g n k → IsOtherTerm g (suc n) k
    further found = record { place = found.place; within = omega (arith, found.within); differs = found.differs; some = found.some }

    by_before : g n ≡ 0 → n ≤ k → 0 < sum_below g n
    by_before none less = elim (cases_lt k (suc n)) [
      | inl at ↦ let is : n ≡ k = omega (arith, at, less) in let here : g k ≡ g n = ap g (sym is) in omega (arith, after at, here, none)
      | inr past ↦ omega (arith, before (omega (arith, past)), none)
    ]

module _ (t : Tables) (keeps : Domains) (mixed : Mixed) (is : IsMixedAt t keeps mixed) where
  -- what is flown is kept
  flown_kept : (p : Pair) → IsPair t p → parts_in mixed p ≢ 0 → IsTrue (keeps p)
  flown_kept p pair some = by_test (keeps p) (λ kept. kept) (λ not_kept. absurd (some (is.plan.kept p pair not_kept)))

  module _ (pair : Pair) (known : IsPair t pair) (first : IsFirstPartial t mixed pair.leg pair.choice) where
    pub split_kept : IsKeptPair keeps pair.leg pair.choice
    split_kept = flown_kept pair known (λ none. absurd (omega (arith, ints, first.some, none)))

    pub split_other : KeepsOther t keeps pair.leg pair.choice
    split_other =
        let less : parts_in mixed pair < parts_of_leg mixed = omega (arith, ints, first.some, first.not_all) in
        let found = other_term (λ f. parts_in mixed (leg_on pair.leg f)) (choices_in t pair.leg) pair.choice (λ past. absurd (omega (arith, past, known.choice))) (λ there. omega (arith, less, is.plan.cover pair.leg known.leg)) in
        record {
          other = found.place;
          known = found.within;
          kept = flown_kept (leg_on pair.leg found.place) (record { leg = known.leg; choice = found.within }) found.some;
          differs = found.differs;
        }

-- a subproblem whose best fractional assignment flies a pair in part may be split by it
pub may_split : (t : Tables) (keeps : Domains) (point : BestPoint) (pair : Pair) → IsSearched t keeps → IsBestPoint t keeps point → IsSplitPair t point.mixed pair → IsSplit t keeps pair point
may_split t keeps point pair searched best split = record {
  searched = searched;
  best = best;
  fraction = record { partial = λ whole. not_whole (whole pair.leg split.known.leg pair.choice split.known.choice); value = best.value };
  first = split.first;
  pair = split.known;
  kept = split_kept t keeps point.mixed best.mixed_at pair split.known split.first;
  other = split_other t keeps point.mixed best.mixed_at pair split.known split.first;
}
  where
    not_whole : (weight_in point.mixed pair ≡ pos 0) ⊎ (weight_in point.mixed pair ≡ point.mixed.scale) → ⊥
    not_whole (inl none) = absurd (omega (arith, ints, split.first.some, none))
    not_whole (inr all) = absurd (omega (arith, ints, split.first.not_all, all))
