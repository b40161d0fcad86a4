-- A mixed plan of a multiple of a scale, by the same multiple of weights, is one of the scale; and what it costs.
use Rattle.std.proofs.Common.{◌≡◌, ℕ, ◌*◌, ◌<◌, ◌≤◌, pos, ◌*ℤ◌, sym, ◌∙◌, ap, arith}
use Rattle.std.specs.Prelude.{unwrap_or}
use Rattle.sums.specs.Below.{sum_below_ℤ}
use Rattle.sums.proofs.SumBounds.{term_le}
use Rattle.sums.proofs.Integers.{*ℤ_assoc}
use Rattle.sums.proofs.WholeSums.{*ℤ-sum_below_ℤ, sum_below_ℤ-same}
use Rattle.sums.proofs.Naturals.{times_below, cancel_same, cancel_le}
use Rattle.fleet_model.specs.declared.parts.Pair.{Pair}
use Rattle.fleet_model.specs.declared.tables.Tables.{Tables}
use Rattle.fleet_model.specs.Counts.{Weights, arrived, departed}
use Rattle.fleet_model.specs.Kept.{Domains}
use Rattle.fleet_model.specs.Legal.{cost_of}
use Rattle.fleet_model.specs.Mixed.{IsMixedPlan, mixed_cost, weight_on, weighted_cost}
use Rattle.fleet_model.specs.Schedule.{IsPair, choices_in, departures_in, fleet_of, fleets_in, last_of, leg_on, legs_in, pair_on}
use Rattle.fleet_model.specs.Use.{parked, used_of}
use Rattle.fleet_model.proofs.Choices.{on_departure}
use Rattle.fleet_model.proofs.WholePlans.{times_arrived, times_departed, times_parked, times_used}

module _ (t : Tables) (k : ℕ) (x w : Weights) (same : (p : Pair) → IsPair t p → x p ≡ k * w p) where
  of_departures : (f d : ℕ) → f < fleets_in t → d < departures_in t → x (pair_on t d f) ≡ k * w (pair_on t d f)
  of_departures f d known below = same (pair_on t d f) (on_departure t d f below known).pair

  of_weights : (l : ℕ) → l < legs_in t → weight_on t x l ≡ k * weight_on t w l
  of_weights l below = times_below k (λ c. x (leg_on l c)) (λ c. w (leg_on l c)) (choices_in t l) (λ c known. same (leg_on l c) (record { leg = below; choice = known }))

  pub of_smaller_scale : (keeps : Domains) (q : ℕ) → 0 < k → IsMixedPlan t keeps (k * q) x → IsMixedPlan t keeps q w
  of_smaller_scale keeps q some plan = record {
    kept = λ p pair not_kept. cancel_same k (w p) 0 some (omega (arith, same p pair, plan.kept p pair not_kept));
    cover = λ l below. cancel_same k (weight_on t w l) q some (omega (arith, of_weights l below, plan.cover l below));
    balanced = record {
      each = λ f s known within.
          let on = λ (d : ℕ). of_departures f d known in
          cancel_same k (arrived t w f s (last_of t)) (departed t w f s (last_of t)) some
          (sym (times_arrived t k x w f on s (last_of t)) ∙ plan.balanced.each f s known within ∙ times_departed t k x w f on s (last_of t));
    };
    within = λ f known. cancel_le k (used_of t w f) (q * (fleet_of t f).aircraft) some (omega (arith, times_used t k x w f (λ d. of_departures f d known), plan.within f known));
    room = record {
      each = λ s d limit known first within is. cancel_le k (parked t w s d) (q * limit) some (omega (arith, times_parked t k x w of_departures s d, plan.room.each s d limit known first within is));
    };
  }

-- a mixed plan gives no pair more than its scale
pub no_more_parts : (t : Tables) (keeps : Domains) (scale : ℕ) (w : Weights) → IsMixedPlan t keeps scale w → (p : Pair) → IsPair t p → w p ≤ scale
no_more_parts t keeps scale w plan p pair = omega (arith, plan.cover p.leg pair.leg, term_le (λ c. w (leg_on p.leg c)) p.choice (choices_in t p.leg) pair.choice)

-- a multiple of all weights costs so many times as much
pub multiple_costs : (t : Tables) (k : ℕ) (x w : Weights) → ((p : Pair) → IsPair t p → x p ≡ k * w p) → mixed_cost t x ≡ pos k *ℤ mixed_cost t w
unfolding mixed_cost
multiple_costs t k x w same =
    sum_below_ℤ-same (λ l. sum_below_ℤ (weighted_cost t x l) (choices_in t l)) (λ l. pos k *ℤ sum_below_ℤ (weighted_cost t w l) (choices_in t l)) (legs_in t)
    (λ l below. sum_below_ℤ-same (weighted_cost t x l) (λ c. pos k *ℤ weighted_cost t w l c) (choices_in t l)
    (λ c known. ap (λ n. pos n *ℤ unwrap_or (cost_of t (leg_on l c)) (pos 0)) (same (leg_on l c) (record { leg = below; choice = known })) ∙ *ℤ_assoc (pos k) (pos (w (leg_on l c))) (unwrap_or (cost_of t (leg_on l c)) (pos 0)))
    ∙ sym (*ℤ-sum_below_ℤ (pos k) (weighted_cost t w l) (choices_in t l)))
    ∙ sym (*ℤ-sum_below_ℤ (pos k) (λ l. sum_below_ℤ (weighted_cost t w l) (choices_in t l)) (legs_in t))
