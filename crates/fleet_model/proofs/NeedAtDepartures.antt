-- Need is the greatest excess at a departure: between two departures the excess doesn't grow.
use Rattle.std.proofs.Common.{◌≡◌, ℕ, zero, suc, ◌<◌, ◌≤◌, inl, inr, Bool, true, false, not, ◌==◌, ◌&&◌, ◌∙◌, arith}
use Rattle.std.proofs.lemmas.Bool.Decides.{nat_tests}
use Rattle.sums.specs.Below.{max_below}
use Rattle.sums.proofs.Sums.{sum_below-agree, sum_below-le, sum_below-zero}
use Rattle.sums.proofs.Maxima.{max_below-upper, max_below-least}
use Rattle.sums.proofs.NumberTests.{if_below}
use Rattle.sums.proofs.Counts.{find_below}
use Rattle.fleet_model.specs.declared.tables.Tables.{Tables}
use Rattle.fleet_model.specs.Schedule.{departures_in, leg_at, leg_of, pair_on, period_of}
use Rattle.fleet_model.specs.Counts.{Weights, arrived, coming, departed, leaving}
use Rattle.fleet_model.specs.Times.{departure}
use Rattle.fleet_model.specs.Use.{excess, need_of}
use Rattle.fleet_model.specs.Laws.{NeedIsAtDepartures, PassesDepartures, excess_at_departure}
use Rattle.fleet_model.proofs.PeriodMinutes.{departs_on}

module _ (t : Tables) (w : Weights) (f s : ℕ) where
  -- a leg leaves in this minute, with some weight
  leaves_at : ℕ → ℕ → Bool
  leaves_at m d = ((leg_of t (leg_at t d)).from == s) && (departure t (pair_on t d f) == m) && not (w (pair_on t d f) == 0)

  -- arrivals don't fall
  arrivals_rise : (m : ℕ) → arrived t w f s m ≤ arrived t w f s (suc m)
  unfolding arrived
  arrivals_rise m = sum_below-le (coming t w f s m) (coming t w f s (suc m)) (departures_in t) (record { each = λ d below. grind (arith, nat_tests) })

  -- where no leg leaves, departures stay as they were
  none_leaves : (m : ℕ) → ((d : ℕ) → d < departures_in t → leaves_at (suc m) d ≡ false) → departed t w f s (suc m) ≡ departed t w f s m
  unfolding departed leaves_at
  none_leaves m none = sum_below-agree (leaving t w f s (suc m)) (leaving t w f s m) (departures_in t) (record { each = λ d below. let stays = none d below in grind (arith, nat_tests) })

  none_left : ((d : ℕ) → d < departures_in t → leaves_at 0 d ≡ false) → departed t w f s 0 ≡ 0
  unfolding departed leaves_at
  none_left none = sum_below-agree (leaving t w f s 0) (λ d. 0) (departures_in t) (record { each = λ d below. let stays = none d below in grind (arith, nat_tests) }) ∙ sum_below-zero (departures_in t)

  -- the excess at a minute in which a leg leaves is offered
  offered : (test : ℕ → Bool) → PassesDepartures t w f s test → (m d : ℕ) → d < departures_in t → leaves_at m d ≡ true
      → excess t w f s m ≤ max_below (excess_at_departure t w f s test) (departures_in t)
  unfolding leaves_at
  offered test passes m d below leaves =
      let passed : test d ≡ true = passes.each d below (grind (arith, nat_tests)) (grind (arith, nat_tests)) in
      let at : departure t (pair_on t d f) ≡ m = grind (arith, nat_tests) in
      let upper = max_below-upper (excess_at_departure t w f s test) (departures_in t) d below in
      let there : excess t w f s (departure t (pair_on t d f)) ≤ max_below (excess_at_departure t w f s test) (departures_in t) = rw passed at upper in
      rw (← at) there

  no_more : (test : ℕ → Bool) → PassesDepartures t w f s test → (m : ℕ) → excess t w f s m ≤ max_below (excess_at_departure t w f s test) (departures_in t)
  unfolding excess
  no_more test passes zero = elim (find_below (leaves_at 0) (departures_in t)) [
    | inl found ↦ offered test passes 0 found.0 found.1 found.2
    | inr none ↦ omega (arith, none_left none)
  ]
  no_more test passes (suc m) = elim (find_below (leaves_at (suc m)) (departures_in t)) [
    | inl found ↦ offered test passes (suc m) found.0 found.1 found.2
    | inr none ↦ omega (arith, none_leaves m none, arrivals_rise m, no_more test passes m)
  ]

pub need_is_at_departures : NeedIsAtDepartures
unfolding need_of
need_is_at_departures t w f s test passes =
    let no_greater = max_below-least (excess t w f s) (max_below (excess_at_departure t w f s test) (departures_in t)) (period_of t)
    (record { each = λ m within. no_more t w f s test passes m }) in
    let no_less = max_below-least (excess_at_departure t w f s test) (max_below (excess t w f s) (period_of t)) (departures_in t)
    (record { each = λ d below. if_below (test d) _ _ (max_below-upper (excess t w f s) (period_of t) (departure t (pair_on t d f)) (departs_on t d f below)) }) in
    omega (arith, no_greater, no_less)
