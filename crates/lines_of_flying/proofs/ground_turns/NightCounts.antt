-- The nights of the turns at a station.
use Rattle.std.proofs.Common.{◌≡◌, ◌<◌, ◌==◌, ◌&&◌, ◌∙◌, ◌-◌, ◌+◌, Bool, List, ℕ, ap, arith, false, if◌then◌else◌, length, refl, sym, true, suc}
use Rattle.sums.specs.Below.{sum_below, count_below}
use Rattle.sums.proofs.Sums.{sum_below-agree, sum_below-swap, sum_below-zero}
use Rattle.fleet_model.specs.Period.{day_end, minutes_of}
use Rattle.fleet_model.specs.declared.parts.Connection.{Connection}
use Rattle.fleet_model.specs.declared.tables.Tables.{Tables}
use Rattle.fleet_model.specs.Schedule.{days_in, last_of, period_of, stations_in}
use Rattle.fleet_model.specs.Use.{need_of, stand_of}
use Rattle.fleet_model.proofs.PeriodMinutes.{days_are_period}
use Rattle.fleet_model.specs.Counts.{arrived, departed, weights_of}
use Rattle.lines_of_flying.specs.ground_turns.Laws.{NightsAreNeed, NightsAreStands, nights_at, nights_there, stand_by_day, stands_by_day}
use Rattle.lines_of_flying.specs.ground_turns.Maps.{IsFitting, turn_at, waiting_at, waits_there}
use Rattle.lines_of_flying.specs.ground_turns.Turns.{departs_at, ready_at, station_at, waits_at}
use Rattle.lines_of_flying.proofs.ground_turns.DayStarts.{day_starts}
use Rattle.lines_of_flying.proofs.ground_turns.Fits.{balances, waiting_is_stand}
use Rattle.lines_of_flying.proofs.ground_turns.Rounds.{bit}
use Rattle.lines_of_flying.proofs.ground_turns.Waits.{departs_within, ready_within}

-- counts where a test passes
count_where : (b : Bool) (p : ℕ → Bool) (n : ℕ) → (if b then count_below p n else 0) ≡ count_below (λ j. b && p j) n
count_where true p n = refl
count_where false p n = sym (sum_below-zero n)

module _ (t : Tables) (a : List ℕ) (f : ℕ) (turns : List Connection) (s : ℕ) (h : IsFitting t a f turns) where
  -- the nights of one turn at the station
  one_turn : (k : ℕ) → k < length turns → nights_there t f turns s k ≡ count_below (λ j. waits_there t f turns s (day_end (suc j)) k) (days_in t)
  one_turn k lt =
      ap (λ n. if station_at t (turn_at turns k) == s then n else 0)
      (day_starts (minutes_of 1) (days_in t) (period_of t) (ready_at t f (turn_at turns k)) (departs_at t f (turn_at turns k)) (omega arith) (days_are_period t)
      (ready_within t a f turns h.map k) (departs_within t a f turns h.map k lt))
      ∙ count_where (station_at t (turn_at turns k) == s) (λ j. waits_at t f (turn_at turns k) (day_end (suc j))) (days_in t)

  nights_wait : nights_at t f turns s ≡ sum_below (λ j. waiting_at t f turns s (day_end (suc j))) (days_in t)
  nights_wait =
      sum_below-agree (nights_there t f turns s) (λ k. count_below (λ j. waits_there t f turns s (day_end (suc j)) k) (days_in t)) (length turns)
      (record { each = λ k lt. one_turn k lt })
      ∙ sum_below-swap (λ k j. bit (waits_there t f turns s (day_end (suc j)) k)) (days_in t) (length turns)

  pub nights_stand : s < stations_in t → nights_at t f turns s ≡ stands_by_day t a f s
  nights_stand below =
      nights_wait
      ∙ sum_below-agree (λ j. waiting_at t f turns s (day_end (suc j))) (stand_by_day t a f s) (days_in t)
      (record { each = λ j lt. waiting_is_stand t a f turns s (day_end (suc j)) h below (within j lt) })
    where
      within : (j : ℕ) → j < days_in t → day_end (suc j) < period_of t
      within j lt = omega (arith, days_are_period t)

pub nights_are_stands : NightsAreStands
nights_are_stands t a f turns s h below = nights_stand t a f turns s h below

pub nights_are_need : NightsAreNeed
unfolding stand_of
nights_are_need t a f turns s h below one =
    let law = nights_stand t a f turns s h below in
    let stands : stands_by_day t a f s ≡ stand_by_day t a f s 0 = ap (sum_below (stand_by_day t a f s)) one ∙ only (stand_by_day t a f s 0) in
    let last : day_end 1 ≡ last_of t = omega (arith, days_are_period t, one) in
    let there : stand_by_day t a f s 0 ≡ stand_of t (weights_of a) f s (last_of t) = ap (stand_of t (weights_of a) f s) last in
    law ∙ stands ∙ there ∙ as_needed (need_of t (weights_of a) f s) (arrived t (weights_of a) f s (last_of t)) (departed t (weights_of a) f s (last_of t)) (balances t a f turns h.map s)
  where
    only : (n : ℕ) → 0 + n ≡ n
    only n = omega arith

    as_needed : (need come gone : ℕ) → come ≡ gone → need + come - gone ≡ need
    as_needed need come gone even = omega arith
