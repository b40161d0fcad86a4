-- The nights of a fitting map, all in all.
use Rattle.std.proofs.Common.{◌≡◌, ◌+◌, ◌-◌, ◌*◌, ◌<◌, [], ◌∷◌, ◌∙◌, ◌≤◌, List, ℕ, ap, arith, length, length-append, refl, replicate, suc, sym, zero}
use Rattle.std.proofs.lemmas.List.{length-replicate}
use Rattle.std.proofs.Math.Nat.{mul_comm}
use Rattle.sums.specs.Below.{sum_below}
use Rattle.sums.proofs.Sums.{sum_below-add, sum_below-agree}
use Rattle.sums.proofs.Turned.{shifted}
use Rattle.fleet_model.specs.Period.{day_of_minute, minutes_of}
use Rattle.fleet_model.specs.declared.parts.Connection.{Connection}
use Rattle.fleet_model.specs.declared.tables.Tables.{Tables}
use Rattle.fleet_model.specs.Counts.{weights_of}
use Rattle.fleet_model.specs.Schedule.{days_in, leg_on, period_of}
use Rattle.fleet_model.specs.Times.{busy_minutes, departure, laps_of, nights_of}
use Rattle.fleet_model.specs.Use.{used_of}
use Rattle.fleet_model.proofs.PeriodMinutes.{days_are_period, lap_split}
use Rattle.fleet_model.proofs.PlainTables.{plain_laps}
use Rattle.lines_of_flying.specs.ground_turns.Laws.{NightsAreUse, NightsByDays, TurnByDays}
use Rattle.lines_of_flying.specs.ground_turns.Maps.{IsSuccessorMap, periods_in_turn, periods_of, turn_at}
use Rattle.lines_of_flying.specs.ground_turns.Nights.{night_of_stay, nights_in, nights_in_turn, nights_in_turns}
use Rattle.lines_of_flying.specs.ground_turns.Turns.{crosses, departs_at, nights_waited, ready_at, wait_of}
use Rattle.lines_of_flying.specs.declared.ground_turns.nights.Night.TheVariants as night
use Rattle.lines_of_flying.proofs.ground_turns.DayStarts.{div-more, wait_end}
use Rattle.lines_of_flying.proofs.ground_turns.Rounds.{bit}
use Rattle.lines_of_flying.proofs.ground_turns.Waits.{departs_within, over_arrivals, over_departures, ready_within}

pub nights_long : (t : Tables) (f : ℕ) (turns : List Connection) → length (nights_in_turns t f turns) ≡ sum_below (λ k. nights_in t f (turn_at turns k)) (length turns)
nights_long t f [] = refl
nights_long t f (turn ∷ turns) =
    let front = length-append (nights_in_turn t f turn) (nights_in_turns t f turns) in
    let parts = length-append (replicate (nights_of t (leg_on turn.arriving f)) night.Aloft) (replicate (nights_waited t f turn) (night_of_stay t f turn)) in
    let aloft = length-replicate (nights_of t (leg_on turn.arriving f)) night.Aloft in
    let stood = length-replicate (nights_waited t f turn) (night_of_stay t f turn) in
    omega (arith, front, parts, aloft, stood, nights_long t f turns, shifted (λ k. nights_in t f (turn_at (turn ∷ turns) k)) (length turns))

times_sum : (n a b : ℕ) → n * (a + b) ≡ n * a + n * b
times_sum n a b = grind arith

-- a sum of which each term is so many times another
sum_scaled : (scale : ℕ) (g : ℕ → ℕ) (n : ℕ) → sum_below (λ k. scale * g k) n ≡ scale * sum_below g n
sum_scaled scale g zero = omega arith
sum_scaled scale g (suc n) = omega (arith, sum_scaled scale g n, times_sum scale (sum_below g n) (g n))

-- the nights of a flight and of the wait behind it, by the days of what departs
by_days : (dep busy ready wait next laps crossings n : ℕ) → dep + busy ≡ minutes_of n * laps + ready → ready + wait ≡ next + crossings * minutes_of n
    → (day_of_minute (dep + busy) - day_of_minute dep) + (day_of_minute (ready + wait) - day_of_minute ready) + day_of_minute dep
    ≡ n * (laps + crossings) + day_of_minute next
by_days dep busy ready wait next laps crossings n flight turn =
    let flown : day_of_minute (dep + busy) ≡ day_of_minute ready + n * laps =
    ap (λ k. day_of_minute k) (flight ∙ periods n laps ready) ∙ div-more ready (minutes_of 1) (n * laps) (omega arith) in
    let waited : day_of_minute (ready + wait) ≡ day_of_minute next + n * crossings =
    ap (λ k. day_of_minute k) (turn ∙ starts n crossings next) ∙ div-more next (minutes_of 1) (n * crossings) (omega arith) in
    let parts : n * (laps + crossings) ≡ n * laps + n * crossings = times_sum n laps crossings in
    let later : day_of_minute dep ≤ day_of_minute (dep + busy) = omega arith in
    let on : day_of_minute ready ≤ day_of_minute (ready + wait) = omega arith in
    omega (arith, flown, waited, parts, later, on)
  where
    periods : (n laps ready : ℕ) → minutes_of n * laps + ready ≡ ready + minutes_of (n * laps)
    periods n laps ready = grind arith

    starts : (n crossings next : ℕ) → next + crossings * minutes_of n ≡ next + minutes_of (n * crossings)
    starts n crossings next = grind arith

module _ (t : Tables) (a : List ℕ) (f : ℕ) (turns : List Connection) (map : IsSuccessorMap t a f turns) where
  turn_nights : (k : ℕ) → k < length turns → TurnByDays t f (turn_at turns k)
  turn_nights k lt =
      let pair = leg_on (turn_at turns k).arriving f in
      let ready = ready_at t f (turn_at turns k) in
      let departs = departs_at t f (turn_at turns k) in
      by_days (departure t pair) (busy_minutes t pair) ready (wait_of t f (turn_at turns k)) departs (laps_of t pair) (bit (crosses t f (turn_at turns k))) (days_in t)
      (lap_split t pair ∙ ap (λ w. w * laps_of t pair + ready) (days_are_period t))
      (wait_end (period_of t) ready departs (ready_within t a f turns map k) (departs_within t a f turns map k lt) ∙ ap (λ w. departs + bit (crosses t f (turn_at turns k)) * w) (days_are_period t))

  -- the days of the flights that arrive are those of the flights that depart
  same_days : sum_below (λ k. day_of_minute (departure t (leg_on (turn_at turns k).arriving f))) (length turns) ≡ sum_below (λ k. day_of_minute (departs_at t f (turn_at turns k))) (length turns)
  same_days = over_arrivals t a f turns map (λ l. day_of_minute (departure t (leg_on l f))) ∙ sym (over_departures t a f turns map (λ l. day_of_minute (departure t (leg_on l f))))

  pub all_periods : sum_below (λ k. periods_in_turn t f (turn_at turns k)) (length turns) ≡ periods_of t a f turns
  all_periods =
      let parts = sum_below-add (λ k. laps_of t (leg_on (turn_at turns k).arriving f)) (λ k. bit (crosses t f (turn_at turns k))) (length turns) in
      let flown = over_arrivals t a f turns map (λ l. laps_of t (leg_on l f)) in
      omega (arith, parts, flown, plain_laps t (weights_of a) f map.plain)

  pub all_nights : sum_below (λ k. nights_in t f (turn_at turns k)) (length turns) ≡ days_in t * periods_of t a f turns
  all_nights =
      let same = sum_below-agree (λ k. nights_in t f (turn_at turns k) + day_of_minute (departure t (leg_on (turn_at turns k).arriving f)))
      (λ k. days_in t * periods_in_turn t f (turn_at turns k) + day_of_minute (departs_at t f (turn_at turns k))) (length turns) (record { each = turn_nights }) in
      let left = sum_below-add (λ k. nights_in t f (turn_at turns k)) (λ k. day_of_minute (departure t (leg_on (turn_at turns k).arriving f))) (length turns) in
      let right = sum_below-add (λ k. days_in t * periods_in_turn t f (turn_at turns k)) (λ k. day_of_minute (departs_at t f (turn_at turns k))) (length turns) in
      let times = sum_scaled (days_in t) (λ k. periods_in_turn t f (turn_at turns k)) (length turns) in
      let periods : days_in t * sum_below (λ k. periods_in_turn t f (turn_at turns k)) (length turns) ≡ days_in t * periods_of t a f turns = ap (λ n. days_in t * n) all_periods in
      omega (arith, same, left, right, times, periods, same_days)

pub nights_by_days : NightsByDays
nights_by_days t a f turns k map lt = turn_nights t a f turns map k lt

pub nights_are_use : NightsAreUse
nights_are_use t a f turns h =
    nights_long t f turns ∙ all_nights t a f turns h.map ∙ ap (λ n. days_in t * n) h.fits ∙ mul_comm (days_in t) (used_of t (weights_of a) f)
