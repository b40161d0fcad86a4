-- The waiting law, and the periods that a map takes.
use Rattle.std.proofs.Common.{◌≡◌, ◌+◌, ◌*◌, ◌<◌, ◌≤◌, ◌==◌, ◌&&◌, ◌∙◌, Bool, List, ℕ, ap, arith, false, length, nat_le, refl, sym, true}
use Rattle.sums.specs.Below.{sum_below, count_below}
use Rattle.sums.proofs.Sums.{sum_below-agree, sum_below-add}
use Rattle.fleet_model.specs.declared.parts.Connection.{Connection}
use Rattle.fleet_model.specs.declared.tables.Tables.{Tables}
use Rattle.fleet_model.specs.Counts.{arrived, departed, has_come, has_left, weights_of}
use Rattle.fleet_model.specs.Schedule.{leg_on, legs_in, period_of}
use Rattle.fleet_model.specs.Use.{need_of, stand_of}
use Rattle.fleet_model.proofs.UseLaws.{need_is_least, need_suffices}
use Rattle.fleet_model.proofs.PeriodMinutes.{in_period}
use Rattle.fleet_model.proofs.PlainTables.{plain_arrived, plain_departed, plain_departs}
use Rattle.lines_of_flying.specs.ground_turns.Laws.{WaitingLaw}
use Rattle.lines_of_flying.specs.ground_turns.Maps.{IsSuccessorMap, crosses_there, crossings_at, turn_at, waiting_at, waits_there}
use Rattle.lines_of_flying.specs.ground_turns.Turns.{crosses, departs_at, ready_at, station_at, waits_at}
use Rattle.lines_of_flying.proofs.ground_turns.Regroup.{by_places}
use Rattle.lines_of_flying.proofs.ground_turns.Rounds.{bit, moment_law, times_bit}

-- the same counts, of turns at the station
pub at_station : (c x y z u : Bool) → bit x + bit y ≡ bit z + bit u → bit (c && x) + bit (c && y) ≡ bit (c && z) + bit (c && u)
at_station true x y z u e = e
at_station false x y z u e = refl

module _ (t : Tables) (a : List ℕ) (f : ℕ) (turns : List Connection) (map : IsSuccessorMap t a f turns) where
  -- a sum over the turns by the legs that arrive is a sum over the fleet's legs
  pub over_arrivals : (g : ℕ → ℕ) → sum_below (λ k. g (turn_at turns k).arriving) (length turns) ≡ sum_below (λ l. weights_of a (leg_on l f) * g l) (legs_in t)
  over_arrivals g =
      by_places (λ k. (turn_at turns k).arriving) g (legs_in t) (length turns) (λ k lt. (map.each k lt).arriving)
      ∙ sum_below-agree _ (λ l. weights_of a (leg_on l f) * g l) (legs_in t) (record { each = λ l below. ap (λ n. n * g l) (map.arrives l below) })

  pub over_departures : (g : ℕ → ℕ) → sum_below (λ k. g (turn_at turns k).departing) (length turns) ≡ sum_below (λ l. weights_of a (leg_on l f) * g l) (legs_in t)
  over_departures g =
      by_places (λ k. (turn_at turns k).departing) g (legs_in t) (length turns) (λ k lt. (map.each k lt).departing)
      ∙ sum_below-agree _ (λ l. weights_of a (leg_on l f) * g l) (legs_in t) (record { each = λ l below. ap (λ n. n * g l) (map.departs l below) })

  pub ready_within : (k : ℕ) → ready_at t f (turn_at turns k) < period_of t
  ready_within k = in_period t _

  pub departs_within : (k : ℕ) → k < length turns → departs_at t f (turn_at turns k) < period_of t
  departs_within k lt = plain_departs t (turn_at turns k).departing f map.plain (map.each k lt).departing

  -- the turn is at the station, and its aircraft is ready or has departed by the end of the minute
  was_ready : ℕ → ℕ → ℕ → Bool
  was_ready s m k = (station_at t (turn_at turns k) == s) && nat_le (ready_at t f (turn_at turns k)) m

  has_gone : ℕ → ℕ → ℕ → Bool
  has_gone s m k = (station_at t (turn_at turns k) == s) && nat_le (departs_at t f (turn_at turns k)) m

  all_ready : (s m : ℕ) → count_below (was_ready s m) (length turns) ≡ arrived t (weights_of a) f s m
  unfolding was_ready
  all_ready s m =
      over_arrivals (λ l. bit (has_come t (leg_on l f) s m))
      ∙ sum_below-agree _ _ (legs_in t) (record { each = λ l below. times_bit (weights_of a (leg_on l f)) (has_come t (leg_on l f) s m) })
      ∙ sym (plain_arrived t (weights_of a) f s m map.plain)

  all_gone : (s m : ℕ) → count_below (has_gone s m) (length turns) ≡ departed t (weights_of a) f s m
  unfolding has_gone
  all_gone s m =
      sum_below-agree (λ k. bit (has_gone s m k)) (λ k. bit (has_left t (leg_on (turn_at turns k).departing f) s m)) (length turns)
      (record { each = λ k lt. ap (λ at. bit ((at == s) && nat_le (departs_at t f (turn_at turns k)) m)) (map.each k lt).meets })
      ∙ over_departures (λ l. bit (has_left t (leg_on l f) s m))
      ∙ sum_below-agree _ _ (legs_in t) (record { each = λ l below. times_bit (weights_of a (leg_on l f)) (has_left t (leg_on l f) s m) })
      ∙ sym (plain_departed t (weights_of a) f s m map.plain)

  -- one turn at a moment
  one_turn : (s m k : ℕ) → m < period_of t → k < length turns
      → bit (waits_there t f turns s m k) + bit (has_gone s m k) ≡ bit (was_ready s m k) + bit (crosses_there t f turns s k)
  unfolding was_ready has_gone
  one_turn s m k moment lt =
      at_station (station_at t (turn_at turns k) == s) (waits_at t f (turn_at turns k) m) (nat_le (departs_at t f (turn_at turns k)) m)
      (nat_le (ready_at t f (turn_at turns k)) m) (crosses t f (turn_at turns k))
      (moment_law (period_of t) (ready_at t f (turn_at turns k)) (departs_at t f (turn_at turns k)) m (ready_within k) (departs_within k lt) moment)

  -- those that wait, with what has departed, are those that cross, with what was ready
  pub all_turns : (s m : ℕ) → m < period_of t
      → waiting_at t f turns s m + departed t (weights_of a) f s m ≡ arrived t (weights_of a) f s m + crossings_at t f turns s
  all_turns s m moment =
      let same = sum_below-agree (λ k. bit (waits_there t f turns s m k) + bit (has_gone s m k)) (λ k. bit (was_ready s m k) + bit (crosses_there t f turns s k)) (length turns)
      (record { each = λ k lt. one_turn s m k moment lt }) in
      let left = sum_below-add (λ k. bit (waits_there t f turns s m k)) (λ k. bit (has_gone s m k)) (length turns) in
      let right = sum_below-add (λ k. bit (was_ready s m k)) (λ k. bit (crosses_there t f turns s k)) (length turns) in
      omega (arith, same, left, right, all_ready s m, all_gone s m)

  -- the turns that cross suffice
  pub crossings_suffice : (s : ℕ) → need_of t (weights_of a) f s ≤ crossings_at t f turns s
  crossings_suffice s = need_is_least t (weights_of a) f s (crossings_at t f turns s) (record { each = λ m moment. let law = all_turns s m moment in omega arith })

pub waiting_law : WaitingLaw
unfolding stand_of
waiting_law t a f turns s map = record {
  each = λ m moment.
      let law = all_turns t a f turns map s m moment in
      let enough = (need_suffices t (weights_of a) f s).each m moment in
      let more = crossings_suffice t a f turns map s in
      omega arith;
}
