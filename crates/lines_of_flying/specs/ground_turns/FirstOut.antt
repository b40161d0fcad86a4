-- First in, first out: the aircraft that are ready at a station depart in the order in which they became so.
use Rattle.std.specs.Prelude.{◌≡◌, ℕ, ◌+◌, ◌-◌, ◌%◌, ◌<◌, Bool, ◌==◌, ◌&&◌, ◌||◌, nat_lt, nat_le, List, length}
use Rattle.sums.specs.Below.{count_below, max_below}
use Rattle.fleet_model.specs.declared.parts.Connection.{Connection}
use Rattle.fleet_model.specs.declared.tables.Tables.{Tables}
use Rattle.fleet_model.specs.Counts.{choice_at}
use Rattle.fleet_model.specs.Schedule.{leg_of, leg_on, legs_in, period_of}
use Rattle.fleet_model.specs.Times.{departure, ready_minute}
use Rattle.lines_of_flying.specs.ground_turns.Maps.{arrivals_of, departures_of, turn_at}
use Rattle.lines_of_flying.specs.ground_turns.Turns.{station_at}

-- a leg of the fleet lands at the station, and no given pair says what follows
abbrev pub is_free_landing : Tables → List ℕ → ℕ → List Connection → ℕ → ℕ → Bool
is_free_landing t a f given s l = (choice_at a l == f) && ((leg_of t l).to == s) && (arrivals_of given l == 0)

-- a leg of the fleet departs from the station, and no given pair says what comes before
abbrev pub is_free_departure : Tables → List ℕ → ℕ → List Connection → ℕ → ℕ → Bool
is_free_departure t a f given s l = (choice_at a l == f) && ((leg_of t l).from == s) && (departures_of given l == 0)

-- an earlier minute, or the same minute and a lower leg
abbrev pub is_before : ℕ → ℕ → ℕ → ℕ → Bool
is_before minute leg m l = nat_lt minute m || ((minute == m) && nat_lt leg l)

-- the place of a free landing among those at the station, by ready minute and leg
abbrev pub lands_before : Tables → List ℕ → ℕ → List Connection → ℕ → ℕ → ℕ → Bool
lands_before t a f given s l q = is_free_landing t a f given s q && is_before (ready_minute t (leg_on q f)) q (ready_minute t (leg_on l f)) l

unfoldable pub landing_place : Tables → List ℕ → ℕ → List Connection → ℕ → ℕ → ℕ
landing_place t a f given s l = count_below (lands_before t a f given s l) (legs_in t)

-- the place of a free departure among those from the station, by minute and leg
abbrev pub departs_before : Tables → List ℕ → ℕ → List Connection → ℕ → ℕ → ℕ → Bool
departs_before t a f given s l q = is_free_departure t a f given s q && is_before (departure t (leg_on q f)) q (departure t (leg_on l f)) l

unfoldable pub departure_place : Tables → List ℕ → ℕ → List Connection → ℕ → ℕ → ℕ
departure_place t a f given s l = count_below (departs_before t a f given s l) (legs_in t)

-- how many free landings there are, and how many by the end of a minute
unfoldable pub free_landings : Tables → List ℕ → ℕ → List Connection → ℕ → ℕ
free_landings t a f given s = count_below (is_free_landing t a f given s) (legs_in t)

unfoldable pub free_landed : Tables → List ℕ → ℕ → List Connection → ℕ → ℕ → ℕ
free_landed t a f given s m = count_below (λ l. is_free_landing t a f given s l && nat_le (ready_minute t (leg_on l f)) m) (legs_in t)

-- how many free departures there are by the end of a minute
unfoldable pub free_departed : Tables → List ℕ → ℕ → List Connection → ℕ → ℕ → ℕ
free_departed t a f given s m = count_below (λ l. is_free_departure t a f given s l && nat_le (departure t (leg_on l f)) m) (legs_in t)

-- by how much free departures pass free landings by the end of a minute
abbrev pub free_excess : Tables → List ℕ → ℕ → List Connection → ℕ → ℕ → ℕ
free_excess t a f given s m = free_departed t a f given s m - free_landed t a f given s m

-- the aircraft that must be at the station at the period's start for the free departures
unfoldable pub free_need : Tables → List ℕ → ℕ → List Connection → ℕ → ℕ
free_need t a f given s = max_below (free_excess t a f given s) (period_of t)

-- the aircraft departs as many places on from its landing's as aircraft are there before, going round
pub record IsFirstOut (t : Tables) (a : List ℕ) (f : ℕ) (given : List Connection) (pair : Connection) : Type 0 where
  pub place : departure_place t a f given (station_at t pair) pair.departing
      ≡ (landing_place t a f given (station_at t pair) pair.arriving + free_need t a f given (station_at t pair)) % free_landings t a f given (station_at t pair)

-- beside the given pairs, aircraft depart from each station in the order in which they became ready there
pub record AreFirstOut (t : Tables) (a : List ℕ) (f : ℕ) (given turns : List Connection) : Type 0 where
  pub each : (k : ℕ) → k < length turns → arrivals_of given (turn_at turns k).arriving ≡ 0 → IsFirstOut t a f given (turn_at turns k)
