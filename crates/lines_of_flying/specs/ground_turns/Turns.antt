-- Turns of a fleet's aircraft at a station: from a leg that lands there to one that departs. Minutes are those of the
-- period, and time goes round from its last minute to its first.
use Rattle.std.specs.Prelude.{◌≡◌, ◌≢◌, ℕ, ◌+◌, ◌-◌, ◌%◌, ◌<◌, Bool, IsTrue, nat_lt, nat_le, List}
use Rattle.fleet_model.specs.Period.{day_of_minute}
use Rattle.fleet_model.specs.declared.parts.Connection.{Connection}
use Rattle.fleet_model.specs.declared.tables.Tables.{Tables}
use Rattle.fleet_model.specs.Counts.{choice_at, weights_of}
use Rattle.fleet_model.specs.Schedule.{leg_of, leg_on, legs_in, period_of}
use Rattle.fleet_model.specs.Times.{departure, ready_minute}
use Rattle.fleet_model.specs.Use.{stand_of}

-- how many minutes after one minute another comes, going round in so many minutes
abbrev pub minutes_round : ℕ → ℕ → ℕ → ℕ
minutes_round minutes from to = (to + minutes - from) % minutes

abbrev pub minutes_until : Tables → ℕ → ℕ → ℕ
minutes_until t from to = minutes_round (period_of t) from to

-- the station of a turn
abbrev pub station_at : Tables → Connection → ℕ
station_at t turn = (leg_of t turn.arriving).to

-- the minute at which the aircraft, of this fleet, can depart again, and that at which it departs
abbrev pub ready_at : Tables → ℕ → Connection → ℕ
ready_at t f turn = ready_minute t (leg_on turn.arriving f)

abbrev pub departs_at : Tables → ℕ → Connection → ℕ
departs_at t f turn = departure t (leg_on turn.departing f)

-- the minutes that the aircraft waits between
abbrev pub wait_of : Tables → ℕ → Connection → ℕ
wait_of t f turn = minutes_until t (ready_at t f turn) (departs_at t f turn)

-- the aircraft waits at the end of the minute. That moment lies in the wait: it is one from the end of the ready
-- minute to that of the minute before departure.
abbrev pub waits_at : Tables → ℕ → Connection → ℕ → Bool
waits_at t f turn m = nat_lt (minutes_until t (ready_at t f turn) m) (wait_of t f turn)

-- the turn touches a minute: one from the ready minute to that of departure, both included
abbrev pub touches : Tables → ℕ → Connection → ℕ → Bool
touches t f turn m = nat_le (minutes_until t (ready_at t f turn) m) (wait_of t f turn)

-- the turn crosses the period's start
abbrev pub crosses : Tables → ℕ → Connection → Bool
crosses t f turn = nat_lt (departs_at t f turn) (ready_at t f turn)

-- day starts in the wait: the nights that the aircraft stands at the station
abbrev pub nights_waited : Tables → ℕ → Connection → ℕ
nights_waited t f turn = day_of_minute (ready_at t f turn + wait_of t f turn) - day_of_minute (ready_at t f turn)

-- two legs that the fleet flies by the assignment, the second from where the first lands
pub record IsTurn (t : Tables) (a : List ℕ) (f : ℕ) (pair : Connection) : Type 0 where
  pub arriving : pair.arriving < legs_in t
  pub departing : pair.departing < legs_in t
  pub comes_on : choice_at a pair.arriving ≡ f
  pub leaves_on : choice_at a pair.departing ≡ f
  pub meets : (leg_of t pair.arriving).to ≡ (leg_of t pair.departing).from

-- no moment at which none of the fleet's aircraft stands at the station lies in the wait
pub record IsClean (t : Tables) (a : List ℕ) (f : ℕ) (pair : Connection) : Type 0 where
  pub each : (m : ℕ) → m < period_of t → IsTrue (waits_at t f pair m) → stand_of t (weights_of a) f (station_at t pair) m ≢ 0
