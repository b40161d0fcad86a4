-- Parts of a fleet's legs that a map keeps among themselves, as its cycles.
use Rattle.std.specs.Prelude.{◌≡◌, ℕ, ◌<◌, Bool, IsTrue, List, length}
use Rattle.fleet_model.specs.declared.parts.Connection.{Connection}
use Rattle.fleet_model.specs.declared.tables.Tables.{Tables}
use Rattle.fleet_model.specs.Schedule.{period_of}
use Rattle.lines_of_flying.specs.ground_turns.Maps.{arrivals_of, turn_at}
use Rattle.lines_of_flying.specs.ground_turns.Turns.{station_at, touches}

-- no turn of the map leads into the part or out of it
pub record KeepsPart (turns : List Connection) (inside : ℕ → Bool) : Type 0 where
  pub each : (k : ℕ) → k < length turns → inside (turn_at turns k).arriving ≡ inside (turn_at turns k).departing

-- a turn that is none of the given pairs touches the minute at the station
pub record TouchesFreely (t : Tables) (f : ℕ) (given turns : List Connection) (s m k : ℕ) : Type 0 where
  pub within : k < length turns
  pub free : arrivals_of given (turn_at turns k).arriving ≡ 0
  pub there : station_at t (turn_at turns k) ≡ s
  pub touching : IsTrue (touches t f (turn_at turns k) m)

-- no minute is touched by such a turn of the part and by one outside, at one station
pub record NeverTouches (t : Tables) (f : ℕ) (given turns : List Connection) (inside : ℕ → Bool) : Type 0 where
  pub each : (s m j k : ℕ) → m < period_of t → TouchesFreely t f given turns s m j → TouchesFreely t f given turns s m k
      → inside (turn_at turns j).arriving ≡ inside (turn_at turns k).arriving
