-- The minutes at whose end no aircraft of a fleet stands at a station.
use Rattle.std.specs.Prelude.{ℕ, suc, ◌≡◌, ◌<◌, ◌≤◌, Bool, not, ◌==◌, ◌&&◌, if◌then◌else◌, List, filter}
use Rattle.sums.specs.Places.{list_below}
use Rattle.fleet_model.specs.declared.parts.Pair.{Pair}
use Rattle.fleet_model.specs.declared.tables.Tables.{Tables}
use Rattle.fleet_model.specs.Counts.{Weights}
use Rattle.fleet_model.specs.Schedule.{leg_of, period_of}
use Rattle.fleet_model.specs.Times.{departure, ready_minute}
use Rattle.fleet_model.specs.Use.{stand_of}
use Rattle.stand_counts.specs.Flights.{Flights, stand_by}

-- none stands there at the end of the minute
abbrev pub none_stands : Tables → Weights → ℕ → ℕ → ℕ → Bool
none_stands t w f s m = stand_of t w f s m == 0

-- of the first minutes those at whose end none stands there, rising
unfoldable pub zeros_below : Tables → Weights → ℕ → ℕ → ℕ → List ℕ
zeros_below t w f s n = filter (none_stands t w f s) (list_below (λ m. m) n)

-- those of the period
abbrev pub zeros_of : Tables → Weights → ℕ → ℕ → List ℕ
zeros_of t w f s = zeros_below t w f s (period_of t)

-- none of some flights' aircraft stands there at the end of the minute
abbrev pub none_left : Tables → Flights → ℕ → ℕ → Bool
none_left t x s m = stand_by t x s m == 0

-- the minutes of the period at whose end none does, rising
abbrev pub empty_of : Tables → Flights → ℕ → List ℕ
empty_of t x s = filter (none_left t x s) (list_below (λ m. m) (period_of t))

-- the minute in which a pair's aircraft becomes ready at the station, and that in which it departs from there; the end of the
-- period where it doesn't
abbrev pub comes_in : Tables → Weights → ℕ → Pair → ℕ
comes_in t w s p = if ((leg_of t p.leg).to == s) && not (w p == 0) then ready_minute t p else period_of t

abbrev pub leaves_in : Tables → Weights → ℕ → Pair → ℕ
leaves_in t w s p = if ((leg_of t p.leg).from == s) && not (w p == 0) then departure t p else period_of t

-- a pair neither comes nor leaves after one minute and before another
pub record MovesOutside (t : Tables) (w : Weights) (s minute next : ℕ) (p : Pair) : Type 0 where
  pub comes : minute < comes_in t w s p → next ≤ comes_in t w s p
  pub leaves : minute < leaves_in t w s p → next ≤ leaves_in t w s p

-- so do the first of the flights
pub record MoveOutside (t : Tables) (x : Flights) (s minute next n : ℕ) : Type 0 where
  pub each : (k : ℕ) → k < n → MovesOutside t x.weight s minute next (x.pair k)

-- until then it stays as it is whether one stands there
pub record StaysSo (empty : ℕ → Bool) (minute next : ℕ) : Type 0 where
  pub each : (m : ℕ) → minute ≤ m → suc m < next → empty (suc m) ≡ empty m
