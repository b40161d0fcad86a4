-- The joined_flights schedule: all legs on one fleet, which flies each as fast as any fleet that may; and the aircraft that it
-- leaves over.
use Rattle.std.specs.Prelude.{ℕ, ◌<◌, ◌≤◌, List, length, Option, None, IsSome, MatchOption, ℤ, pos, ◌-ℤ◌, ◌≡◌}
use Rattle.sums.specs.Below.{sum_below}
use Rattle.fleet_model.specs.declared.tables.Tables.{Tables}
use Rattle.fleet_model.specs.Counts.{choice_at}
use Rattle.fleet_model.specs.Legal.{cost_of}
use Rattle.fleet_model.specs.OwnTimes.{own_pair}
use Rattle.fleet_model.specs.Schedule.{fleet_of, fleets_in, legs_in}
use Rattle.fleet_model.specs.Times.{busy_minutes}
use Rattle.stand_counts.specs.Flights.{Flights, used_by}

-- a fleet for each leg
pub record AreFleetsOf (t : Tables) (a : List ℕ) : Type 0 where
  pub each_leg : length a ≡ legs_in t
  pub known : (l : ℕ) → l < legs_in t → choice_at a l < fleets_in t

-- none of the first fleets may fly the leg
abbrev pub NoneFlies : Tables → ℕ → ℕ → Type 0
NoneFlies t l fleets = (f : ℕ) → f < fleets → cost_of t (own_pair t l f) ≡ None

-- some fleet may fly each leg
pub record HavePairs (t : Tables) : Type 0 where
  pub each : (l : ℕ) → l < legs_in t → ¬ (NoneFlies t l (fleets_in t))

-- of the first fleets, this one may fly the leg, and is busy with it no longer than any that may
pub record IsQuickest (t : Tables) (l fleets f : ℕ) : Type 0 where
  pub known : f < fleets
  pub allowed : IsSome (cost_of t (own_pair t l f))
  pub quickest : (g : ℕ) → g < fleets → IsSome (cost_of t (own_pair t l g)) → busy_minutes t (own_pair t l f) ≤ busy_minutes t (own_pair t l g)

-- the quickest of the first fleets, or none of them may fly the leg
abbrev pub IsBest : Tables → ℕ → ℕ → Option ℕ → Type 0
IsBest t l fleets best = MatchOption best (NoneFlies t l fleets) (IsQuickest t l fleets)

-- of each leg the quickest of all fleets
pub record AreQuickest (t : Tables) (fleets : ℕ → ℕ) : Type 0 where
  pub each : (l : ℕ) → l < legs_in t → IsQuickest t l (fleets_in t) (fleets l)

-- each leg flown once, at its own time and as by its fleet, and all by the same aircraft
abbrev pub joined_flights : Tables → (ℕ → ℕ) → Flights
joined_flights t fleets = record { count = legs_in t; pair = λ l. own_pair t l (fleets l); weight = λ p. 1 }

-- the aircraft of all fleets
abbrev pub aircraft_in : Tables → ℕ
aircraft_in t = sum_below (λ f. (fleet_of t f).aircraft) (fleets_in t)

-- the aircraft that the joined_flights schedule leaves over; below 0 where it lacks some
abbrev pub spare_of : Tables → (ℕ → ℕ) → ℤ
spare_of t fleets = pos (aircraft_in t) -ℤ pos (used_by t (joined_flights t fleets))

-- the aircraft left over, whichever quickest fleets are taken
pub record IsSpare (t : Tables) (spare : ℤ) : Type 0 where
  pub each : (fleets : ℕ → ℕ) → AreQuickest t fleets → spare ≡ spare_of t fleets
