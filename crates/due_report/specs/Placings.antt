-- What becomes of the tails of each fleet.
use Rattle.std.specs.Prelude.{◌≡◌, ℕ, ◌<◌, Bool, true, false, List, length, slice_index_or, Option, Some, None, IsSomeAnd}
use Rattle.std.specs.List.{list_any}
use Rattle.euler_rotation.specs.declared.rotation.Rotation.{Rotation}
use Rattle.euler_rotation.specs.declared.rotation.Rotation.TheVariants as rotation
use Rattle.fleet_model.specs.Schedule.{days_in}
use Rattle.fleet_model.specs.declared.tables.Tables.{Tables}
use Rattle.euler_rotation.specs.FleetRotations.{last_made, rotation_of}
use Rattle.euler_rotation.specs.declared.fleet_rotation.FleetRotation.{FleetRotation}
use Rattle.tail_dates.specs.InTime.{GivesStarts, ShowsNone}
use Rattle.tail_dates.specs.Placing.{IsPlaced}
use Rattle.tail_dates.specs.declared.placing.Placed.{Placed}
use Rattle.tail_dates.specs.declared.placing.Placed.TheVariants as placed
use Rattle.tail_dates.specs.declared.tails.TailState.{TailState}

-- The tails of a fleet with this tour take starts of a day of the period by their rank. Each comes to maintenance in time by its
-- own, from where it is, and where they are late, or a place lacks tails, no starts do that.
pub record ArePlacedOn (t : Tables) (a : List ℕ) (f : ℕ) (tour : List ℕ) (day : ℕ) (tails : List TailState) (answer : Placed) : Type 0 where
  pub placed : IsPlaced t a f tour day tails answer
  pub in_time : GivesStarts t a f tour day tails answer
  pub none : ShowsNone t a f tour day tails answer

-- what becomes of the tails of a fleet with this rotation on a day of the period: nothing is said where it is no tour
abbrev pub IsPlacing : Tables → List ℕ → ℕ → ℕ → List TailState → Rotation → Option Placed → Type 0
IsPlacing t a f day tails rotation.Unused placing = placing ≡ None
IsPlacing t a f day tails (rotation.TooFewNights have used) placing = placing ≡ None
IsPlacing t a f day tails (rotation.Apart legs) placing = placing ≡ None
IsPlacing t a f day tails (rotation.Tour tour) placing = IsSomeAnd placing (ArePlacedOn t a f tour day tails)
IsPlacing t a f day tails rotation.None placing = placing ≡ None
IsPlacing t a f day tails (rotation.Spent order prefix) placing = placing ≡ None

-- of the fleet
abbrev pub placing_of : List (Option Placed) → ℕ → Option Placed
placing_of placings f = slice_index_or placings f None

-- of each of the first fleets
pub record ArePlacedBelow (t : Tables) (a : List ℕ) (rotations : List FleetRotation) (day : ℕ) (tails : List TailState) (placings : List (Option Placed)) (fleets : ℕ) : Type 0 where
  pub each_fleet : length placings ≡ fleets
  pub each : (f : ℕ) → f < fleets → IsPlacing t a f day tails (last_made (rotation_of rotations f)) (placing_of placings f)

-- of each fleet, in the order of the table
abbrev pub ArePlacings : Tables → List ℕ → List FleetRotation → ℕ → List TailState → List (Option Placed) → Type 0
ArePlacings t a rotations day tails placings = ArePlacedBelow t a rotations day tails placings (length rotations)

-- this holds of some day of the period
abbrev pub OnSomeDay : Tables → (ℕ → Type 0) → Type 0
OnSomeDay t holds = (day : ℕ) × (day < days_in t) × holds day

-- a fleet's tails aren't as many as its aircraft, are told only in part where they are, or can't all come to maintenance in time
abbrev pub is_unplaced : Option Placed → Bool
is_unplaced None = false
is_unplaced (Some (placed.WrongNumber tails used)) = true
is_unplaced (Some (placed.Late within tails starts)) = true
is_unplaced (Some (placed.SomeAt at tails)) = true
is_unplaced (Some (placed.Lacks at tails starts)) = true
is_unplaced (Some (placed.LateAt at within tails starts)) = true
is_unplaced (Some (placed.Lines starts)) = false

-- some fleet's are so
abbrev pub are_unplaced : List (Option Placed) → Bool
are_unplaced placings = list_any is_unplaced placings
