-- The rotations of fleets: one for each fleet in table order where there is a plan, and none where there is none.
use Rattle.std.specs.Prelude.{◌≡◌, ℕ, ◌*◌, ◌<◌, ◌≤◌, List, [], length, slice_index_or, None, IfSome, unwrap_or, ⊤}
use Rattle.euler_rotation.specs.declared.rotation.Rotation.{Rotation}
use Rattle.euler_rotation.specs.declared.rotation.Rotation.TheVariants as rotation
use Rattle.fleet_model.specs.declared.parts.Connection.{Connection}
use Rattle.fleet_model.specs.declared.tables.Tables.{Tables}
use Rattle.fleet_model.specs.Counts.{weights_of}
use Rattle.fleet_model.specs.Schedule.{days_in, fleets_in, legs_in}
use Rattle.fleet_model.specs.Use.{used_of}
use Rattle.lines_of_flying.specs.ground_turns.Maps.{IsTour, turn_at}
use Rattle.lines_of_flying.specs.ground_turns.Nights.{IsKeptFor, nights_of_tour}
use Rattle.lines_of_flying.specs.Lines.{AreLegsOfTables, BeginsAfterStart, days_of_tour}
use Rattle.euler_rotation.specs.declared.fleet_rotation.FleetRotation.{FleetRotation}
use Rattle.sums.specs.Places.{list_below}

-- the rotation of a fleet
abbrev pub no_rotation : FleetRotation
no_rotation = record { pairs = []; first = rotation.Unused; second = None; used = 0 }

abbrev pub rotation_of : List FleetRotation → ℕ → FleetRotation
rotation_of rotations f = slice_index_or rotations f no_rotation

-- the one that was made last: without through pairs, where these were given up
abbrev pub last_made : FleetRotation → Rotation
last_made made = unwrap_or made.second made.first

-- legs of the tables, and no more than there are
pub record AreListed (t : Tables) (legs : List ℕ) : Type 0 where
  pub known : AreLegsOfTables t legs
  pub few : length legs ≤ legs_in t

-- two legs of the tables
pub record IsConnection (t : Tables) (pair : Connection) : Type 0 where
  pub arriving : pair.arriving < legs_in t
  pub departing : pair.departing < legs_in t

pub record AreConnections (t : Tables) (pairs : List Connection) : Type 0 where
  pub each : (k : ℕ) → k < length pairs → IsConnection t (turn_at pairs k)

-- all lists of a rotation are legs of the tables
abbrev pub IsOfLegs : Tables → Rotation → Type 0
IsOfLegs t rotation.Unused = ⊤
IsOfLegs t (rotation.TooFewNights have used) = ⊤
IsOfLegs t (rotation.Apart legs) = AreListed t legs
IsOfLegs t (rotation.Tour tour) = AreListed t tour
IsOfLegs t rotation.None = ⊤
IsOfLegs t (rotation.Spent order prefix) = AreListed t order × AreListed t prefix

pub record IsFleetRotation (t : Tables) (made : FleetRotation) : Type 0 where
  pub pairs : AreConnections t made.pairs
  pub first : IsOfLegs t made.first
  pub second : IfSome made.second (IsOfLegs t)

-- rotations of the tables' first fleets, of their legs
pub record AreRotations (t : Tables) (rotations : List FleetRotation) : Type 0 where
  pub few : length rotations ≤ fleets_in t
  pub each : (f : ℕ) → f < length rotations → IsFleetRotation t (rotation_of rotations f)

-- a tour is one of the fleet's by the assignment, and begins after a night
abbrev pub IsRotationFlown : Tables → List ℕ → ℕ → Rotation → Type 0
IsRotationFlown t a f rotation.Unused = ⊤
IsRotationFlown t a f (rotation.TooFewNights have used) = ⊤
IsRotationFlown t a f (rotation.Apart legs) = ⊤
IsRotationFlown t a f (rotation.Tour tour) = IsTour t a f tour × BeginsAfterStart t f tour
IsRotationFlown t a f rotation.None = ⊤
IsRotationFlown t a f (rotation.Spent order prefix) = ⊤

-- it says how many aircraft of the fleet the assignment uses
abbrev pub TellsUse : Tables → List ℕ → ℕ → FleetRotation → Type 0
TellsUse t a f made = made.used ≡ used_of t (weights_of a) f

pub record AllTellUse (t : Tables) (a : List ℕ) (rotations : List FleetRotation) : Type 0 where
  pub each : (f : ℕ) → f < length rotations → TellsUse t a f (rotation_of rotations f)

pub record AreFlown (t : Tables) (a : List ℕ) (rotations : List FleetRotation) : Type 0 where
  pub each : (f : ℕ) → f < length rotations → IsRotationFlown t a f (last_made (rotation_of rotations f))
  pub counted : AllTellUse t a rotations

-- what is told of a fleet by the assignment: its rotation, and how many aircraft the assignment uses
abbrev pub told_by_plan : Tables → List ℕ → ℕ → FleetRotation → FleetRotation
told_by_plan t a f made = record { pairs = made.pairs; first = made.first; second = made.second; used = used_of t (weights_of a) f }

abbrev pub all_told_by_plan : Tables → List ℕ → List FleetRotation → List FleetRotation
all_told_by_plan t a rotations = list_below (λ f. told_by_plan t a f (rotation_of rotations f)) (length rotations)

-- so many aircraft fly a tour of the tables' legs: its days are those of the period for each of them
pub record IsTourOf (t : Tables) (f used : ℕ) (tour : List ℕ) : Type 0 where
  pub some : 0 < length tour
  pub known : AreLegsOfTables t tour
  pub days : days_of_tour t f tour ≡ used * days_in t

-- where it is a tour, so many aircraft fly it
abbrev pub ComesRound : Tables → ℕ → ℕ → Rotation → Type 0
ComesRound t f used rotation.Unused = ⊤
ComesRound t f used (rotation.TooFewNights have needed) = ⊤
ComesRound t f used (rotation.Apart legs) = ⊤
ComesRound t f used (rotation.Tour tour) = IsTourOf t f used tour
ComesRound t f used rotation.None = ⊤
ComesRound t f used (rotation.Spent order prefix) = ⊤

pub record AllComeRound (t : Tables) (rotations : List FleetRotation) : Type 0 where
  pub each : (f : ℕ) → f < length rotations → ComesRound t f (rotation_of rotations f).used (last_made (rotation_of rotations f))

-- a tour comes to maintenance, again and again
abbrev pub IsKept : Tables → ℕ → Rotation → Type 0
IsKept t f rotation.Unused = ⊤
IsKept t f (rotation.TooFewNights have used) = ⊤
IsKept t f (rotation.Apart legs) = ⊤
IsKept t f (rotation.Tour tour) = (days : ℕ) × IsKeptFor t (nights_of_tour t f tour) days
IsKept t f rotation.None = ⊤
IsKept t f (rotation.Spent order prefix) = ⊤

pub record AreKept (t : Tables) (rotations : List FleetRotation) : Type 0 where
  pub each : (f : ℕ) → f < length rotations → IsKept t f (last_made (rotation_of rotations f))
