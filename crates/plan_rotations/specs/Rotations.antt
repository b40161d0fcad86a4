-- The rotations of a plan: of each fleet through pairs that are worth most, and what becomes of its rotation.
use Rattle.std.specs.Prelude.{◌≡◌, ℕ, ◌<◌, Bool, true, false, ◌&&◌, MatchBool, List, [], ◌∷◌, length, Option, None, IsSomeAnd, ◌≤ℤ◌}
use Rattle.fleet_model.specs.declared.parts.Connection.{Connection}
use Rattle.fleet_model.specs.declared.tables.Tables.{Tables}
use Rattle.fleet_model.specs.Schedule.{fleets_in}
use Rattle.lines_of_flying.specs.ground_turns.Throughs.{IsThroughSet, value_of_set}
use Rattle.plan_rotations.specs.through_flights.Choice.{AreThroughsListed}
use Rattle.euler_rotation.specs.Answers.{IsRotation, IsRotationComplete}
use Rattle.euler_rotation.specs.declared.rotation.Rotation.{Rotation}
use Rattle.euler_rotation.specs.declared.rotation.Rotation.TheVariants as rotation
use Rattle.euler_rotation.specs.FleetRotations.{TellsUse, rotation_of}
use Rattle.euler_rotation.specs.declared.fleet_rotation.FleetRotation.{FleetRotation}

-- through pairs that are worth most of all through sets, each worth something, by the leg that arrives
pub record AreWorthMost (t : Tables) (a : List ℕ) (f : ℕ) (pairs : List Connection) : Type 0 where
  pub through_set : IsThroughSet t a f pairs
  pub most : (other : List Connection) → IsThroughSet t a f other → value_of_set t other ≤ℤ value_of_set t pairs
  pub listed : AreThroughsListed t pairs

-- what becomes of the rotation with given pairs
pub record IsRotationWith (t : Tables) (a : List ℕ) (f : ℕ) (pairs : List Connection) (days visits : ℕ) (answer : Rotation) : Type 0 where
  pub right : IsRotation t a f pairs days visits answer
  pub complete : IsRotationComplete t a f pairs days visits answer

-- the pairs stand in the way, or may: no tour holds them, no kept one, or the search was given up
abbrev pub is_given_up : Rotation → Bool
is_given_up rotation.Unused = false
is_given_up (rotation.TooFewNights have used) = false
is_given_up (rotation.Apart legs) = true
is_given_up (rotation.Tour legs) = false
is_given_up rotation.None = true
is_given_up (rotation.Spent order prefix) = true

-- there are pairs
abbrev pub are_some : List Connection → Bool
are_some [] = false
are_some (pair ∷ pairs) = true

-- a rotation without pairs is made exactly where it is wanted
abbrev pub IsMadeIf : Bool → Tables → List ℕ → ℕ → ℕ → ℕ → Option Rotation → Type 0
IsMadeIf wanted t a f days visits second = MatchBool wanted (IsSomeAnd second (IsRotationWith t a f [] days visits)) (second ≡ None)

-- that is where pairs were chosen and the rotation with them was given up
abbrev pub IsSecond : Tables → List ℕ → ℕ → ℕ → ℕ → List Connection → Rotation → Option Rotation → Type 0
IsSecond t a f days visits pairs first second = IsMadeIf (are_some pairs && is_given_up first) t a f days visits second

pub record IsMadeRotation (t : Tables) (a : List ℕ) (f days visits : ℕ) (made : FleetRotation) : Type 0 where
  pub pairs : AreWorthMost t a f made.pairs
  pub first : IsRotationWith t a f made.pairs days visits made.first
  pub second : IsSecond t a f days visits made.pairs made.first made.second
  pub counted : TellsUse t a f made

-- one of each of the first fleets, in the order of the table
pub record AreMadeBelow (t : Tables) (a : List ℕ) (days visits : ℕ) (all : List FleetRotation) (fleets : ℕ) : Type 0 where
  pub each_fleet : length all ≡ fleets
  pub each : (f : ℕ) → f < fleets → IsMadeRotation t a f days visits (rotation_of all f)

-- one of each fleet, in the order of the table
abbrev pub ArePlanRotations : Tables → List ℕ → ℕ → ℕ → List FleetRotation → Type 0
ArePlanRotations t a days visits all = AreMadeBelow t a days visits all (fleets_in t)
