-- What becomes of a fleet's rotation.
use Rattle.std.specs.Prelude.{◌≡◌, ◌≢◌, ℕ, ◌*◌, ◌<◌, ◌≤◌, ◌⊎◌, ◌↔◌, List, length}
use Rattle.fleet_model.specs.declared.parts.Connection.{Connection}
use Rattle.fleet_model.specs.declared.tables.Tables.{Tables}
use Rattle.fleet_model.specs.Counts.{choice_at}
use Rattle.fleet_model.specs.Schedule.{legs_in}
use Rattle.lines_of_flying.specs.cycle_join.Joins.{FliesSome, IsApart}
use Rattle.euler_rotation.specs.declared.rotation.Rotation.{Rotation}
use Rattle.euler_rotation.specs.declared.rotation.Rotation.TheVariants as rotation
use Rattle.euler_rotation.specs.Prefixes.{numbered_entries, prefix_entry, preorder}
use Rattle.euler_rotation.specs.Tours.{BeginsLeast, HasKeptTour, HasTour, IsKeptTour, IsOrder, nights_maintained, nights_used}

-- the fleet has no leg
pub record IsUnused (t : Tables) (a : List ℕ) (f : ℕ) : Type 0 where
  pub each : (l : ℕ) → l < legs_in t → choice_at a l ≢ f

-- it has some, and so many nights at maintenance stations, which are too few for the days
pub record AreTooFew (t : Tables) (a : List ℕ) (f days have used : ℕ) : Type 0 where
  pub flies : FliesSome t a f
  pub have_is : have ≡ nights_maintained t a f
  pub used_is : used ≡ nights_used t a f
  pub few : have * days < used

-- it has some, and its nights at maintenance stations are not too few
pub record AreEnough (t : Tables) (a : List ℕ) (f days : ℕ) : Type 0 where
  pub flies : FliesSome t a f
  pub enough : nights_used t a f ≤ nights_maintained t a f * days

-- no tour holds the pairs: these legs are apart from the others
pub record AreLegsApart (t : Tables) (a : List ℕ) (f : ℕ) (pairs : List Connection) (days : ℕ) (legs : List ℕ) : Type 0 where
  pub nights : AreEnough t a f days
  pub apart : IsApart t a f pairs legs

-- a kept tour that holds the pairs, from the least leg that has a night before it
pub record IsRightTour (t : Tables) (a : List ℕ) (f : ℕ) (pairs : List Connection) (days : ℕ) (legs : List ℕ) : Type 0 where
  pub nights : AreEnough t a f days
  pub tour : IsKeptTour t a f pairs days legs
  pub begins : BeginsLeast t f legs

-- some tour holds the pairs, but no kept one
pub record IsNone (t : Tables) (a : List ℕ) (f : ℕ) (pairs : List Connection) (days : ℕ) : Type 0 where
  pub nights : AreEnough t a f days
  pub tour : HasTour t a f pairs
  pub none : (legs : List ℕ) → IsKeptTour t a f pairs days legs → ⊥

-- of the prefixes under the order there are more than so many visits, none of the first so many ends a kept tour, and
-- the last of these is the prefix
pub record AreVisited (t : Tables) (a : List ℕ) (f : ℕ) (pairs : List Connection) (days visits : ℕ) (order prefix : List ℕ) : Type 0 where
  pub each_leg : IsOrder t a f order
  pub more : visits < length (preorder t a f pairs days order)
  pub none : (k : ℕ) → k < visits → IsKeptTour t a f pairs days (prefix_entry (preorder t a f pairs days order) k) → ⊥
  pub last : prefix ≡ numbered_entries (preorder t a f pairs days order) visits

-- some tour holds the pairs, there are fewer days than nights or nights may be short, and so many prefixes were visited in vain
pub record IsSpent (t : Tables) (a : List ℕ) (f : ℕ) (pairs : List Connection) (days visits : ℕ) (order prefix : List ℕ) : Type 0 where
  pub nights : AreEnough t a f days
  pub tour : HasTour t a f pairs
  pub few : t.settings.least_night ≡ 0 → days < nights_used t a f
  pub visited : AreVisited t a f pairs days visits order prefix

-- what is said of each answer
abbrev pub IsRotation : Tables → List ℕ → ℕ → List Connection → ℕ → ℕ → Rotation → Type 0
IsRotation t a f pairs days visits rotation.Unused = IsUnused t a f
IsRotation t a f pairs days visits (rotation.TooFewNights have used) = AreTooFew t a f days have used
IsRotation t a f pairs days visits (rotation.Apart legs) = AreLegsApart t a f pairs days legs
IsRotation t a f pairs days visits (rotation.Tour legs) = IsRightTour t a f pairs days legs
IsRotation t a f pairs days visits rotation.None = IsNone t a f pairs days
IsRotation t a f pairs days visits (rotation.Spent order prefix) = IsSpent t a f pairs days visits order prefix

-- the answer is a tour
abbrev pub IsTourAnswer : Rotation → Type 0
IsTourAnswer rotation.Unused = ⊥
IsTourAnswer (rotation.TooFewNights have used) = ⊥
IsTourAnswer (rotation.Apart legs) = ⊥
IsTourAnswer (rotation.Tour legs) = Unit {0}
IsTourAnswer rotation.None = ⊥
IsTourAnswer (rotation.Spent order prefix) = ⊥

-- the search comes to its end: there are as many days as nights and none is short, or under no order more prefixes than visits
abbrev pub Suffice : Tables → List ℕ → ℕ → List Connection → ℕ → ℕ → Type 0
Suffice t a f pairs days visits = ((t.settings.least_night ≡ 0) × (nights_used t a f ≤ days)) ⊎ ((order : List ℕ) → IsOrder t a f order → length (preorder t a f pairs days order) ≤ visits)

-- then the answer is a kept tour exactly where one holds the pairs
abbrev pub IsRotationComplete : Tables → List ℕ → ℕ → List Connection → ℕ → ℕ → Rotation → Type 0
IsRotationComplete t a f pairs days visits answer = Suffice t a f pairs days visits → (IsTourAnswer answer ↔ HasKeptTour t a f pairs days)
