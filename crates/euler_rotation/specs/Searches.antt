-- What a search among prefixes came to.
use Rattle.std.specs.Prelude.{◌≡◌, ℕ, ◌<◌, List, [], ◌∷◌, drop, length, Option, Some, None}
use Rattle.fleet_model.specs.declared.parts.Connection.{Connection}
use Rattle.fleet_model.specs.declared.tables.Tables.{Tables}
use Rattle.euler_rotation.specs.declared.asked.Asked.{Asked}
use Rattle.euler_rotation.specs.declared.field.Field.{Field}
use Rattle.euler_rotation.specs.declared.search.Found.{Found}
use Rattle.euler_rotation.specs.declared.search.Found.TheVariants as found
use Rattle.euler_rotation.specs.declared.walk.Walk.{Walk}
use Rattle.euler_rotation.specs.Answers.{AreEnough, AreVisited, IsNone, IsRightTour, IsSpent}
use Rattle.euler_rotation.specs.Asked.{IsAsked}
use Rattle.euler_rotation.specs.Prefixes.{prefix_entry, preorder}
use Rattle.euler_rotation.specs.Tours.{IsKeptTour, IsTourWith, nights_used}
use Rattle.euler_rotation.specs.Walks.{IsWalk, WalkStandsAt, legs_of_path, pending_in, preorder_in}

-- none of the first prefixes ends a kept tour
pub record EndNoneOf (t : Tables) (a : List ℕ) (f : ℕ) (pairs : List Connection) (days : ℕ) (order : List ℕ) (n : ℕ) : Type 0 where
  pub each : (k : ℕ) → k < n → IsKeptTour t a f pairs days (prefix_entry (preorder t a f pairs days order) k) → ⊥

-- what is said of a search under an order
abbrev pub IsFoundUnder : Tables → List ℕ → ℕ → List Connection → ℕ → List ℕ → ℕ → Found → Type 0
IsFoundUnder t a f pairs days order visits (found.Tour legs) = IsKeptTour t a f pairs days legs
IsFoundUnder t a f pairs days order visits found.Nothing = EndNoneOf t a f pairs days order (length (preorder t a f pairs days order))
IsFoundUnder t a f pairs days order visits (found.Spent prefix) = AreVisited t a f pairs days visits order prefix

-- a tour that holds the pairs, where the nights at maintenance stations are not too few
pub record MayTell (asked : Asked) (tour : List ℕ) (used : ℕ) : Type 0 where
  pub is_asked : IsAsked asked
  pub nights : AreEnough asked.tables.now asked.plan.now asked.fleet asked.days
  pub used_is : used ≡ nights_used asked.tables.now asked.plan.now asked.fleet
  pub holds : IsTourWith asked.tables.now asked.plan.now asked.fleet asked.pairs.now tour

-- what is said then of the answer: of a kept tour, that there is none, or of a search under the order of that tour
abbrev pub IsTourTold : Asked → List ℕ → ℕ → Found → Type 0
IsTourTold asked tour visits (found.Tour legs) = IsRightTour asked.tables.now asked.plan.now asked.fleet asked.pairs.now asked.days legs
IsTourTold asked tour visits found.Nothing = IsNone asked.tables.now asked.plan.now asked.fleet asked.pairs.now asked.days
IsTourTold asked tour visits (found.Spent prefix) = IsSpent asked.tables.now asked.plan.now asked.fleet asked.pairs.now asked.days visits tour prefix

-- the same of what is looked up
abbrev pub is_kept_in : Field → List ℕ → Type 0
is_kept_in field legs = IsKeptTour field.clean.now.asked.now.tables.now field.clean.now.asked.now.plan.now field.clean.now.asked.now.fleet
    field.clean.now.asked.now.pairs.now field.clean.now.asked.now.days legs

abbrev pub EndNone : Field → ℕ → Type 0
EndNone field n = EndNoneOf field.clean.now.asked.now.tables.now field.clean.now.asked.now.plan.now field.clean.now.asked.now.fleet
    field.clean.now.asked.now.pairs.now field.clean.now.asked.now.days field.order.now n

abbrev pub IsFound : Field → ℕ → Found → Type 0
IsFound field visits found = IsFoundUnder field.clean.now.asked.now.tables.now field.clean.now.asked.now.plan.now field.clean.now.asked.now.fleet
    field.clean.now.asked.now.pairs.now field.clean.now.asked.now.days field.order.now visits found

-- a prefix ends a kept tour, or doesn't
abbrev pub EndsOrNot : Field → List ℕ → Option (List ℕ) → Type 0
EndsOrNot field legs None = is_kept_in field legs → ⊥
EndsOrNot field legs (Some tour) = is_kept_in field tour

-- a prefix ends no kept tour, and it is the last; or the walk goes on to the next
pub record IsLast (field : Field) (at : Walk) : Type 0 where
  pub none : is_kept_in field (legs_of_path at.path) → ⊥
  pub last : pending_in field at.path 0 ≡ []

pub record GoesOnFrom (field : Field) (old new : Walk) : Type 0 where
  pub none : is_kept_in field (legs_of_path old.path) → ⊥
  pub next : WalkStandsAt field (pending_in field old.path 0) new

-- what a search comes to where it ends at a prefix
abbrev pub EndsHere : Field → Walk → Found → Type 0
EndsHere field at (found.Tour legs) = is_kept_in field legs
EndsHere field at found.Nothing = IsLast field at
EndsHere field at (found.Spent prefix) = ⊥

abbrev pub EndsOrGoesOn : Field → Walk → Walk → Option Found → Type 0
EndsOrGoesOn field old new None = GoesOnFrom field old new
EndsOrGoesOn field old new (Some found) = EndsHere field old found

-- so many prefixes were visited before the one at which the walk stands
pub record HasVisited (field : Field) (n : ℕ) (at : Walk) : Type 0 where
  pub walk : IsWalk field at
  pub rest : drop n (preorder_in field) ≡ legs_of_path at.path ∷ pending_in field at.path 0
  pub none : EndNone field n
