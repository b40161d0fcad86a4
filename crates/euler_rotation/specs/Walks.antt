-- The search among prefixes: where it stands, and what is still to be visited.
use Rattle.std.specs.Prelude.{◌≡◌, ℕ, ◌-◌, ◌<◌, Bool, true, false, List, [], ◌∷◌, ◌++◌, length, drop, slice_index_or, Option, Some, None}
use Rattle.std.specs.List.{filter, flat_map}
use Rattle.sums.specs.Places.{list_below}
use Rattle.fleet_model.specs.declared.parts.Connection.{Connection}
use Rattle.fleet_model.specs.declared.tables.Tables.{Tables}
use Rattle.fleet_model.specs.Counts.{choice_at}
use Rattle.fleet_model.specs.Schedule.{legs_in}
use Rattle.euler_rotation.specs.declared.field.Field.{Field}
use Rattle.euler_rotation.specs.declared.path.Level.{Level}
use Rattle.euler_rotation.specs.declared.walk.Walk.{Walk}
use Rattle.euler_rotation.specs.Asked.{TellClean, followers_of}
use Rattle.euler_rotation.specs.Often.{StayBelow, nights_since, stays_below}
use Rattle.euler_rotation.specs.Prefixes.{has_leg, is_open, nights_along, preorder, preorder_from}
use Rattle.euler_rotation.specs.Tours.{IsOrder}

-- the legs of a path, whose levels stand innermost first
abbrev pub legs_of_path : List Level → List ℕ
legs_of_path [] = []
legs_of_path (x ∷ outer) = legs_of_path outer ++ x.leg ∷ []

-- what is looked up is of the order
pub record IsField (field : Field) : Type 0 where
  pub clean : TellClean field.clean.now
  pub order : IsOrder field.clean.now.asked.now.tables.now field.clean.now.asked.now.plan.now field.clean.now.asked.now.fleet field.order.now
  pub some : 0 < length field.order.now
  pub followers : field.followers.items ≡ list_below (followers_of field.clean.now.asked.now.tables.now field.clean.now.asked.now.plan.now
      field.clean.now.asked.now.fleet field.clean.now.asked.now.pairs.now field.order.now) (legs_in field.clean.now.asked.now.tables.now)

-- a level behind some legs: its leg is the fleet's, no repetition, and the nights up to it are often enough for maintenance
pub record IsLevel (t : Tables) (a : List ℕ) (f days : ℕ) (front : List ℕ) (x : Level) : Type 0 where
  pub known : x.leg < legs_in t
  pub own : choice_at a x.leg ≡ f
  pub new : has_leg front x.leg ≡ false
  pub often : stays_below t days 0 (nights_along t f (front ++ x.leg ∷ [])) ≡ true
  pub since : x.since ≡ nights_since t 0 (nights_along t f (front ++ x.leg ∷ []))
  pub few : x.since < days

abbrev pub AreLevels : Tables → List ℕ → ℕ → ℕ → List Level → Type 0
AreLevels t a f days [] = Unit {0}
AreLevels t a f days (x ∷ outer) = IsLevel t a f days (legs_of_path outer) x × AreLevels t a f days outer

-- the prefixes that extend a path, by the followers of its last leg from a place on
abbrev pub extensions : Tables → List ℕ → ℕ → List Connection → ℕ → List ℕ → List Level → ℕ → List (List ℕ)
extensions t a f pairs days order [] from = []
extensions t a f pairs days order (x ∷ outer) from =
    flat_map (preorder_from t a f pairs days order (length order - length (x ∷ outer)) (legs_of_path (x ∷ outer)))
    (filter (is_open t f days (legs_of_path (x ∷ outer))) (drop from (followers_of t a f pairs order x.leg)))

-- all that are still to be visited: those, and of each level outside those from its next place on
abbrev pub pending : Tables → List ℕ → ℕ → List Connection → ℕ → List ℕ → List Level → ℕ → List (List ℕ)
pending t a f pairs days order [] from = []
pending t a f pairs days order (x ∷ outer) from = extensions t a f pairs days order (x ∷ outer) from ++ pending t a f pairs days order outer x.next

-- the same of what is looked up
abbrev pub opens_in : Field → List Level → ℕ → Bool
opens_in field path l = is_open field.clean.now.asked.now.tables.now field.clean.now.asked.now.fleet field.clean.now.asked.now.days (legs_of_path path) l

abbrev pub followers_from : Field → Level → ℕ → List ℕ
followers_from field x from = drop from (followers_of field.clean.now.asked.now.tables.now field.clean.now.asked.now.plan.now
    field.clean.now.asked.now.fleet field.clean.now.asked.now.pairs.now field.order.now x.leg)

abbrev pub extensions_in : Field → List Level → ℕ → List (List ℕ)
extensions_in field path from = extensions field.clean.now.asked.now.tables.now field.clean.now.asked.now.plan.now field.clean.now.asked.now.fleet
    field.clean.now.asked.now.pairs.now field.clean.now.asked.now.days field.order.now path from

abbrev pub pending_in : Field → List Level → ℕ → List (List ℕ)
pending_in field path from = pending field.clean.now.asked.now.tables.now field.clean.now.asked.now.plan.now field.clean.now.asked.now.fleet
    field.clean.now.asked.now.pairs.now field.clean.now.asked.now.days field.order.now path from

abbrev pub preorder_in : Field → List (List ℕ)
preorder_in field = preorder field.clean.now.asked.now.tables.now field.clean.now.asked.now.plan.now field.clean.now.asked.now.fleet
    field.clean.now.asked.now.pairs.now field.clean.now.asked.now.days field.order.now

abbrev pub fits_behind : Field → List Level → Level → Type 0
fits_behind field path level = IsLevel field.clean.now.asked.now.tables.now field.clean.now.asked.now.plan.now field.clean.now.asked.now.fleet
    field.clean.now.asked.now.days (legs_of_path path) level

-- the marks are those of the path's legs
pub record IsWalk (field : Field) (walk : Walk) : Type 0 where
  pub levels : AreLevels field.clean.now.asked.now.tables.now field.clean.now.asked.now.plan.now field.clean.now.asked.now.fleet field.clean.now.asked.now.days walk.path
  pub each_leg : length walk.used.items ≡ legs_in field.clean.now.asked.now.tables.now
  pub marks : (l : ℕ) → l < legs_in field.clean.now.asked.now.tables.now → slice_index_or walk.used.items l false ≡ has_leg (legs_of_path walk.path) l

-- the last level of a path, and those before it
abbrev pub top_of : List Level → Option Level
top_of [] = None
top_of (x ∷ outer) = Some x

abbrev pub tail_of : List Level → List Level
tail_of [] = []
tail_of (x ∷ outer) = outer

-- a leg may follow a path, and the nights without maintenance then
pub record Opens (field : Field) (path : List Level) (l since : ℕ) : Type 0 where
  pub opens : opens_in field path l ≡ true
  pub below : StayBelow field.clean.now.asked.now.tables.now field.clean.now.asked.now.days 0
      (nights_along field.clean.now.asked.now.tables.now field.clean.now.asked.now.fleet (legs_of_path path ++ l ∷ [])) since

abbrev pub OpensOrNot : Field → List Level → ℕ → Option ℕ → Type 0
OpensOrNot field path l None = opens_in field path l ≡ false
OpensOrNot field path l (Some since) = Opens field path l since

-- the first leg that may follow, of the followers from a place on
pub record OpensFirst (field : Field) (path : List Level) (top : Level) (from : ℕ) (level : Level) : Type 0 where
  pub first : filter (opens_in field path) (followers_from field top from) ≡ level.leg ∷ filter (opens_in field path) (followers_from field top level.next)
  pub fits : fits_behind field path level

abbrev pub IsOpening : Field → List Level → Level → ℕ → Option Level → Type 0
IsOpening field path top from None = filter (opens_in field path) (followers_from field top from) ≡ []
IsOpening field path top from (Some level) = OpensFirst field path top from level

-- the next level: of what extends the path, what extends its prefix comes first
pub record GoesDeeper (field : Field) (path : List Level) (from : ℕ) (level : Level) : Type 0 where
  pub first : extensions_in field path from ≡ legs_of_path (level ∷ path) ∷ (extensions_in field (level ∷ path) 0 ++ extensions_in field path level.next)
  pub fits : fits_behind field path level

abbrev pub IsNextLevel : Field → List Level → ℕ → Option Level → Type 0
IsNextLevel field path from None = extensions_in field path from ≡ []
IsNextLevel field path from (Some level) = GoesDeeper field path from level

-- a walk at a prefix, which with what is pending then is what was to be visited
pub record WalkStandsAt (field : Field) (visits : List (List ℕ)) (at : Walk) : Type 0 where
  pub walk : IsWalk field at
  pub first : visits ≡ legs_of_path at.path ∷ pending_in field at.path 0

abbrev pub Advances : Field → Walk → Walk → Bool → Type 0
Advances field old new true = WalkStandsAt field (pending_in field old.path 0) new
Advances field old new false = pending_in field old.path 0 ≡ []
