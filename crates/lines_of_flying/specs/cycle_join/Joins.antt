-- The cycles of a fleet's legs joined to one tour, or the part of them that is apart from the others.
use Rattle.std.specs.Prelude.{◌≡◌, ◌≢◌, ℕ, ◌<◌, Bool, IsTrue, false, ◌==◌, List, length, slice_index}
use Rattle.std.specs.List.{list_any}
use Rattle.fleet_model.specs.declared.parts.Connection.{Connection}
use Rattle.fleet_model.specs.declared.tables.Tables.{Tables}
use Rattle.fleet_model.specs.Counts.{choice_at}
use Rattle.fleet_model.specs.Schedule.{legs_in}
use Rattle.lines_of_flying.specs.ground_turns.Maps.{Holds, IsFitting, IsTour, turns_round}
use Rattle.lines_of_flying.specs.ground_turns.Parts.{KeepsPart}
use Rattle.lines_of_flying.specs.declared.cycle_join.joined.Joined.{Joined}
use Rattle.lines_of_flying.specs.declared.cycle_join.joined.Joined.TheVariants as joined

-- the fleet flies the leg by the assignment
pub record Flies (t : Tables) (a : List ℕ) (f l : ℕ) : Type 0 where
  pub known : l < legs_in t
  pub flown : choice_at a l ≡ f

-- it flies some leg
pub record FliesSome (t : Tables) (a : List ℕ) (f : ℕ) : Type 0 where
  pub leg : ℕ
  pub flies : Flies t a f leg

-- the least of the fleet's legs
pub record IsFirstLeg (t : Tables) (a : List ℕ) (f l : ℕ) : Type 0 where
  pub flies : Flies t a f l
  pub least : (k : ℕ) → k < l → choice_at a k ≢ f

-- the leg is one of the list
abbrev pub is_listed : List ℕ → ℕ → Bool
is_listed legs l = list_any (λ leg. leg == l) legs

-- a leg of the fleet that is none of the list
pub record HasOther (t : Tables) (a : List ℕ) (f : ℕ) (legs : List ℕ) : Type 0 where
  pub leg : ℕ
  pub flies : Flies t a f leg
  pub outside : is_listed legs leg ≡ false

-- each fitting map that holds the pairs keeps the part
pub record IsAlwaysKept (t : Tables) (a : List ℕ) (f : ℕ) (pairs : List Connection) (inside : ℕ → Bool) : Type 0 where
  pub each : (turns : List Connection) → IsFitting t a f turns → Holds turns pairs → KeepsPart turns inside

-- a tour that holds the pairs, from the fleet's first leg
pub record IsJoined (t : Tables) (a : List ℕ) (f : ℕ) (pairs : List Connection) (legs : List ℕ) : Type 0 where
  pub tour : IsTour t a f legs
  pub holds : Holds (turns_round legs) pairs
  pub begins : IsFirstLeg t a f (slice_index legs 0)

-- Some of the fleet's legs, but not all: of the parts that all maps which hold the pairs keep, the least that has the
-- first leg. So no tour holds the pairs.
pub record IsApart (t : Tables) (a : List ℕ) (f : ℕ) (pairs : List Connection) (legs : List ℕ) : Type 0 where
  pub rise : (j k : ℕ) → j < k → k < length legs → slice_index legs j < slice_index legs k
  pub some : 0 < length legs
  pub begins : IsFirstLeg t a f (slice_index legs 0)
  pub flies : (k : ℕ) → k < length legs → Flies t a f (slice_index legs k)
  pub other : HasOther t a f legs
  pub kept : IsAlwaysKept t a f pairs (is_listed legs)
  pub least : (inside : ℕ → Bool) → IsAlwaysKept t a f pairs inside → IsTrue (inside (slice_index legs 0))
      → (k : ℕ) → k < length legs → IsTrue (inside (slice_index legs k))
  pub no_tour : (tour : List ℕ) → IsTour t a f tour → Holds (turns_round tour) pairs → ⊥

-- what is said of each answer
abbrev pub Joins : Tables → List ℕ → ℕ → List Connection → Joined → Type 0
Joins t a f pairs (joined.Tour legs) = IsJoined t a f pairs legs
Joins t a f pairs (joined.Apart legs) = IsApart t a f pairs legs
