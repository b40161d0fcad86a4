-- Subproblems: which pairs are kept, of all that may be taken.
use Rattle.std.specs.Prelude.{◌≡◌, ℕ, ◌<◌, Bool, IsTrue, true, false, not, ◌==◌, ◌&&◌, if◌then◌else◌, List, [], slice_index_or, slice_set, is_some}
use Rattle.sums.specs.Below.{count_below, sum_below}
use Rattle.fleet_model.specs.declared.parts.Pair.{Pair}
use Rattle.fleet_model.specs.declared.kept.Step.{Step}
use Rattle.fleet_model.specs.declared.undoing.Undo.{Undo}
use Rattle.fleet_model.specs.declared.tables.Tables.{Tables}
use Rattle.fleet_model.specs.Counts.{pair_at}
use Rattle.fleet_model.specs.Legal.{IsAssignment, cost_of}
use Rattle.fleet_model.specs.Schedule.{choices_in, leg_on, legs_in}

-- which pairs are kept; for each leg, its domain
abbrev pub Domains : Type 0
Domains = Pair → Bool

-- all pairs that may be taken
abbrev pub all_pairs : Tables → Domains
all_pairs t p = is_some (cost_of t p)

-- a step leaves a pair: `yes` leaves only its own pair on its leg, `no` removes that
abbrev pub leaves : Step → Pair → Bool
leaves step p = if p.leg == step.leg then (if step.yes then p.choice == step.choice else not (p.choice == step.choice)) else true

-- the pairs that are kept after a step
abbrev pub narrowed : Domains → Step → Domains
narrowed keeps step p = keeps p && leaves step p

-- how many choices a leg keeps
abbrev pub kept_on : Tables → Domains → ℕ → ℕ
kept_on t keeps l = count_below (λ c. keeps (leg_on l c)) (choices_in t l)

-- how many pairs are kept
abbrev pub pairs_kept : Tables → Domains → ℕ
pairs_kept t keeps = sum_below (kept_on t keeps) (legs_in t)

-- an assignment of kept pairs
pub record IsKeptAssignment (t : Tables) (keeps : Domains) (a : List ℕ) : Type 0 where
  pub assignment : IsAssignment t a
  pub kept : (l : ℕ) → l < legs_in t → IsTrue (keeps (pair_at a l))

-- each leg keeps one choice
pub record IsSole (t : Tables) (keeps : Domains) : Type 0 where
  pub each : (l : ℕ) → l < legs_in t → kept_on t keeps l ≡ 1

-- the leg keeps this choice and no other
pub record IsSoleOn (t : Tables) (keeps : Domains) (leg fleet : ℕ) : Type 0 where
  pub one : kept_on t keeps leg ≡ 1
  pub known : fleet < choices_in t leg
  pub kept : IsTrue (keeps (leg_on leg fleet))

-- the leg keeps no choice
pub record IsBare (t : Tables) (keeps : Domains) (leg : ℕ) : Type 0 where
  pub within : leg < legs_in t
  pub none : kept_on t keeps leg ≡ 0

-- the first leg that keeps no choice
pub record IsFirstBare (t : Tables) (keeps : Domains) (leg : ℕ) : Type 0 where
  pub bare : IsBare t keeps leg
  pub first : (l : ℕ) → l < leg → ¬ (IsBare t keeps l)

-- the pairs that rows keep: a row for each leg, and in it a place for each choice
abbrev pub kept_by : List (List Bool) → Domains
kept_by rows p = slice_index_or (slice_index_or rows p.leg []) p.choice false

-- the rows with one leg's as they were before a step
unfoldable pub put_back : List (List Bool) → Undo → List (List Bool)
put_back rows undo = slice_set rows undo.leg undo.row
