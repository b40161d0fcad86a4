-- What is read from a matching of the legs.
use Rattle.std.specs.Prelude.{◌≡◌, ℕ, ◌-◌, ◌==◌, nat_lt, Bool, if◌then◌else◌, List, length, slice_index, ℤ, pos, ◌-ℤ◌}
use Rattle.plan_rotations.specs.best_matching.Worths.{AreDuals, AreTight, IsOneToOne, worth_at}
use Rattle.plan_rotations.specs.declared.best_matching.matching.Matching.{Matching}
use Rattle.fleet_model.specs.Counts.{choice_at}
use Rattle.plan_rotations.specs.declared.through_flights.worths.TheConstants.{CLEAN_WORTH}

-- a one-to-one map of the rows that is worth most, as its dual numbers show
pub record IsBestMatching (worths : List (List ℕ)) (m : Matching) : Type 0 where
  pub rows : length m.columns ≡ length worths
  pub row_duals : length m.row_duals ≡ length worths
  pub column_duals : length m.column_duals ≡ length worths
  pub one_to_one : IsOneToOne (slice_index m.columns) (length worths)
  pub reach : AreDuals worths (slice_index m.row_duals) (slice_index m.column_duals)
  pub meet : AreTight worths (slice_index m.row_duals) (slice_index m.column_duals) (slice_index m.columns) (length worths)

-- a leg goes on in a through pair of some value
abbrev pub is_chosen : List (List ℕ) → List ℕ → ℕ → Bool
is_chosen worths columns leg = nat_lt CLEAN_WORTH (worth_at worths leg (slice_index columns leg))

-- the value of the pair in which a leg goes on
abbrev pub chosen_value : List (List ℕ) → List ℕ → ℕ → ℕ
chosen_value worths columns leg = worth_at worths leg (slice_index columns leg) - CLEAN_WORTH

-- the dual of a leg less a number, and 0 of a leg of another fleet
abbrev pub own_number : List ℕ → ℕ → List ℕ → ℕ → ℕ → ℤ
own_number a f duals less leg = if choice_at a leg == f then pos (slice_index duals leg) -ℤ pos less else pos 0
