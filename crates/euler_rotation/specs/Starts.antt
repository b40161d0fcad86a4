-- The place at which a tour is to begin.
use Rattle.std.specs.Prelude.{ℕ, ◌<◌, ◌≤◌, Option, Some, None, List, slice_index}
use Rattle.fleet_model.specs.declared.tables.Tables.{Tables}
use Rattle.euler_rotation.specs.Tours.{periods_before}

-- of the first places of a tour, that of the least leg that has a period's start before it
pub record IsLeastPlace (t : Tables) (f : ℕ) (tour : List ℕ) (n place : ℕ) : Type 0 where
  pub within : place < n
  pub start : 0 < periods_before t f tour place
  pub least : (k : ℕ) → k < n → 0 < periods_before t f tour k → slice_index tour place ≤ slice_index tour k

abbrev pub LeastOrNone : Tables → ℕ → List ℕ → ℕ → Option ℕ → Type 0
LeastOrNone t f tour n None = (k : ℕ) → k < n → 0 < periods_before t f tour k → ⊥
LeastOrNone t f tour n (Some place) = IsLeastPlace t f tour n place
