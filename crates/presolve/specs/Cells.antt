-- Numbers for each fleet at each place, which is a station or a minute, in one list by fleet, then place.
use Rattle.std.specs.Prelude.{◌≡◌, ℕ, ◌+◌, ◌*◌, ◌<◌, List, length, slice_index}
use Rattle.presolve.specs.declared.cells.TheConstants.{CELL_WIDTH}

-- the number of a fleet at a place
abbrev pub cell_of : List ℕ → ℕ → ℕ → ℕ
cell_of cells f k = slice_index cells (f * CELL_WIDTH + k)

-- they are these numbers, of so many fleets at so many places
pub record AreCells (cells : List ℕ) (value : ℕ → ℕ → ℕ) (fleets places : ℕ) : Type 0 where
  pub width : length cells ≡ fleets * CELL_WIDTH
  pub each : (f k : ℕ) → f < fleets → k < places → cell_of cells f k ≡ value f k

-- each is more than it was by such a number, of so many fleets at so many places
pub record AreMore (more : ℕ → ℕ → ℕ) (fleets places : ℕ) (old new : List ℕ) : Type 0 where
  pub width : length new ≡ length old
  pub each : (f k : ℕ) → f < fleets → k < places → cell_of new f k ≡ cell_of old f k + more f k
