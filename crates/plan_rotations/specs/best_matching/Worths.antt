-- What rows are worth at columns, one-to-one maps, and the dual numbers that bound them.
use Rattle.std.specs.Prelude.{ℕ, ◌+◌, ◌<◌, ◌≤◌, ◌≡◌, List, [], length, slice_index, slice_index_or}
use Rattle.sums.specs.Below.{sum_below}
use Rattle.plan_rotations.specs.declared.best_matching.matching.TheConstants.{MAX_WORTH}

-- what a row is worth at a column
abbrev pub worth_at : List (List ℕ) → ℕ → ℕ → ℕ
worth_at worths row column = slice_index (slice_index_or worths row []) column

-- as many columns as rows, and no worth above the greatest
pub record AreWorths (worths : List (List ℕ)) : Type 0 where
  pub square : (row : ℕ) → row < length worths → length (slice_index_or worths row []) ≡ length worths
  pub small : (row column : ℕ) → row < length worths → column < length worths → worth_at worths row column ≤ MAX_WORTH

-- a map of the numbers below a size to themselves that gives no number twice
pub record IsOneToOne (map : ℕ → ℕ) (size : ℕ) : Type 0 where
  pub within : (k : ℕ) → k < size → map k < size
  pub distinct : (j k : ℕ) → j < size → k < size → map j ≡ map k → j ≡ k

-- what a map of rows to columns is worth in sum
abbrev pub map_worth : List (List ℕ) → (ℕ → ℕ) → ℕ
map_worth worths map = sum_below (λ row. worth_at worths row (map row)) (length worths)

-- numbers of the rows and columns that reach the worth at each place
pub record AreDuals (worths : List (List ℕ)) (rows columns : ℕ → ℕ) : Type 0 where
  pub reach : (row column : ℕ) → row < length worths → column < length worths → worth_at worths row column ≤ rows row + columns column

-- the first rows stand where they meet it exactly
pub record AreTight (worths : List (List ℕ)) (rows columns map : ℕ → ℕ) (matched : ℕ) : Type 0 where
  pub meet : (row : ℕ) → row < matched → rows row + columns (map row) ≡ worth_at worths row (map row)

-- where dual numbers meet the worths that a one-to-one map has, they sum to its worth
abbrev pub DualsSumToWorth : Type 0
DualsSumToWorth = (worths : List (List ℕ)) (rows columns map : ℕ → ℕ) → IsOneToOne map (length worths) → AreTight worths rows columns map (length worths)
    → sum_below rows (length worths) + sum_below columns (length worths) ≡ map_worth worths map

-- no one-to-one map is worth more than dual numbers sum to
abbrev pub DualsBound : Type 0
DualsBound = (worths : List (List ℕ)) (rows columns map : ℕ → ℕ) → IsOneToOne map (length worths) → AreDuals worths rows columns
    → map_worth worths map ≤ sum_below rows (length worths) + sum_below columns (length worths)

-- so one at which they are met is one of greatest worth
abbrev pub NoneIsWorthMore : Type 0
NoneIsWorthMore = (worths : List (List ℕ)) (rows columns map other : ℕ → ℕ) → IsOneToOne map (length worths) → IsOneToOne other (length worths)
    → AreDuals worths rows columns → AreTight worths rows columns map (length worths) → map_worth worths other ≤ map_worth worths map
