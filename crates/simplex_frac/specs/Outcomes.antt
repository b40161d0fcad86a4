-- The outcomes of a run within a budget of pivots.
use Rattle.std.specs.Prelude.{ℕ, ◌<◌, ◌≤◌, ◌≡◌, ◌⊎◌, List, Some, None}
use Rattle.frac_row.specs.declared.row.FracRow.{FracRow}
use Rattle.row_store.specs.Pivot.{pivot_growth}
use Rattle.simplex_frac.specs.Run.{turn, stage}
use Rattle.simplex_frac.specs.declared.turn.Turn.{Turn}
use Rattle.simplex_frac.specs.declared.turn.Turn.TheVariants as turns
use Rattle.simplex_frac.specs.declared.outcome.Outcome.{Outcome}
use Rattle.simplex_frac.specs.declared.outcome.Outcome.TheVariants.{Best, NoPoint, Ray, Spent, Grew}

-- after so many pivots the run has this table and this basis
pub record Reaches (first : List FracRow) (columns pivots : ℕ) (table : List FracRow) (basis : List ℕ) : Type 0 where
  pub reached : stage first columns pivots ≡ Some (record { table = table; basis = basis })

-- .. and this is what it does there
pub record TurnsAt (first : List FracRow) (columns pivots : ℕ) (table : List FracRow) (basis : List ℕ) (does : Turn) : Type 0 where
  pub reaches : Reaches first columns pivots table basis
  pub turns : turn (record { table = table; basis = basis }) columns ≡ does

-- .. and the pivot is outgrown, first at this place
pub record IsOutgrownAt (first : List FracRow) (columns pivots : ℕ) (table : List FracRow) (basis : List ℕ) (row column place_row place_column : ℕ) : Type 0 where
  pub turns : TurnsAt first columns pivots table basis (turns.Pivot row column)
  pub growth : pivot_growth table row column ≡ Some (record { row = place_row; column = place_column })

-- each outcome by its cause, for the first table, the budget and the table that the run has reached
abbrev pub IsOutcome : List FracRow → ℕ → ℕ → List FracRow → Outcome → Type 0
IsOutcome first columns budget table (Best basis made) = (made ≤ budget) × TurnsAt first columns made table basis turns.Best
IsOutcome first columns budget table (NoPoint basis made) = (made ≤ budget) × TurnsAt first columns made table basis turns.NoPoint
IsOutcome first columns budget table (Ray column) =
    (made : ℕ) × (basis : List ℕ) × (made ≤ budget) × TurnsAt first columns made table basis (turns.Ray column)
IsOutcome first columns budget table (Spent pivots) =
    (basis : List ℕ) × (row : ℕ) × (column : ℕ) × (pivots ≡ budget) × TurnsAt first columns pivots table basis (turns.Pivot row column)
IsOutcome first columns budget table (Grew pivots place_row place_column) =
    (basis : List ℕ) × (row : ℕ) × (column : ℕ) × (pivots < budget) × IsOutgrownAt first columns pivots table basis row column place_row place_column

-- within the budget the run has reached a table at which it pivots, and that pivot is not outgrown
pub record IsAtPivot (first : List FracRow) (columns budget : ℕ) (table : List FracRow) : Type 0 where
  pub made : ℕ
  pub basis : List ℕ
  pub row : ℕ
  pub column : ℕ
  pub within : made < budget
  pub turns : TurnsAt first columns made table basis (turns.Pivot row column)
  pub fits : pivot_growth table row column ≡ None

-- where memory may be wanting: at the first table, before the run, and at a pivot that is not outgrown
abbrev pub MayWantMemory : List FracRow → ℕ → ℕ → List FracRow → Type 0
MayWantMemory first columns budget table = (table ≡ first) ⊎ IsAtPivot first columns budget table
