-- Laws of the run.
use Rattle.std.specs.Prelude.{ℕ, ℤ, ◌*ℤ◌, ◌-◌, ◌<◌, ◌≡◌, ◌↔◌, List, length, Some}
use Rattle.frac_row.specs.declared.row.FracRow.{FracRow}
use Rattle.row_store.specs.Table.{row_at, columns_of, HasColumns, IsTable}
use Rattle.row_store.specs.Points.{surplus, MeetsLines}
use Rattle.simplex_frac.specs.Tableaux.{Tableau}
use Rattle.simplex_frac.specs.StepLaws.{KeepsShape}
use Rattle.simplex_frac.specs.Run.{stage}
use Rattle.simplex_frac.specs.Outcomes.{IsOutcome}
use Rattle.simplex_frac.specs.declared.outcome.Outcome.{Outcome}

-- a point meets the lines after so many pivots exactly where it meets those of the first table
abbrev pub RunKeepsPoints : Type 0
RunKeepsPoints =
    (first : List FracRow) (columns pivots : ℕ) (now : Tableau) (point : ℕ → ℤ) (scale : ℤ) → IsTable first → HasColumns first columns → stage first columns pivots ≡ Some now → MeetsLines now.table point scale ↔ MeetsLines first point scale

-- .. and there the surplus of each row over its denominator is that of the first table
abbrev pub RunKeepsSurplus : Type 0
RunKeepsSurplus =
    (first : List FracRow) (columns pivots : ℕ) (now : Tableau) (point : ℕ → ℤ) (scale : ℤ) (row : ℕ) → IsTable first → HasColumns first columns → stage first columns pivots ≡ Some now → MeetsLines first point scale → row < length first → (surplus (row_at now.table row) (columns_of first - 1) point scale *ℤ (row_at first row).den) ≡ (surplus (row_at first row) (columns_of first - 1) point scale *ℤ (row_at now.table row).den)

-- each stage is a table of the first one's shape, with a basic column for each line
abbrev pub RunKeepsShape : Type 0
RunKeepsShape =
    (first : List FracRow) (columns pivots : ℕ) (now : Tableau) → IsTable first → HasColumns first columns → stage first columns pivots ≡ Some now → KeepsShape first columns now

-- a run within a budget has one outcome, so each outcome comes exactly where its cause holds
abbrev pub HasOneOutcome : Type 0
HasOneOutcome =
    (first : List FracRow) (columns budget : ℕ) (table other_table : List FracRow) (outcome other : Outcome) → IsOutcome first columns budget table outcome → IsOutcome first columns budget other_table other → (outcome ≡ other) × (table ≡ other_table)
