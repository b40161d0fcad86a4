-- The ends of a run without a budget.
use Rattle.std.specs.Prelude.{ℕ, ◌-◌, ◌^◌, ◌≡◌, min, List, Result, Ok, IsErr}
use Rattle.entries.specs.declared.memory.NoMemory.{NoMemory}
use Rattle.frac_row.specs.declared.row.FracRow.{FracRow}
use Rattle.row_store.specs.declared.error.PivotError.{PivotError}
use Rattle.row_store.specs.declared.error.PivotError.TheVariants as refusals
use Rattle.row_store.specs.declared.problem.Rows.{Rows}
use Rattle.simplex_frac.specs.Bases.{IsStartedBy}
use Rattle.simplex_frac.specs.Outcomes.{TurnsAt, IsOutgrownAt, MayWantMemory}
use Rattle.simplex_frac.specs.declared.turn.Turn.TheVariants as turns
use Rattle.simplex_frac.specs.declared.outcome.End.{End}
use Rattle.simplex_frac.specs.declared.outcome.End.TheVariants.{Best, NoPoint, Ray, Grew}

-- the first table of some lines of right sides of at least 0
abbrev pub IsStarted : List FracRow → ℕ → Type 0
IsStarted first columns = (rows : Rows) × IsStartedBy rows first columns

-- pivots as they are counted, up to the greatest count
abbrev pub counted : ℕ → ℕ
counted pivots = min pivots (2 ^ 64 - 1)

-- each end by its cause, after so many pivots, at the table that the run has reached
abbrev pub IsFinished : List FracRow → ℕ → List FracRow → End → Type 0
IsFinished first columns table (Best basis made) =
    (pivots : ℕ) × (made ≡ counted pivots) × TurnsAt first columns pivots table basis turns.Best
IsFinished first columns table (NoPoint basis made) =
    (pivots : ℕ) × (made ≡ counted pivots) × TurnsAt first columns pivots table basis turns.NoPoint
IsFinished first columns table (Ray column) =
    (pivots : ℕ) × (basis : List ℕ) × TurnsAt first columns pivots table basis (turns.Ray column)
IsFinished first columns table (Grew made place_row place_column) =
    (pivots : ℕ) × (basis : List ℕ) × (row : ℕ) × (column : ℕ) × (made ≡ counted pivots) × IsOutgrownAt first columns pivots table basis row column place_row place_column

-- of a pivot that is refused after so many
abbrev pub IsCutOff : PivotError → ℕ → Result End NoMemory → Type 0
IsCutOff (refusals.Grew row column) made result = result ≡ Ok (Grew made row column)
IsCutOff refusals.NoMemory made result = IsErr result

-- where memory may be wanting: at the first table, before the run, and at a pivot that is not outgrown
abbrev pub WantsMemory : List FracRow → ℕ → List FracRow → Type 0
WantsMemory first columns table = (budget : ℕ) × MayWantMemory first columns budget table

-- a run without a budget has one end, so each end comes exactly where its cause holds
abbrev pub HasOneEnd : Type 0
HasOneEnd = (first : List FracRow) (columns : ℕ) (table other_table : List FracRow) (end other : End) → IsFinished first columns table end → IsFinished first columns other_table other → (end ≡ other) × (table ≡ other_table)
