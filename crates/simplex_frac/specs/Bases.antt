-- No basis comes twice in a run from right sides of at least 0, so it has no more tables than there are bases.
use Rattle.std.specs.Prelude.{ℕ, ◌+◌, ◌<◌, ◌≡◌, ◌↔◌, ⊤, List, length, Contains}
use Rattle.sums.specs.Ways.{ways_to_choose}
use Rattle.frac_row.specs.declared.row.FracRow.{FracRow}
use Rattle.row_store.specs.declared.problem.Rows.{Rows}
use Rattle.row_store.specs.Problem.{IsProblem, first_table}
use Rattle.simplex_frac.specs.Duality.{IsReached, AreRightSidesAtLeast0}
use Rattle.simplex_frac.specs.declared.outcome.Outcome.{Outcome}
use Rattle.simplex_frac.specs.declared.outcome.Outcome.TheVariants.{Best, NoPoint, Ray, Spent, Grew}

-- the same columns, in whatever order
abbrev pub HaveSameColumns : List ℕ → List ℕ → Type 0
HaveSameColumns one other = (column : ℕ) → Contains one column ↔ Contains other column

-- the bases of two tables of one run differ
abbrev pub NoBasisTwice : Type 0
NoBasisTwice =
    (rows : Rows) (early late : ℕ) (table later_table : List FracRow) (basis later_basis : List ℕ) → early < late → IsReached rows early table basis → IsReached rows late later_table later_basis → AreRightSidesAtLeast0 rows → ¬ HaveSameColumns basis later_basis

-- how many bases there are: a column for each line, of the real ones and the identity block
abbrev pub bases_of : ℕ → ℕ → ℕ
bases_of columns lines = ways_to_choose (columns + lines) lines

-- so there are more bases than pivots
abbrev pub PivotsAreFew : Type 0
PivotsAreFew = (rows : Rows) (made : ℕ) (table : List FracRow) (basis : List ℕ) → IsReached rows made table basis → AreRightSidesAtLeast0 rows → made < bases_of rows.columns (length rows.lines)

-- lines of right sides of at least 0 that a first table is made of
pub record IsStartedBy (rows : Rows) (first : List FracRow) (columns : ℕ) : Type 0 where
  pub problem : IsProblem rows
  pub is : first ≡ first_table rows
  pub columns_in : rows.columns ≡ columns
  pub right_sides : AreRightSidesAtLeast0 rows

-- a budget is spent only where there are more bases than pivots
abbrev pub IsSpentEarly : List FracRow → ℕ → Outcome → Type 0
IsSpentEarly first columns (Spent pivots) = (rows : Rows) → IsStartedBy rows first columns → pivots < bases_of columns (length rows.lines)
IsSpentEarly first columns (Best basis made) = ⊤
IsSpentEarly first columns (NoPoint basis made) = ⊤
IsSpentEarly first columns (Ray column) = ⊤
IsSpentEarly first columns (Grew pivots row column) = ⊤
