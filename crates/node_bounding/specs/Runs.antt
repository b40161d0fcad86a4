-- What the proved run over the lines of a subproblem comes to.
use Rattle.std.specs.Prelude.{ℕ, ◌⊎◌, List, Option, Some, None, ⊤}
use Rattle.fleet_model.specs.Kept.{Domains, IsBare, IsSole}
use Rattle.fleet_model.specs.declared.tables.Tables.{Tables}
use Rattle.frac_row.specs.declared.row.FracRow.{FracRow}
use Rattle.row_store.specs.Problem.{IsProblem, first_table}
use Rattle.row_store.specs.declared.problem.Rows.{Rows}
use Rattle.lp_rows.specs.Points.{AreLinesOf}
use Rattle.simplex_frac.specs.Finished.{IsFinished}
use Rattle.simplex_frac.specs.Outcomes.{IsOutcome}
use Rattle.simplex_frac.specs.declared.outcome.End.TheVariants as end
use Rattle.simplex_frac.specs.declared.outcome.Outcome.{Outcome}
use Rattle.simplex_frac.specs.declared.outcome.Outcome.TheVariants as outcome
use Rattle.price_lift.specs.PaidBack.{IsFirstBy}
use Rattle.price_lift.specs.TooLarge.{best_excess, refusal_excess}
use Rattle.simplex_frac.specs.declared.dual_lift.error.Excess.{Excess}
use Rattle.simplex_frac.specs.declared.dual_lift.error.LiftError.{LiftError}
use Rattle.simplex_frac.specs.declared.dual_lift.error.LiftError.TheVariants as lift

-- a subproblem that is searched: each leg keeps a pair, and some leg two or more
pub record IsSearched (t : Tables) (keeps : Domains) : Type 0 where
  pub some_pair : (leg : ℕ) → ¬ (IsBare t keeps leg)
  pub some_choice : ¬ (IsSole t keeps)

-- each end of a run without a budget, which spends nothing
abbrev pub IsLastOutcome : List FracRow → ℕ → List FracRow → Outcome → Type 0
IsLastOutcome first columns table (outcome.Best basis made) = IsFinished first columns table (end.Best basis made)
IsLastOutcome first columns table (outcome.NoPoint basis made) = IsFinished first columns table (end.NoPoint basis made)
IsLastOutcome first columns table (outcome.Ray column) = IsFinished first columns table (end.Ray column)
IsLastOutcome first columns table (outcome.Spent made) = ⊥
IsLastOutcome first columns table (outcome.Grew made row column) = IsFinished first columns table (end.Grew made row column)

-- each end of a run with so many pivots allowed, or with no budget
abbrev pub IsOutcomeWithin : List FracRow → ℕ → Option ℕ → List FracRow → Outcome → Type 0
IsOutcomeWithin first columns (Some budget) table outcome = IsOutcome first columns budget table outcome
IsOutcomeWithin first columns None table outcome = IsLastOutcome first columns table outcome

-- the run over the lines of a subproblem, with so many pivots allowed or with no budget, ends so at this table
pub record RunEnds (t : Tables) (keeps : Domains) (pivots : Option ℕ) (rows : Rows) (table : List FracRow) (outcome : Outcome) : Type 0 where
  pub lines : AreLinesOf t keeps rows
  pub ends : IsOutcomeWithin (first_table rows) rows.columns pivots table outcome

-- so it ends, over some lines of the subproblem
pub record HasEnded (t : Tables) (keeps : Domains) (pivots : Option ℕ) (table : List FracRow) (outcome : Outcome) : Type 0 where
  pub rows : Rows
  pub problem : IsProblem rows
  pub run : RunEnds t keeps pivots rows table outcome

-- the run of the subproblem spends all its pivots
pub record SpendsPivots (t : Tables) (keeps : Domains) (pivots : Option ℕ) (made : ℕ) : Type 0 where
  pub rows : Rows
  pub table : List FracRow
  pub run : RunEnds t keeps pivots rows table (outcome.Spent made)

-- a number of the run's next pivot is outgrown, first at this place
pub record OutgrowsRun (t : Tables) (keeps : Domains) (pivots : Option ℕ) (made row column : ℕ) : Type 0 where
  pub rows : Rows
  pub table : List FracRow
  pub run : RunEnds t keeps pivots rows table (outcome.Grew made row column)

-- the run ends at a cheapest point, and on the way from its table to prices and weights a number is too large
pub record IsTooLargeAtBest (t : Tables) (keeps : Domains) (pivots : Option ℕ) (excess : Excess) : Type 0 where
  pub rows : Rows
  pub table : List FracRow
  pub basis : List ℕ
  pub made : ℕ
  pub run : RunEnds t keeps pivots rows table (outcome.Best basis made)
  pub first : IsFirstBy t keeps (best_excess t keeps table basis) excess

-- the run ends where no point meets the lines, and on the way from its table to prices a number is too large
pub record IsTooLargeAtNoPoint (t : Tables) (keeps : Domains) (pivots : Option ℕ) (excess : Excess) : Type 0 where
  pub rows : Rows
  pub table : List FracRow
  pub basis : List ℕ
  pub made : ℕ
  pub run : RunEnds t keeps pivots rows table (outcome.NoPoint basis made)
  pub first : IsFirstBy t keeps (refusal_excess t keeps table) excess

-- a number is too large on the way from the run's last table, first in this step and there at this place
abbrev pub IsTooLarge : Tables → Domains → Option ℕ → ℕ → ℕ → Type 0
IsTooLarge t keeps pivots step at = IsTooLargeAtBest t keeps pivots (record { step = step; at = at }) ⊎ IsTooLargeAtNoPoint t keeps pivots (record { step = step; at = at })

-- why a lift of it is refused; want of memory is free
abbrev pub IsLiftRefused : Tables → Domains → Option ℕ → LiftError → Type 0
IsLiftRefused t keeps pivots (lift.TooLarge step at) = IsTooLarge t keeps pivots step at
IsLiftRefused t keeps pivots lift.NoMemory = ⊤
