-- The outcome at a turn at which the run goes no further, and what comes of a pivot that is refused.
use Rattle.std.specs.Prelude.{◌≡◌, ℕ, List, Result, Ok, IsErr}
use Rattle.entries.specs.declared.memory.NoMemory.{NoMemory}
use Rattle.row_store.specs.declared.error.PivotError.{PivotError}
use Rattle.row_store.specs.declared.error.PivotError.TheVariants as refusals
use Rattle.simplex_frac.specs.declared.turn.Turn.{Turn}
use Rattle.simplex_frac.specs.declared.turn.Turn.TheVariants as turns
use Rattle.simplex_frac.specs.declared.outcome.Outcome.{Outcome}
use Rattle.simplex_frac.specs.declared.outcome.Outcome.TheVariants as outcomes
use Rattle.simplex_frac.specs.declared.outcome.End.{End}
use Rattle.simplex_frac.specs.declared.outcome.End.TheVariants as ends

abbrev pub end_of : Turn → List ℕ → ℕ → Outcome
end_of turns.Best basis made = outcomes.Best basis made
end_of turns.NoPoint basis made = outcomes.NoPoint basis made
end_of (turns.Ray column) basis made = outcomes.Ray column
end_of (turns.Pivot row column) basis made = outcomes.Spent made

-- of a pivot that is refused after so many: the run has grown where the pivot is outgrown, and wants memory where the
-- pivot did
abbrev pub IsRefused : PivotError → ℕ → Result Outcome NoMemory → Type 0
IsRefused (refusals.Grew row column) made result = result ≡ Ok (outcomes.Grew made row column)
IsRefused refusals.NoMemory made result = IsErr result

-- an end of a run without a budget, as an outcome
abbrev pub outcome_of : End → Outcome
outcome_of (ends.Best basis made) = outcomes.Best basis made
outcome_of (ends.NoPoint basis made) = outcomes.NoPoint basis made
outcome_of (ends.Ray column) = outcomes.Ray column
outcome_of (ends.Grew pivots row column) = outcomes.Grew pivots row column
