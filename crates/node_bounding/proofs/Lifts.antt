-- What the run over the lines of a subproblem, and the lift of its last table, say of the relaxation.
use Rattle.std.proofs.Common.{◌≡◌, ℕ, List, Option, Some, None, Result, Ok, Err, IfOk, MatchResult, inl, inr, refl, sym, subst}
use mathlib.Core.Bool.{false≢true}
use Rattle.entries.specs.declared.memory.NoMemory.{NoMemory}
use Rattle.frac_row.specs.declared.row.FracRow.{FracRow}
use Rattle.fleet_model.specs.Kept.{Domains}
use Rattle.fleet_model.specs.declared.tables.Tables.{Tables}
use Rattle.row_store.specs.Problem.{IsProblem, first_table}
use Rattle.row_store.specs.declared.problem.Rows.{Rows}
use Rattle.simplex_frac.specs.end_check.Ends.{IsPricedEnd, IsRefusedEnd}
use Rattle.simplex_frac.specs.declared.end_check.hint.Hint.{Hint}
use Rattle.simplex_frac.specs.declared.end_check.hint.Hint.TheVariants as hint
use Rattle.simplex_frac.specs.declared.end_check.hint.PointHint.{PointHint}
use Rattle.simplex_frac.specs.declared.end_check.hint.RefusalHint.{RefusalHint}
use Rattle.lp_rows.specs.Points.{AreLinesOf}
use Rattle.simplex_frac.specs.Finished.{IsFinished, IsStarted}
use Rattle.simplex_frac.specs.Outcomes.{TurnsAt}
use Rattle.simplex_frac.specs.declared.outcome.End.{End}
use Rattle.simplex_frac.specs.declared.outcome.End.TheVariants as end
use Rattle.simplex_frac.specs.Ends.{outcome_of}
use Rattle.simplex_frac.specs.declared.outcome.Outcome.{Outcome}
use Rattle.simplex_frac.specs.declared.outcome.Outcome.TheVariants as outcome
use Rattle.simplex_frac.specs.declared.turn.Turn.TheVariants as turns
use Rattle.price_lift.specs.Ends.{Ends}
use Rattle.price_lift.specs.Laws.{NoRays}
use Rattle.price_lift.specs.TooLarge.{best_excess, refusal_excess}
use Rattle.price_lift.specs.PaidBack.{IsFirstBy, IsLiftErrorBy}
use Rattle.simplex_frac.specs.declared.dual_lift.error.LiftError.{LiftError}
use Rattle.simplex_frac.specs.declared.dual_lift.error.LiftError.TheVariants as lift
use Rattle.node_bounding.specs.Relaxed.{IsLiftTold, IsRelaxed}
use Rattle.price_lift.proofs.Columns.{sides_at_least}
use Rattle.node_bounding.specs.Runs.{HasEnded, IsLiftRefused, IsOutcomeWithin, RunEnds}
use Rattle.node_bounding.specs.Tried.{EndsLines, IsEndIn, excess_from}
use Rattle.node_bounding.specs.declared.relaxing.Relaxed.{Relaxed}

-- how a run has ended, from the first table as a store holds it
pub has_ended : (t : Tables) (keeps : Domains) (pivots : Option ℕ) (rows : Rows) (first table : List FracRow) (found : Outcome) → AreLinesOf t keeps rows → IsProblem rows → first ≡ first_table rows → IsOutcomeWithin first rows.columns pivots table found
    → HasEnded t keeps pivots table found
has_ended t keeps pivots rows first table found lines problem is ends = record {
  rows = rows;
  problem = problem;
  run = record { lines = lines; ends = subst (λ f. IsOutcomeWithin f rows.columns pivots table found) is ends };
}

-- the first table of a subproblem's lines, whose right sides are at least 0
pub is_started : (t : Tables) (keeps : Domains) (rows : Rows) (first : List FracRow) → AreLinesOf t keeps rows → IsProblem rows → first ≡ first_table rows → IsStarted first rows.columns
is_started t keeps rows first lines problem is = (rows, record { problem = problem; is = is; columns_in = refl; right_sides = sides_at_least t keeps lines.starts rows lines.lines })

-- an end of a run without a budget is one of its outcomes
last_outcome : (first : List FracRow) (columns : ℕ) (table : List FracRow) (e : End) → IsFinished first columns table e → IsOutcomeWithin first columns None table (outcome_of e)
last_outcome first columns table (end.Best basis made) is = is
last_outcome first columns table (end.NoPoint basis made) is = is
last_outcome first columns table (end.Ray column) is = is
last_outcome first columns table (end.Grew made row column) is = is

pub finished_within : (first : List FracRow) (columns : ℕ) (pivots : Option ℕ) (table : List FracRow) (e : End) (found : Outcome) → pivots ≡ None → IsFinished first columns table e → found ≡ outcome_of e → IsOutcomeWithin first columns pivots table found
finished_within first columns pivots table e found without is of =
    subst (λ p. IsOutcomeWithin first columns p table found) (sym without) (subst (IsOutcomeWithin first columns None table) (sym of) (last_outcome first columns table e is))

-- after some pivots the run does this, with a budget or without
module _ (first : List FracRow) (columns : ℕ) (table : List FracRow) where
  turns_best : (pivots : Option ℕ) (basis : List ℕ) (made : ℕ) → IsOutcomeWithin first columns pivots table (outcome.Best basis made) → (k : ℕ) × TurnsAt first columns k table basis turns.Best
  turns_best (Some budget) basis made ends = (made, ends.1)
  turns_best None basis made ends = (ends.0, ends.2)

  turns_no_point : (pivots : Option ℕ) (basis : List ℕ) (made : ℕ) → IsOutcomeWithin first columns pivots table (outcome.NoPoint basis made) → (k : ℕ) × TurnsAt first columns k table basis turns.NoPoint
  turns_no_point (Some budget) basis made ends = (made, ends.1)
  turns_no_point None basis made ends = (ends.0, ends.2)

  turns_ray : (pivots : Option ℕ) (column : ℕ) → IsOutcomeWithin first columns pivots table (outcome.Ray column) → (k : ℕ) × (basis : List ℕ) × TurnsAt first columns k table basis (turns.Ray column)
  turns_ray (Some budget) column ends = (ends.0, ends.1, ends.3)
  turns_ray None column ends = (ends.0, ends.1, ends.2)

-- what is told of a lift by the last table of a run
pub told_relaxed : (t : Tables) (keeps : Domains) (pivots : Option ℕ) (lifted : Result Relaxed LiftError) (r : Result Relaxed NoMemory) → MatchResult lifted (IsRelaxed t keeps pivots) (IsLiftRefused t keeps pivots) → IsLiftTold lifted r → IfOk r (IsRelaxed t keeps pivots)
told_relaxed t keeps pivots (Ok found) r is told = subst (λ r. IfOk r (IsRelaxed t keeps pivots)) (sym told) is
told_relaxed t keeps pivots (Err (lift.TooLarge step at)) (Ok found) is told =
    subst (IsRelaxed t keeps pivots) (sym told.stopped) (record { stopped = is; in_order = (told.step_held, told.at_held) })
told_relaxed t keeps pivots (Err (lift.TooLarge step at)) (Err error) is told = tt
told_relaxed t keeps pivots (Err lift.NoMemory) (Ok found) is told = absurd (false≢true told)
told_relaxed t keeps pivots (Err lift.NoMemory) (Err error) is told = tt

-- what a run has ended in, and what becomes of it
module _ (t : Tables) (keeps : Domains) (pivots : Option ℕ) (table : List FracRow) (found : Outcome) (has : HasEnded t keeps pivots table found) where
  pub ends_at_best : (basis slice : List ℕ) (made : ℕ) → found ≡ outcome.Best basis made → slice ≡ basis → Ends t keeps turns.Best table slice
  ends_at_best basis slice made e same =
      let run = subst (RunEnds t keeps pivots has.rows table) e has.run in
      let at = turns_best (first_table has.rows) has.rows.columns table pivots basis made run.ends in
      subst (Ends t keeps turns.Best table) (sym same) (record { rows = has.rows; lines = run.lines; made = at.0; turn = record { problem = has.problem; turns = at.1 } })

  pub ends_at_no_point : (basis slice : List ℕ) (made : ℕ) → found ≡ outcome.NoPoint basis made → slice ≡ basis → Ends t keeps turns.NoPoint table slice
  ends_at_no_point basis slice made e same =
      let run = subst (RunEnds t keeps pivots has.rows table) e has.run in
      let at = turns_no_point (first_table has.rows) has.rows.columns table pivots basis made run.ends in
      subst (Ends t keeps turns.NoPoint table) (sym same) (record { rows = has.rows; lines = run.lines; made = at.0; turn = record { problem = has.problem; turns = at.1 } })

  -- no table of the run is a ray
  pub no_ray : (column : ℕ) → NoRays → found ≡ outcome.Ray column → ⊥
  no_ray column never e = by_ray (subst (RunEnds t keeps pivots has.rows table) e has.run)
    where
      by_ray : RunEnds t keeps pivots has.rows table (outcome.Ray column) → ⊥
      by_ray run =
          let at = turns_ray (first_table has.rows) has.rows.columns table pivots column run.ends in
          never t keeps table at.1 column (record { rows = has.rows; lines = run.lines; made = at.0; turn = record { problem = has.problem; turns = at.2 } })

  -- why its lift is refused
  pub best_refused : (basis slice : List ℕ) (made : ℕ) (e : LiftError) → found ≡ outcome.Best basis made → slice ≡ basis → IsLiftErrorBy t keeps (best_excess t keeps table slice) e → IsLiftRefused t keeps pivots e
  best_refused basis slice made (lift.TooLarge step at) e same is =
      inl (record { rows = has.rows; table = table; basis = basis; made = made; run = subst (RunEnds t keeps pivots has.rows table) e has.run; first = subst (λ b. IsFirstBy t keeps (best_excess t keeps table b) (record { step = step; at = at })) same is })
  best_refused basis slice made lift.NoMemory e same is = tt

  pub no_point_refused : (basis : List ℕ) (made : ℕ) (e : LiftError) → found ≡ outcome.NoPoint basis made → IsLiftErrorBy t keeps (refusal_excess t keeps table) e → IsLiftRefused t keeps pivots e
  no_point_refused basis made (lift.TooLarge step at) e is =
      inr (record { rows = has.rows; table = table; basis = basis; made = made; run = subst (RunEnds t keeps pivots has.rows table) e has.run; first = is })
  no_point_refused basis made lift.NoMemory e is = tt

-- ---- an end that was found, by its kind
module _ (t : Tables) (keeps : Domains) (found : Hint) where
  pub of_point : (point : PointHint) → EndsLines t keeps found → found ≡ hint.Point point → (rows : Rows) × AreLinesOf t keeps rows × IsPricedEnd rows point
  of_point point ends is = (ends.rows, ends.lines, subst (IsEndIn ends.rows) is ends.ends)

  pub of_refusal : (refusal : RefusalHint) → EndsLines t keeps found → found ≡ hint.Refusal refusal → (rows : Rows) × AreLinesOf t keeps rows × IsRefusedEnd rows refusal
  of_refusal refusal ends is = (ends.rows, ends.lines, subst (IsEndIn ends.rows) is ends.ends)

  pub excess_of : (kind : Hint) (e : LiftError) → found ≡ kind → IsLiftErrorBy t keeps (excess_from t keeps kind) e → IsLiftErrorBy t keeps (excess_from t keeps found) e
  excess_of kind e is told = subst (λ h. IsLiftErrorBy t keeps (excess_from t keeps h) e) (sym is) told
