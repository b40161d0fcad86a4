-- What is known of the table and the basis with which a run ends at a cheapest point.
use Rattle.std.proofs.Common.{◌≡◌, ℕ, List, length, sym, ◌∙◌, subst, arith}
use Rattle.frac_row.specs.declared.row.FracRow.{FracRow}
use Rattle.row_store.specs.Problem.{IsProblem, first_table}
use Rattle.row_store.specs.Table.{height_of}
use Rattle.row_store.specs.declared.problem.Rows.{Rows}
use Rattle.simplex_frac.specs.LastTables.{IsTurn}
use Rattle.simplex_frac.specs.Outcomes.{IsOutcome}
use Rattle.simplex_frac.specs.declared.outcome.Outcome.{Outcome}
use Rattle.simplex_frac.specs.declared.outcome.Outcome.TheVariants as outcome
use Rattle.simplex_frac.specs.declared.turn.Turn.TheVariants as turns
use Rattle.simplex_frac.proofs.BestPoints.{best_tells}
use Rattle.simplex_frac.proofs.RunPoints.{run_is_reached}
use Rattle.simplex_frac.specs.dual_lift.LastTables.{IsReachedTable}
use Rattle.simplex_frac.specs.dual_lift.Mixture.{HasPhases}
use Rattle.simplex_frac.proofs.dual_lift.EndDuals.{best_has_phases}
use Rattle.simplex_frac.proofs.dual_lift.Reached.{known}

module _ (rows : Rows) (first table : List FracRow) (budget : ℕ) (found : Outcome) (problem : IsProblem rows) (is : first ≡ first_table rows) (ends : IsOutcome first rows.columns budget table found) where
  best_turn : (basis : List ℕ) (made : ℕ) → found ≡ outcome.Best basis made → IsTurn rows made table basis turns.Best
  best_turn basis made best =
      let there : IsOutcome first rows.columns budget table (outcome.Best basis made) = subst (IsOutcome first rows.columns budget table) best ends in
      record { problem = problem; turns = (subst (λ f. IsOutcome f rows.columns budget table (outcome.Best basis made)) is there).1 }

  reached : (basis : List ℕ) (made : ℕ) → found ≡ outcome.Best basis made → IsReachedTable rows table basis
  reached basis made best =
      let turn = best_turn basis made best in
      known rows table basis (run_is_reached rows made table basis (record { problem = problem; reaches = turn.turns.reaches }))

  pub has_phases : (basis : List ℕ) (made : ℕ) → found ≡ outcome.Best basis made → HasPhases table
  has_phases basis made best = best_has_phases rows table basis (reached basis made best) (best_tells rows made table basis (best_turn basis made best))

  pub basis_in : (basis seen : List ℕ) (made : ℕ) → found ≡ outcome.Best basis made → seen ≡ basis → length seen ≡ height_of table
  basis_in basis seen made best same =
      let shape = (reached basis made best).shape in
      subst (λ b. length b ≡ height_of table) (sym same) (omega (arith, shape.basis_in, shape.rows_in))
