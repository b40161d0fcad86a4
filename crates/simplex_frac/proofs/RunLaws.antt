-- Proofs of the laws of the run.
use Rattle.std.proofs.Common.{◌≡◌, ℕ, zero, suc, List, [], ◌∷◌, set, Option, Some, None, refl, sym, ◌∙◌, ap, subst}
use Rattle.std.specs.Prelude.{option_and_then}
use Rattle.sums.proofs.Tests.{none_some, some_is}
use Rattle.sums.proofs.Sizes.{above_is_other}
use Rattle.frac_row.specs.declared.row.FracRow.{FracRow}
use Rattle.row_store.specs.declared.error.Place.{Place}
use Rattle.row_store.specs.Table.{number_at}
use Rattle.row_store.specs.Pivot.{pivoted, pivot_growth}
use Rattle.row_store.proofs.Turns.{stepped-same, step_growth-same}
use Rattle.simplex_frac.specs.Tableaux.{Tableau, after_step, IsReachedFrom, IsStep as IsMade}
use Rattle.simplex_frac.proofs.StepLaws.{steps_keep_shape, steps_keep_points, steps_keep_surplus}
use Rattle.simplex_frac.specs.Run.{turn, after_turn, unless_outgrown, next_tableau, stage}
use Rattle.simplex_frac.specs.Laws.{RunKeepsPoints, RunKeepsSurplus, RunKeepsShape}
use Rattle.simplex_frac.specs.declared.turn.Turn.{Turn}
use Rattle.simplex_frac.specs.declared.turn.Turn.TheVariants.{Best, NoPoint, Ray, Pivot}
use Rattle.simplex_frac.proofs.Turns.{IsPivotPlace, pivot_place}

-- how one stage comes from the one before
pub record IsStep (first : List FracRow) (columns pivots : ℕ) (now : Tableau) : Type 0 where
  pub before : Tableau
  pub row : ℕ
  pub column : ℕ
  pub reached : stage first columns pivots ≡ Some before
  pub turns : turn before columns ≡ Pivot row column
  pub fits : pivot_growth before.table row column ≡ None
  pub is : now ≡ record { table = pivoted before.table row column; basis = set before.basis row column }

pub stage_step : (first : List FracRow) (columns pivots : ℕ) (now : Tableau) → stage first columns (suc pivots) ≡ Some now → IsStep first columns pivots now
stage_step first columns pivots now e = from_before (stage first columns pivots) refl e
  where
    by_growth : (before : Tableau) (row column : ℕ) (o : Option Place) → pivot_growth before.table row column ≡ o → stage first columns pivots ≡ Some before → turn before columns ≡ Pivot row column → unless_outgrown before row column o ≡ Some now → IsStep first columns pivots now
    by_growth before row column None g s t e = record { before = before; row = row; column = column; reached = s; turns = t; fits = g; is = cc }
    by_growth before row column (Some place) g s t e = absurd (none_some e)

    by_turn : (before : Tableau) (does : Turn) → turn before columns ≡ does → stage first columns pivots ≡ Some before → after_turn before does ≡ Some now → IsStep first columns pivots now
    by_turn before Best t s e = absurd (none_some e)
    by_turn before NoPoint t s e = absurd (none_some e)
    by_turn before (Ray column) t s e = absurd (none_some e)
    by_turn before (Pivot row column) t s e = by_growth before row column (pivot_growth before.table row column) refl s t e

    from_before : (o : Option Tableau) → stage first columns pivots ≡ o → option_and_then (next_tableau columns) o ≡ Some now → IsStep first columns pivots now
    from_before None s e = absurd (none_some e)
    from_before (Some before) s e = by_turn before (turn before columns) refl s e

-- ---- the run's tables are reached by steps
step_of : (first : List FracRow) (columns pivots : ℕ) (now : Tableau) (s : IsStep first columns pivots now) → IsMade s.before.table columns s.row s.column
step_of first columns pivots now s =
    let place : IsPivotPlace s.before columns s.row s.column = pivot_place s.before columns s.row s.column s.turns in
    record {
      line = place.line;
      real = place.real;
      number = λ e. above_is_other (number_at s.before.table s.row s.column) place.positive e;
      fits = sym (step_growth-same s.before.table s.row s.column place.positive) ∙ s.fits;
    }

after_is : (first : List FracRow) (columns pivots : ℕ) (now : Tableau) (s : IsStep first columns pivots now) → after_step s.before (record { row = s.row; column = s.column }) ≡ now
unfolding after_step
after_is first columns pivots now s =
    ap (λ t. record { table = t; basis = set s.before.basis s.row s.column })
    (sym (stepped-same s.before.table s.row s.column (pivot_place s.before columns s.row s.column s.turns).positive))
    ∙ sym s.is

pub reached_from : (first : List FracRow) (columns pivots : ℕ) (now : Tableau) → stage first columns pivots ≡ Some now → IsReachedFrom first columns now.table now.basis
reached_from first columns zero now e = record { places = []; steps = tt; is = some_is _ _ e }
reached_from first columns (suc pivots) now e =
    let s : IsStep first columns pivots now = stage_step first columns pivots now e in
    let before : IsReachedFrom first columns s.before.table s.before.basis = reached_from first columns pivots s.before s.reached in
    let place : Place = record { row = s.row; column = s.column } in
    record {
      places = place ∷ before.places;
      steps = (before.steps, subst (λ t. IsMade t.table columns s.row s.column) (sym before.is) (step_of first columns pivots now s));
      is = ap (λ t. after_step t place) before.is ∙ after_is first columns pivots now s;
    }

-- ---- so they keep what steps keep
pub run_keeps_shape : RunKeepsShape
run_keeps_shape first columns pivots now is shape e = steps_keep_shape first columns now.table now.basis is shape (reached_from first columns pivots now e)

pub run_keeps_points : RunKeepsPoints
run_keeps_points first columns pivots now point scale is shape e = steps_keep_points first columns now.table now.basis point scale is shape (reached_from first columns pivots now e)

pub run_keeps_surplus : RunKeepsSurplus
run_keeps_surplus first columns pivots now point scale row is shape e = steps_keep_surplus first columns now.table now.basis point scale row is shape (reached_from first columns pivots now e)
