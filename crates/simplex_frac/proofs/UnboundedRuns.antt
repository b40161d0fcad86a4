-- A run without a budget, pivot by pivot.
use Rattle.std.proofs.Common.{◌≡◌, ℕ, ◌+◌, ◌-◌, ◌^◌, ◌<◌, min, List, set, Some, None, Ok, Err, Result, inr, sym, ◌∙◌, ap, subst, arith}
use Rattle.std.specs.Prelude.{OnErr}
use Rattle.entries.specs.declared.memory.NoMemory.{NoMemory}
use Rattle.frac_row.specs.declared.row.FracRow.{FracRow}
use Rattle.row_store.specs.PivotAnswers.{IsPivotError}
use Rattle.row_store.specs.declared.error.PivotError.{PivotError}
use Rattle.row_store.specs.declared.error.PivotError.TheVariants as refusals
use Rattle.row_store.specs.Table.{HasColumns, height_of}
use Rattle.row_store.specs.Pivot.{pivoted, pivot_growth}
use Rattle.row_store.proofs.FirstTables.{first_has_columns}
use Rattle.simplex_frac.specs.Tableaux.{Tableau}
use Rattle.simplex_frac.proofs.ReachedPoints.{first_height}
use Rattle.simplex_frac.specs.Bases.{bases_of}
use Rattle.simplex_frac.specs.Finished.{IsStarted, IsCutOff, WantsMemory, counted}
use Rattle.simplex_frac.specs.Outcomes.{Reaches, TurnsAt}
use Rattle.simplex_frac.specs.Run.{turn, after_turn, unless_outgrown, next_tableau}
use Rattle.simplex_frac.specs.declared.outcome.End.{End}
use Rattle.simplex_frac.specs.declared.turn.Turn.TheVariants.{Pivot}
use Rattle.simplex_frac.proofs.NoBasisTwice.{reached_is_few}
use Rattle.simplex_frac.proofs.PivotsLeft.{pivots_left, left_falls}
use Rattle.simplex_frac.proofs.Stages.{reaches_next}

-- where the run is after some pivots, and how they are counted
pub record HasMade (first : List FracRow) (columns made : ℕ) (table : List FracRow) (basis : List ℕ) : Type 0 where
  pub pivots : ℕ
  pub reaches : Reaches first columns pivots table basis
  pub is_counted : made ≡ counted pivots

pub made_none : (first : List FracRow) (columns : ℕ) (table : List FracRow) (basis : List ℕ) → Reaches first columns 0 table basis → HasMade first columns 0 table basis
made_none first columns table basis r = record { pivots = 0; reaches = r; is_counted = omega arith }

pub made_more : (first : List FracRow) (columns made more : ℕ) (table after : List FracRow) (basis : List ℕ) (row column : ℕ) → HasMade first columns made table basis → Pivot row column ≡ turn (record { table = table; basis = basis }) columns → pivot_growth table row column ≡ None → after ≡ pivoted table row column
    → more ≡ min (made + 1) (2 ^ 64 - 1) → HasMade first columns more after (set basis row column)
made_more first columns made more table after basis row column h t none e count = record {
  pivots = h.pivots + 1;
  reaches = reaches_next first columns h.pivots table after basis row column h.reaches t none e;
  is_counted = counts h.pivots made more h.is_counted count;
}
  where
    counts : (k made more : ℕ) → made ≡ counted k → more ≡ min (made + 1) (2 ^ 64 - 1) → more ≡ counted (k + 1)
    counts k made more e f = omega arith

-- it began with as many columns as it says
pub started_columns : (first : List FracRow) (columns : ℕ) → IsStarted first columns → HasColumns first columns
started_columns first columns (rows, h) = subst (λ n. HasColumns first n) h.columns_in (first_has_columns rows first h.is)

-- each pivot leaves fewer
pub measure_falls : (first : List FracRow) (columns made : ℕ) (table after : List FracRow) (basis : List ℕ) (row column : ℕ) → IsStarted first columns → HasMade first columns made table basis
    → Pivot row column ≡ turn (record { table = table; basis = basis }) columns → pivot_growth table row column ≡ None → after ≡ pivoted table row column
    → pivots_left columns (bases_of columns (height_of first)) (record { table = after; basis = set basis row column }) < pivots_left columns (bases_of columns (height_of first)) (record { table = table; basis = basis })
measure_falls first columns made table after basis row column (rows, s) h t none e =
    left_falls first columns (bases_of columns (height_of first)) h.pivots (record { table = table; basis = basis }) (record { table = after; basis = set basis row column })
    (λ k last f. subst (λ m. k < bases_of columns m) (sym (ap height_of s.is ∙ first_height rows)) (reached_is_few rows first columns k last.table last.basis s (record { reached = f })))
    h.reaches.reached step
  where
    now : Tableau
    now = record { table = table; basis = basis }

    step : next_tableau columns (record { table = table; basis = basis }) ≡ Some (record { table = after; basis = set basis row column })
    step = ap (after_turn (record { table = table; basis = basis })) (sym t) ∙ ap (unless_outgrown (record { table = table; basis = basis }) row column) none ∙ ap (λ x. Some (record { table = x; basis = set basis row column })) (sym e)

-- a pivot that is refused: want of memory comes only where it is not outgrown
pub stopped_at : (first : List FracRow) (columns made count : ℕ) (table after : List FracRow) (basis : List ℕ) (row column : ℕ) (error : PivotError) (result : Result End NoMemory) → HasMade first columns made table basis
    → Pivot row column ≡ turn (record { table = table; basis = basis }) columns → IsPivotError table row column error → after ≡ table → IsCutOff error count result → OnErr result (WantsMemory first columns after)
stopped_at first columns made count table after basis row column (refusals.Grew place_row place_column) result h t grew e cut = subst (λ r. OnErr r (WantsMemory first columns after)) (sym cut) tt
stopped_at first columns made count table after basis row column refusals.NoMemory result h t none e cut = on_err result (
  h.pivots + 1,
  inr (record {
    made = h.pivots;
    basis = basis;
    row = row;
    column = column;
    within = omega arith;
    turns = subst (λ x. TurnsAt first columns h.pivots x basis (Pivot row column)) (sym e) (record { reaches = h.reaches; turns = sym t });
    fits = subst (λ x. pivot_growth x row column ≡ None) (sym e) none;
  }),
)
  where
    on_err : (r : Result End NoMemory) → WantsMemory first columns after → OnErr r (WantsMemory first columns after)
    on_err (Ok x) w = tt
    on_err (Err x) w = w
