-- A run without a budget has one end.
use Rattle.std.proofs.Common.{◌≡◌, ℕ, ◌+◌, List, Option, Some, None, inl, refl, sym, ◌∙◌, ap, arith}
use Rattle.frac_row.specs.declared.row.FracRow.{FracRow}
use Rattle.row_store.specs.declared.error.Place.{Place}
use Rattle.row_store.specs.Pivot.{pivot_growth}
use Rattle.simplex_frac.specs.Tableaux.{Tableau}
use Rattle.simplex_frac.specs.Run.{turn, after_turn, unless_outgrown, next_tableau, stage}
use Rattle.simplex_frac.specs.Outcomes.{TurnsAt}
use Rattle.simplex_frac.specs.Finished.{IsFinished, HasOneEnd, counted}
use Rattle.simplex_frac.specs.declared.turn.Turn.{Turn}
use Rattle.simplex_frac.specs.declared.turn.Turn.TheVariants as turns
use Rattle.simplex_frac.specs.declared.outcome.End.{End}
use Rattle.simplex_frac.specs.declared.outcome.End.TheVariants as ends
use Rattle.simplex_frac.proofs.OneOutcome.{same_end}

-- the end at a tableau; nothing is asked of a pivot that is made
by_growth : ℕ → Option Place → End
by_growth pivots None = ends.Ray 0
by_growth pivots (Some place) = ends.Grew (counted pivots) place.row place.column

by_turn : ℕ → Tableau → Turn → End
by_turn pivots now turns.Best = ends.Best now.basis (counted pivots)
by_turn pivots now turns.NoPoint = ends.NoPoint now.basis (counted pivots)
by_turn pivots now (turns.Ray column) = ends.Ray column
by_turn pivots now (turns.Pivot row column) = by_growth pivots (pivot_growth now.table row column)

record IsLast (first : List FracRow) (columns : ℕ) (table : List FracRow) (end : End) : Type 0 where
  pivots : ℕ
  now : Tableau
  reached : stage first columns pivots ≡ Some now
  last : next_tableau columns now ≡ None
  is_end : end ≡ by_turn pivots now (turn now columns)
  same_table : table ≡ now.table

-- a tableau at which no pivot is made
at_turn : (first : List FracRow) (columns pivots : ℕ) (table : List FracRow) (basis : List ℕ) (does : Turn) (end : End) → TurnsAt first columns pivots table basis does → after_turn (record { table = table; basis = basis }) does ≡ None
    → end ≡ by_turn pivots (record { table = table; basis = basis }) does → IsLast first columns table end
at_turn first columns pivots table basis does end t last e = record {
  pivots = pivots;
  now = record { table = table; basis = basis };
  reached = t.reaches.reached;
  last = ap (after_turn (record { table = table; basis = basis })) t.turns ∙ last;
  is_end = e ∙ sym (ap (by_turn pivots (record { table = table; basis = basis })) t.turns);
  same_table = refl;
}

is_last : (first : List FracRow) (columns : ℕ) (table : List FracRow) (end : End) → IsFinished first columns table end → IsLast first columns table end
unfolding by_turn by_growth
is_last first columns table (ends.Best basis made) (pivots, e, t) = at_turn first columns pivots table basis turns.Best _ t refl (ap (ends.Best basis) e)
is_last first columns table (ends.NoPoint basis made) (pivots, e, t) = at_turn first columns pivots table basis turns.NoPoint _ t refl (ap (ends.NoPoint basis) e)
is_last first columns table (ends.Ray column) (pivots, basis, t) = at_turn first columns pivots table basis (turns.Ray column) _ t refl refl
is_last first columns table (ends.Grew made place_row place_column) (pivots, basis, row, column, e, g) =
    at_turn first columns pivots table basis (turns.Pivot row column) _ g.turns (ap (unless_outgrown (record { table = table; basis = basis }) row column) g.growth)
    (ap (λ m. ends.Grew m place_row place_column) e ∙ sym (ap (by_growth pivots) g.growth))

pub has_one_end : HasOneEnd
has_one_end first columns table other_table end other h k =
    let a : IsLast first columns table end = is_last first columns table end h in
    let b : IsLast first columns other_table other = is_last first columns other_table other k in
    let same : (a.pivots ≡ b.pivots) × (a.now ≡ b.now) = same_end first columns (a.pivots + b.pivots) a.pivots b.pivots a.now b.now
    (record { reached = a.reached; within = omega arith; last = inl a.last }) (record { reached = b.reached; within = omega arith; last = inl b.last }) in (
      a.is_end ∙ ap (λ n. by_turn n a.now (turn a.now columns)) same.0 ∙ ap (λ t. by_turn b.pivots t (turn t columns)) same.1 ∙ sym b.is_end,
      a.same_table ∙ ap (λ t. t.table) same.1 ∙ sym b.same_table,
    )
