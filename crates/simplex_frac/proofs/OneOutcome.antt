-- A run within a budget has one outcome.
use Rattle.std.proofs.Common.{◌≡◌, ℕ, zero, suc, ◌<◌, ◌≤◌, ◌≢◌, cond, eqb, List, Option, Some, None, ◌⊎◌, inl, inr, refl, sym, ◌∙◌, ap, subst, arith}
use Rattle.std.specs.Prelude.{option_and_then}
use Rattle.std.proofs.lemmas.Bool.{cases_lt}
use Rattle.std.proofs.lemmas.Bool.Decides.{nat_tests}
use Rattle.sums.proofs.Naturals.{zero_at_most}
use Rattle.sums.proofs.Tests.{none_some}
use Rattle.frac_row.specs.declared.row.FracRow.{FracRow}
use Rattle.row_store.specs.declared.error.Place.{Place}
use Rattle.row_store.specs.Pivot.{pivot_growth}
use Rattle.simplex_frac.specs.Tableaux.{Tableau}
use Rattle.simplex_frac.specs.Run.{turn, after_turn, unless_outgrown, next_tableau, stage}
use Rattle.simplex_frac.specs.Outcomes.{IsOutcome}
use Rattle.simplex_frac.specs.Laws.{HasOneOutcome}
use Rattle.simplex_frac.specs.declared.turn.Turn.{Turn}
use Rattle.simplex_frac.specs.declared.turn.Turn.TheVariants as turns
use Rattle.simplex_frac.specs.declared.outcome.Outcome.{Outcome}
use Rattle.simplex_frac.specs.declared.outcome.Outcome.TheVariants as outcomes
use Rattle.simplex_frac.proofs.RunLaws.{IsStep, stage_step}

-- the run goes no further: there is no next tableau, or the budget is spent
pub record EndsAt (first : List FracRow) (columns budget pivots : ℕ) (now : Tableau) : Type 0 where
  pub reached : stage first columns pivots ≡ Some now
  pub within : pivots ≤ budget
  pub last : (next_tableau columns now ≡ None) ⊎ (pivots ≡ budget)

-- a stage comes after all before it
pub reached_before : (first : List FracRow) (columns early late : ℕ) (now : Tableau) → early ≤ late → stage first columns late ≡ Some now → (before : Tableau) × (stage first columns early ≡ Some before)
reached_before first columns early zero now le e = (now, subst (λ k. stage first columns k ≡ Some now) (zero_at_most early le) e)
reached_before first columns early (suc late) now le e =
    elim (cases_lt early (suc late)) [
      | inl lt ↦ let s : IsStep first columns late now = stage_step first columns late now e in reached_before first columns early late s.before (omega arith) s.reached
      | inr ge ↦ let same : suc late ≡ early = omega arith in (now, subst (λ k. stage first columns k ≡ Some now) same e)
    ]

not_later : (first : List FracRow) (columns budget early late : ℕ) (one other : Tableau) → EndsAt first columns budget early one → EndsAt first columns budget late other → early < late → ⊥
not_later first columns budget early late one other h k lt =
    elim h.last [
      | inl none ↦ beyond (reached_before first columns (suc early) late other lt k.reached) none
      | inr spent ↦ past h.within k.within lt spent
    ]
  where
    past : early ≤ budget → late ≤ budget → early < late → early ≡ budget → ⊥
    past p q r e = omega arith

    beyond : (before : Tableau) × (stage first columns (suc early) ≡ Some before) → next_tableau columns one ≡ None → ⊥
    beyond (before, e) none = none_some (sym none ∙ ap (option_and_then (next_tableau columns)) (sym h.reached) ∙ e)

pub same_end : (first : List FracRow) (columns budget early late : ℕ) (one other : Tableau) → EndsAt first columns budget early one → EndsAt first columns budget late other → (early ≡ late) × (one ≡ other)
same_end first columns budget early late one other h k =
    elim (cases_lt early late) [
      | inl lt ↦ absurd (not_later first columns budget early late one other h k lt)
      | inr ge ↦ elim (cases_lt late early) [
        | inl lt ↦ absurd (not_later first columns budget late early other one k h lt)
        | inr le ↦ at_one (equal early late ge le)
      ]
    ]
  where
    equal : (m n : ℕ) → n ≤ m → m ≤ n → m ≡ n
    equal m n p q = omega arith

    at_one : early ≡ late → (early ≡ late) × (one ≡ other)
    at_one e = (e, some_is _ _ (sym h.reached ∙ ap (stage first columns) e ∙ k.reached))
      where
        some_is : (x y : Tableau) → Some x ≡ Some y → x ≡ y
        some_is x y e = cc

-- the outcome of an end
by_growth : ℕ → Option Place → Outcome
by_growth pivots None = outcomes.Spent pivots
by_growth pivots (Some place) = outcomes.Grew pivots place.row place.column

by_turn : ℕ → ℕ → Tableau → Turn → Outcome
by_turn budget pivots now turns.Best = outcomes.Best now.basis pivots
by_turn budget pivots now turns.NoPoint = outcomes.NoPoint now.basis pivots
by_turn budget pivots now (turns.Ray column) = outcomes.Ray column
by_turn budget pivots now (turns.Pivot row column) =
    cond (eqb pivots budget) (outcomes.Spent pivots) (by_growth pivots (pivot_growth now.table row column))

record IsEnd (first : List FracRow) (columns budget : ℕ) (table : List FracRow) (outcome : Outcome) : Type 0 where
  pivots : ℕ
  now : Tableau
  ends : EndsAt first columns budget pivots now
  same_outcome : outcome ≡ by_turn budget pivots now (turn now columns)
  same_table : table ≡ now.table

is_end : (first : List FracRow) (columns budget : ℕ) (table : List FracRow) (outcome : Outcome) → IsOutcome first columns budget table outcome → IsEnd first columns budget table outcome
unfolding by_turn by_growth
is_end first columns budget table (outcomes.Best basis made) (le, t) = record {
  pivots = made;
  now = record { table = table; basis = basis };
  ends = record { reached = t.reaches.reached; within = le; last = inl (ap (after_turn (record { table = table; basis = basis })) t.turns) };
  same_outcome = sym (ap (by_turn budget made (record { table = table; basis = basis })) t.turns);
  same_table = refl;
}
is_end first columns budget table (outcomes.NoPoint basis made) (le, t) = record {
  pivots = made;
  now = record { table = table; basis = basis };
  ends = record { reached = t.reaches.reached; within = le; last = inl (ap (after_turn (record { table = table; basis = basis })) t.turns) };
  same_outcome = sym (ap (by_turn budget made (record { table = table; basis = basis })) t.turns);
  same_table = refl;
}
is_end first columns budget table (outcomes.Ray column) (made, basis, le, t) = record {
  pivots = made;
  now = record { table = table; basis = basis };
  ends = record { reached = t.reaches.reached; within = le; last = inl (ap (after_turn (record { table = table; basis = basis })) t.turns) };
  same_outcome = sym (ap (by_turn budget made (record { table = table; basis = basis })) t.turns);
  same_table = refl;
}
is_end first columns budget table (outcomes.Spent pivots) (basis, row, column, same, t) = record {
  pivots = pivots;
  now = record { table = table; basis = basis };
  ends = record { reached = t.reaches.reached; within = omega arith; last = inr same };
  same_outcome = sym (ap (by_turn budget pivots (record { table = table; basis = basis })) t.turns ∙ when_eq pivots budget _ _ same);
  same_table = refl;
}
  where
    when_eq : (m n : ℕ) (x y : Outcome) → m ≡ n → cond (eqb m n) x y ≡ x
    when_eq m n x y e = grind (arith, nat_tests)
is_end first columns budget table (outcomes.Grew pivots place_row place_column) (basis, row, column, lt, g) = record {
  pivots = pivots;
  now = record { table = table; basis = basis };
  ends = record {
    reached = g.turns.reaches.reached;
    within = omega arith;
    last = inl (ap (after_turn (record { table = table; basis = basis })) g.turns.turns ∙ ap (unless_outgrown (record { table = table; basis = basis }) row column) g.growth);
  };
  same_outcome = sym (ap (by_turn budget pivots (record { table = table; basis = basis })) g.turns.turns ∙ when_ne pivots budget _ _ (omega arith) ∙ ap (by_growth pivots) g.growth);
  same_table = refl;
}
  where
    when_ne : (m n : ℕ) (x y : Outcome) → m ≢ n → cond (eqb m n) x y ≡ y
    when_ne m n x y e = grind (arith, nat_tests)

pub has_one_outcome : HasOneOutcome
has_one_outcome first columns budget table other_table outcome other h k =
    let a : IsEnd first columns budget table outcome = is_end first columns budget table outcome h in
    let b : IsEnd first columns budget other_table other = is_end first columns budget other_table other k in
    let same : (a.pivots ≡ b.pivots) × (a.now ≡ b.now) = same_end first columns budget a.pivots b.pivots a.now b.now a.ends b.ends in (
      a.same_outcome ∙ ap (λ n. by_turn budget n a.now (turn a.now columns)) same.0 ∙ ap (λ t. by_turn budget b.pivots t (turn t columns)) same.1 ∙ sym b.same_outcome,
      a.same_table ∙ ap (λ t. t.table) same.1 ∙ sym b.same_table,
    )
