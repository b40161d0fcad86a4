-- How many pivots a run still makes: the measure of a run without a budget.
use Rattle.std.proofs.Common.{◌≡◌, ℕ, zero, suc, ◌+◌, ◌<◌, ◌≤◌, List, Option, Some, None, refl, sym, ◌∙◌, ap, subst, arith, inl, inr}
use Rattle.std.specs.Prelude.{option_and_then}
use Rattle.std.proofs.lemmas.Bool.{cases_lt}
use Rattle.sums.proofs.Naturals.{plus_0, suc_moved}
use Rattle.frac_row.specs.declared.row.FracRow.{FracRow}
use Rattle.simplex_frac.specs.Tableaux.{Tableau}
use Rattle.simplex_frac.specs.Run.{next_tableau, stage}

-- one more than after the next one, where there is one
unfoldable pub left_after : (Tableau → ℕ) → Option Tableau → ℕ
left_after left None = 0
left_after left (Some next) = suc (left next)

-- the pivots from a tableau on, looked for no further than a bound
unfoldable pub pivots_left : ℕ → ℕ → Tableau → ℕ
pivots_left columns zero now = 0
pivots_left columns (suc bound) now = left_after (λ next. pivots_left columns bound next) (next_tableau columns now)

left_within : (columns bound : ℕ) (now : Tableau) → pivots_left columns bound now ≤ bound
unfolding pivots_left left_after
left_within columns zero now = omega arith
left_within columns (suc bound) now = of_next (next_tableau columns now) (λ next. left_within columns bound next)
  where
    of_next : (o : Option Tableau) → ((next : Tableau) → pivots_left columns bound next ≤ bound) → left_after (λ next. pivots_left columns bound next) o ≤ suc bound
    of_next None within = omega arith
    of_next (Some next) within = omega (arith, within next)

-- as many as the bound: so many stages follow
all_left : (first : List FracRow) (columns bound made : ℕ) (now : Tableau) → pivots_left columns bound now ≡ bound → stage first columns made ≡ Some now → (last : Tableau) × (stage first columns (made + bound) ≡ Some last)
unfolding pivots_left left_after
all_left first columns zero made now left e = (now, ap (stage first columns) (plus_0 made) ∙ e)
all_left first columns (suc bound) made now left e = of_next (next_tableau columns now) refl left (λ next few step. all_left first columns bound (suc made) next few step)
  where
    of_next : (o : Option Tableau) → next_tableau columns now ≡ o → left_after (λ next. pivots_left columns bound next) o ≡ suc bound
        → ((next : Tableau) → pivots_left columns bound next ≡ bound → stage first columns (suc made) ≡ Some next → (last : Tableau) × (stage first columns (suc made + bound) ≡ Some last))
        → (last : Tableau) × (stage first columns (made + suc bound) ≡ Some last)
    of_next None f left later = absurd (omega arith)
    of_next (Some next) f left later =
        let found = later next (omega arith) (ap (option_and_then (next_tableau columns)) e ∙ f) in
        (found.0, ap (stage first columns) (sym (suc_moved made bound)) ∙ found.1)

-- fewer than the bound: they are all
fewer_left : (columns bound : ℕ) (now : Tableau) → pivots_left columns bound now < bound → pivots_left columns (suc bound) now ≡ pivots_left columns bound now
unfolding pivots_left left_after
fewer_left columns zero now less = absurd (omega arith)
fewer_left columns (suc bound) now less = of_next (next_tableau columns now) less (λ next fewer. fewer_left columns bound next fewer)
  where
    of_next : (o : Option Tableau) → left_after (λ next. pivots_left columns bound next) o < suc bound → ((next : Tableau) → pivots_left columns bound next < bound → pivots_left columns (suc bound) next ≡ pivots_left columns bound next)
        → left_after (λ next. pivots_left columns (suc bound) next) o ≡ left_after (λ next. pivots_left columns bound next) o
    of_next None less later = refl
    of_next (Some next) less later = ap suc (later next (omega arith))

-- so a pivot leaves fewer, where no stage comes as late as the bound
pub left_falls : (first : List FracRow) (columns bound made : ℕ) (now next : Tableau) → ((k : ℕ) (last : Tableau) → stage first columns k ≡ Some last → k < bound) → stage first columns made ≡ Some now → next_tableau columns now ≡ Some next
    → pivots_left columns bound next < pivots_left columns bound now
unfolding pivots_left left_after
left_falls first columns zero made now next few e f = absurd (omega (arith, few made now e))
left_falls first columns (suc bound) made now next few e f =
    let step : stage first columns (suc made) ≡ Some next = ap (option_and_then (next_tableau columns)) e ∙ f in
    let less : pivots_left columns bound next < bound = elim (cases_lt (pivots_left columns bound next) bound) [
      | inl lt ↦ lt
      | inr ge ↦
          let found = all_left first columns bound (suc made) next (omega (arith, left_within columns bound next)) step in
          absurd (omega (arith, few (suc made + bound) found.0 found.1))
    ] in
    subst (λ o. pivots_left columns (suc bound) next < left_after (λ t. pivots_left columns bound t) o) (sym f) (omega (arith, fewer_left columns bound next less))
