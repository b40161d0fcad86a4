-- Rows of kept pairs: those that keep none, and a row that is put back.
use mathlib.Core.Path.{fun_ext}
use Rattle.std.proofs.Common.{◌≡◌, ◌≢◌, ◌==◌, ◌&&◌, ◌<◌, ℕ, Bool, true, false, List, [], length, replicate, slice_index_or, slice_set, refl, sym, ap, ◌∙◌, inl, inr, arith, get_or-set_same, get_or-set_other}
use Rattle.std.proofs.lemmas.Bool.{cases_lt, eq-eqb, eqb-true}
use Rattle.std.proofs.lemmas.Grind.{common_steps}
use Rattle.std.proofs.lemmas.List.{get_or-replicate, get_or_past, set-get_or, set-set}
use Rattle.sums.proofs.Tests.{by_test, no_both}
use Rattle.fleet_model.specs.declared.kept.Step.{Step}
use Rattle.fleet_model.specs.declared.parts.Pair.{Pair}
use Rattle.fleet_model.specs.Kept.{kept_by, leaves, narrowed}
use Rattle.fleet_model.specs.Schedule.{leg_on}

-- a row that keeps no fleet
pub no_fleet_kept : (fleets f : ℕ) → slice_index_or (replicate fleets false) f false ≡ false
no_fleet_kept fleets f = elim (cases_lt f fleets) [
  | inl within ↦ get_or-replicate fleets f false false within
  | inr past ↦ grind (arith, common_steps, get_or_past)
]

pub no_pair_kept : (legs fleets : ℕ) (p : Pair) → kept_by (replicate legs (replicate fleets false)) p ≡ false
no_pair_kept legs fleets p = elim (cases_lt p.leg legs) [
  | inl within ↦ ap (λ row. slice_index_or row p.choice false) (get_or-replicate legs p.leg (replicate fleets false) [] within) ∙ no_fleet_kept fleets p.choice
  | inr past ↦ grind (arith, common_steps, get_or_past)
]

-- a row that was written over is put back
pub row_put_back : (rows : List (List Bool)) (leg : ℕ) (row : List Bool) → slice_set (slice_set rows leg row) leg (slice_index_or rows leg []) ≡ rows
row_put_back rows leg row = set-set rows leg row (slice_index_or rows leg []) ∙ set-get_or rows leg []

-- the pairs that are kept where a step's leg has another row
pub row_narrowed : (rows : List (List Bool)) (step : Step) (row : List Bool) → step.leg < length rows
    → ((f : ℕ) → slice_index_or row f false ≡ (slice_index_or (slice_index_or rows step.leg []) f false && leaves step (leg_on step.leg f)))
    → kept_by (slice_set rows step.leg row) ≡ narrowed (kept_by rows) step
row_narrowed rows step row within is = fun_ext (λ p. by_test (p.leg == step.leg)
    (λ same.
    let leg : p.leg ≡ step.leg = eqb-true p.leg step.leg same in
    ap (λ l. slice_index_or (slice_index_or (slice_set rows step.leg row) l []) p.choice false) leg
    ∙ ap (λ r. slice_index_or r p.choice false) (get_or-set_same rows step.leg row [] within)
    ∙ is p.choice
    ∙ ap (λ l. slice_index_or (slice_index_or rows l []) p.choice false && leaves step (leg_on l p.choice)) (sym leg))
    (λ other.
    let apart : p.leg ≢ step.leg = λ same. no_both other (eq-eqb p.leg step.leg same) in
    ap (λ r. slice_index_or r p.choice false) (get_or-set_other rows step.leg p.leg row [] apart)
    ∙ sym (and_true (kept_by rows p)) ∙ ap (λ b. kept_by rows p && b) (sym (rw other refl))))
  where
    and_true : (b : Bool) → (b && true) ≡ b
    and_true true = refl
    and_true false = refl
