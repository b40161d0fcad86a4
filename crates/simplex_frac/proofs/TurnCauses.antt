-- What stands behind each turn of the run.
use Rattle.std.proofs.Common.{◌≡◌, ℕ, ◌<◌, Bool, true, false, ◌&&◌, cond, eqb, ℤ, pos, ◌<ℤ◌, ◌≤ℤ◌, List, Option, Some, None, unsigned_abs, refl, sym, ◌∙◌, ap, subst, arith, inl, inr}
use Rattle.std.proofs.lemmas.Int.{ints}
use Rattle.std.proofs.lemmas.Bool.{eqb-true, or_cases, or_parts, and_parts, both_ways}
use Rattle.sums.proofs.Places.{nothing_at}
use Rattle.sums.proofs.Sizes.{zero_size, zero_size_tested}
use Rattle.frac_row.specs.declared.row.FracRow.{FracRow}
use Rattle.row_store.specs.Table.{number_at, phase_row, cost_row, right_side}
use Rattle.row_store.specs.Choice.{is_negative, improves, is_improving, entering, leaving}
use Rattle.row_store.proofs.Choices.{entering_is}
use Rattle.row_store.proofs.SignTests.{not_negative_is}
use Rattle.simplex_frac.specs.Tableaux.{Tableau}
use Rattle.simplex_frac.specs.Run.{turn, turn_by, turn_at}
use Rattle.simplex_frac.specs.declared.turn.Turn.TheVariants.{Best, NoPoint, Ray, Pivot}
use Rattle.simplex_frac.proofs.Turns.{no_end_pivots, no_ray_pivots}

-- ---- the pivot
pub pivot_leaves : (now : Tableau) (columns row column : ℕ) → turn now columns ≡ Pivot row column → leaving now.table now.basis column ≡ Some row
unfolding turn
pivot_leaves now columns row column e = by_entering (entering now.table columns) e
  where
    by_leaving : (entered : ℕ) (o : Option ℕ) → leaving now.table now.basis entered ≡ o → turn_at entered o ≡ Pivot row column → leaving now.table now.basis column ≡ Some row
    by_leaving entered None l q = absurd (no_ray_pivots q)
    by_leaving entered (Some left) l q =
        let same_row : left ≡ row = cc in
        let same_column : entered ≡ column = cc in
        subst (λ c. leaving now.table now.basis c ≡ Some row) same_column (l ∙ ap Some same_row)

    by_entering : (o : Option ℕ) → turn_by now o ≡ Pivot row column → leaving now.table now.basis column ≡ Some row
    by_entering None q = absurd (no_end_pivots (eqb (unsigned_abs (right_side now.table (phase_row now.table))) 0) q)
    by_entering (Some entered) q = by_leaving entered (leaving now.table now.basis entered) refl q

pub pivot_enters : (now : Tableau) (columns row column : ℕ) → turn now columns ≡ Pivot row column → entering now.table columns ≡ Some column
unfolding turn
pivot_enters now columns row column e = by_entering (entering now.table columns) refl e
  where
    by_leaving : (entered : ℕ) (o : Option ℕ) → turn_at entered o ≡ Pivot row column → entered ≡ column
    by_leaving entered None q = absurd (no_ray_pivots q)
    by_leaving entered (Some left) q = cc

    by_entering : (o : Option ℕ) → entering now.table columns ≡ o → turn_by now o ≡ Pivot row column → entering now.table columns ≡ Some column
    by_entering None p q = absurd (no_end_pivots (eqb (unsigned_abs (right_side now.table (phase_row now.table))) 0) q)
    by_entering (Some entered) p q = p ∙ ap Some (by_leaving entered (leaving now.table now.basis entered) q)

-- ---- the ends
-- no column enters, and the right side of the phase row is 0
pub record EndsBest (now : Tableau) (columns : ℕ) : Type 0 where
  pub none : entering now.table columns ≡ None
  pub met : right_side now.table (phase_row now.table) ≡ pos 0

pub best_ends : (now : Tableau) (columns : ℕ) → turn now columns ≡ Best → EndsBest now columns
unfolding turn
best_ends now columns e = by_entering (entering now.table columns) refl e
  where
    by_leaving : (entered : ℕ) (o : Option ℕ) → turn_at entered o ≡ Best → ⊥
    by_leaving entered None q = cc
    by_leaving entered (Some left) q = cc

    by_test : (b : Bool) → cond b Best NoPoint ≡ Best → b ≡ true
    by_test true q = refl
    by_test false q = cc

    by_entering : (o : Option ℕ) → entering now.table columns ≡ o → turn_by now o ≡ Best → EndsBest now columns
    by_entering None p q = record { none = p; met = zero_size _ (eqb-true _ 0 (by_test _ q)) }
    by_entering (Some entered) p q = absurd (by_leaving entered (leaving now.table now.basis entered) q)

-- no column enters, and it is not
pub record EndsNoPoint (now : Tableau) (columns : ℕ) : Type 0 where
  pub none : entering now.table columns ≡ None
  pub unmet : right_side now.table (phase_row now.table) ≡ pos 0 → ⊥

pub no_point_ends : (now : Tableau) (columns : ℕ) → turn now columns ≡ NoPoint → EndsNoPoint now columns
unfolding turn
no_point_ends now columns e = by_entering (entering now.table columns) refl e
  where
    by_leaving : (entered : ℕ) (o : Option ℕ) → turn_at entered o ≡ NoPoint → ⊥
    by_leaving entered None q = cc
    by_leaving entered (Some left) q = cc

    by_test : (b : Bool) → cond b Best NoPoint ≡ NoPoint → b ≡ false
    by_test true q = cc
    by_test false q = refl

    by_entering : (o : Option ℕ) → entering now.table columns ≡ o → turn_by now o ≡ NoPoint → EndsNoPoint now columns
    by_entering None p q = record { none = p; unmet = λ zero. both_ways _ (by_test _ q) (zero_size_tested _ zero) }
    by_entering (Some entered) p q = absurd (by_leaving entered (leaving now.table now.basis entered) q)

-- a column enters, and no row leaves
pub record EndsRay (now : Tableau) (columns column : ℕ) : Type 0 where
  pub enters : entering now.table columns ≡ Some column
  pub none : leaving now.table now.basis column ≡ None

pub ray_ends : (now : Tableau) (columns column : ℕ) → turn now columns ≡ Ray column → EndsRay now columns column
unfolding turn
ray_ends now columns column e = by_entering (entering now.table columns) refl e
  where
    by_leaving : (entered : ℕ) (o : Option ℕ) → leaving now.table now.basis entered ≡ o → entering now.table columns ≡ Some entered → turn_at entered o ≡ Ray column → EndsRay now columns column
    by_leaving entered None l p q =
        let same : entered ≡ column = cc in
        record { enters = p ∙ ap Some same; none = subst (λ c. leaving now.table now.basis c ≡ None) same l }
    by_leaving entered (Some left) l p q = absurd (no_ray_pivots (sym q))

    by_test : (b : Bool) → cond b Best NoPoint ≡ Ray column → ⊥
    by_test true q = cc
    by_test false q = cc

    by_entering : (o : Option ℕ) → entering now.table columns ≡ o → turn_by now o ≡ Ray column → EndsRay now columns column
    by_entering None p q = absurd (by_test (eqb (unsigned_abs (right_side now.table (phase_row now.table))) 0) q)
    by_entering (Some entered) p q = by_leaving entered (leaving now.table now.basis entered) refl p q

-- ---- which columns improve

test_negative : (z : ℤ) → is_negative z ≡ true → z <ℤ pos 0
test_negative z h = grind (arith, ints)

-- the phase row is below 0 there, or it is 0 and the cost row is below 0
pub record Improves (p q : ℤ) : Type 0 where
  pub phase : p ≤ℤ pos 0
  pub cost : p ≡ pos 0 → q <ℤ pos 0

improves_is : (p q : ℤ) → improves p q ≡ true → Improves p q
unfolding improves
improves_is p q t = elim (or_cases _ _ t) [
  | inl below ↦ record { phase = no_more p (test_negative p below); cost = λ e. absurd (clash p (test_negative p below) e) }
  | inr both ↦ let parts = and_parts _ _ both in record { phase = zero p (eqb-true _ 0 parts.0); cost = λ e. test_negative q parts.1 }
]
  where
    no_more : (p : ℤ) → p <ℤ pos 0 → p ≤ℤ pos 0
    no_more p h = omega (arith, ints)

    clash : (p : ℤ) → p <ℤ pos 0 → p ≡ pos 0 → ⊥
    clash p h e = omega (arith, ints)

    zero : (p : ℤ) → unsigned_abs p ≡ 0 → p ≤ℤ pos 0
    zero p e = omega (arith, ints)

pub entering_improves : (table : List FracRow) (columns column : ℕ) → entering table columns ≡ Some column → Improves (number_at table (phase_row table) column) (number_at table (cost_row table) column)
entering_improves table columns column e = improves_is _ _ (entering_is table columns column e).1

-- neither: the phase row is not below 0, and where it is 0, nor is the cost row
pub record ImprovesNot (p q : ℤ) : Type 0 where
  pub phase : pos 0 ≤ℤ p
  pub cost : p ≡ pos 0 → pos 0 ≤ℤ q

pub improves_not : (p q : ℤ) → improves p q ≡ false → ImprovesNot p q
unfolding improves
improves_not p q t =
    let parts = or_parts _ _ t in
    record { phase = not_negative_is p parts.0; cost = λ e. at_zero (is_negative q) refl e parts.1 }
  where
    zero_test : p ≡ pos 0 → eqb (unsigned_abs p) 0 ≡ true
    zero_test e = rw e refl

    at_zero : (b : Bool) → is_negative q ≡ b → p ≡ pos 0 → (eqb (unsigned_abs p) 0 && b) ≡ false → pos 0 ≤ℤ q
    at_zero false n e h = not_negative_is q n
    at_zero true n e h = absurd (never (eqb (unsigned_abs p) 0) (zero_test e) h)
      where
        never : (c : Bool) → c ≡ true → (c && true) ≡ false → ⊥
        never c s h = cc

pub none_improves : (table : List FracRow) (columns column : ℕ) → entering table columns ≡ None → column < columns → ImprovesNot (number_at table (phase_row table) column) (number_at table (cost_row table) column)
unfolding entering
none_improves table columns column e lt = improves_not _ _ (passed (is_improving table column) (nothing_at (λ j. cond (is_improving table j) (Some j) None) columns column e lt))
  where
    passed : (b : Bool) → cond b (Some column) None ≡ None → b ≡ false
    passed false h = refl
    passed true h = cc
