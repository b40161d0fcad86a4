-- What the run does at a tableau, by the choices there.
use Rattle.std.proofs.Common.{◌≡◌, ℕ, ◌+◌, ◌-◌, ◌<◌, ◌≢◌, Bool, true, false, cond, eqb, ℤ, pos, ◌<ℤ◌, List, length, Option, Some, None, unsigned_abs, refl, sym, ◌∙◌, ap, subst, arith}
use Rattle.std.proofs.lemmas.Bool.Decides.{nat_tests}
use Rattle.sums.proofs.Sizes.{zero_size}
use Rattle.frac_row.specs.declared.row.FracRow.{FracRow}
use Rattle.row_store.specs.Table.{HasColumns, number_at, height_of, columns_of, phase_row, right_side}
use Rattle.row_store.specs.Choice.{entering, leaving}
use Rattle.row_store.proofs.Choices.{entering_is, leaving_is}
use Rattle.simplex_frac.specs.Tableaux.{Tableau}
use Rattle.simplex_frac.specs.Run.{turn, turn_by, turn_at}
use Rattle.simplex_frac.specs.declared.turn.Turn.{Turn}
use Rattle.simplex_frac.specs.declared.turn.Turn.TheVariants.{Best, NoPoint, Ray, Pivot}

when_zero : (q : ℤ) (x y : Turn) → q ≡ pos 0 → cond (eqb (unsigned_abs q) 0) x y ≡ x
when_zero q x y e = rw e refl

when_nonzero_size : (n : ℕ) (x y : Turn) → n ≢ 0 → cond (eqb n 0) x y ≡ y
when_nonzero_size n x y ne = grind (arith, nat_tests)

when_nonzero : (q : ℤ) (x y : Turn) → q ≢ pos 0 → cond (eqb (unsigned_abs q) 0) x y ≡ y
when_nonzero q x y ne = when_nonzero_size (unsigned_abs q) x y (λ e. ne (zero_size q e))

-- ends are no pivots
pub no_end_pivots : {row column : ℕ} (b : Bool) → cond b Best NoPoint ≡ Pivot row column → ⊥
no_end_pivots true e = cc
no_end_pivots false e = cc

pub no_ray_pivots : {entered row column : ℕ} → Ray entered ≡ Pivot row column → ⊥
no_ray_pivots e = cc

pub turn_best : (now : Tableau) (columns : ℕ) → None ≡ entering now.table columns → right_side now.table (phase_row now.table) ≡ pos 0 → Best ≡ turn now columns
unfolding turn
turn_best now columns e zero =
    sym (ap (turn_by now) (sym e) ∙ when_zero (right_side now.table (phase_row now.table)) Best NoPoint zero)

pub turn_no_point : (now : Tableau) (columns : ℕ) → None ≡ entering now.table columns → right_side now.table (phase_row now.table) ≢ pos 0 → NoPoint ≡ turn now columns
unfolding turn
turn_no_point now columns e nonzero =
    sym (ap (turn_by now) (sym e) ∙ when_nonzero (right_side now.table (phase_row now.table)) Best NoPoint nonzero)

pub turn_entered : (now : Tableau) (columns column : ℕ) (row : Option ℕ) → Some column ≡ entering now.table columns → row ≡ leaving now.table now.basis column → turn_at column row ≡ turn now columns
unfolding turn
turn_entered now columns column row e same = ap (turn_at column) same ∙ ap (turn_by now) e

pub entering_below : (table : List FracRow) (columns column : ℕ) → Some column ≡ entering table columns → column < columns
entering_below table columns column e = (entering_is table columns column (sym e)).0

-- where the run pivots, the place is in the lines and the real columns, and its number is above 0
pub record IsPivotPlace (now : Tableau) (columns row column : ℕ) : Type 0 where
  pub line : row < height_of now.table
  pub real : column < columns
  pub positive : pos 0 <ℤ number_at now.table row column

-- what is found at a slice of the basis
pub due : (table : List FracRow) (basis slice : List ℕ) (columns row column : ℕ) → Pivot row column ≡ turn (record { table = table; basis = slice }) columns → slice ≡ basis → Pivot row column ≡ turn (record { table = table; basis = basis }) columns
due table basis slice columns row column e same = e ∙ ap (λ b. turn (record { table = table; basis = b }) columns) same

pub pivot_place : (now : Tableau) (columns row column : ℕ) → turn now columns ≡ Pivot row column → IsPivotPlace now columns row column
unfolding turn
pivot_place now columns row column e = by_entering (entering now.table columns) refl e
  where
    by_leaving : (entered : ℕ) (o : Option ℕ) → o ≡ leaving now.table now.basis entered → entering now.table columns ≡ Some entered → turn_at entered o ≡ Pivot row column → IsPivotPlace now columns row column
    by_leaving entered None l p q = absurd (no_ray_pivots q)
    by_leaving entered (Some left) l p q =
        let same_row : left ≡ row = cc in
        let same_column : entered ≡ column = cc in
        let is : (left < height_of now.table) × (pos 0 <ℤ number_at now.table left entered) = leaving_is now.table now.basis entered left (sym l) in
        record {
          line = subst (λ r. r < height_of now.table) same_row is.0;
          real = subst (λ c. c < columns) same_column (entering_is now.table columns entered p).0;
          positive = subst (λ c. pos 0 <ℤ number_at now.table row c) same_column (subst (λ r. pos 0 <ℤ number_at now.table r entered) same_row is.1);
        }

    by_entering : (o : Option ℕ) → entering now.table columns ≡ o → turn_by now o ≡ Pivot row column → IsPivotPlace now columns row column
    by_entering None p q = absurd (no_end_pivots (eqb (unsigned_abs (right_side now.table (phase_row now.table))) 0) q)
    by_entering (Some entered) p q = by_leaving entered (leaving now.table now.basis entered) refl p q

-- the right side of the phase row, by the column's number
pub same_side : (table : List FracRow) (columns height : ℕ) (q : ℤ) → HasColumns table columns → height + 2 ≡ length table → q ≡ number_at table height (columns + height) → right_side table (phase_row table) ≡ q
same_side table columns height q shape tall e =
    let same : height_of table ≡ height = omega arith in
    let last : columns_of table - 1 ≡ columns + height = omega arith in
    ap (λ r. number_at table r (columns_of table - 1)) same ∙ ap (number_at table height) last ∙ sym e
