-- One pivot of the run: what it makes of values and of right sides.
use Rattle.std.proofs.Common.{◌≡◌, ◌≢◌, ℕ, ◌+◌, ◌<◌, ◌≤◌, length, set, ℤ, pos, ◌-ℤ◌, ◌*ℤ◌, ◌<ℤ◌, ◌≤ℤ◌, sym, ◌∙◌, ap, subst, arith}
use Rattle.std.specs.Prelude.{neg_ℤ}
use Rattle.std.proofs.lemmas.Int.{ints, by_lt_z}
use lib.IntN.{*ℤ_comm, *ℤ-zero, zero-*ℤ}
use Rattle.sums.proofs.Integers.{*ℤ_assoc, *ℤ_left_comm, *ℤ_cancel, *ℤ--ℤ, -ℤ-*ℤ, *ℤ-neg_ℤ, neg_ℤ-*ℤ, positive_product, zero_factor}
use Rattle.sums.proofs.Signs.{product_at_least_0, factor_at_least_0}
use Rattle.sums.proofs.Sizes.{above_is_some, opposite_some}
use Rattle.frac_row.specs.Row.{width_of}
use Rattle.row_store.specs.declared.problem.Rows.{Rows}
use Rattle.row_store.specs.Table.{row_at, number_at}
use Rattle.row_store.specs.Pivot.{pivoted}
use Rattle.row_store.proofs.PivotNumbers.{IsCleared, IsScaled, pivot_clears, pivot_scales}
use Rattle.simplex_frac.specs.Tableaux.{Tableau}
use Rattle.simplex_frac.specs.ReachedTables.{den_at, IsReachedBySteps, IsTableOf}
use Rattle.simplex_frac.proofs.BasicSums.{basic}
use Rattle.simplex_frac.proofs.ReachedPoints.{has_tables}
use Rattle.simplex_frac.proofs.TurnCauses.{Improves, ImprovesNot}

-- the right side of a row
abbrev pub side_of : Rows → Tableau → ℕ → ℤ
side_of rows now row = number_at now.table row (rows.columns + length rows.lines)

-- what Bland's rule tells of a pivot from right sides of at least 0: the least improving column enters, and of the lines
-- at 0 with a positive entry the one with the least basic column leaves
pub record IsOnePivot (rows : Rows) (old new : Tableau) (row column : ℕ) : Type 0 where
  pub reached : IsReachedBySteps rows old.table old.basis
  pub line : row < length rows.lines
  pub real : column < rows.columns
  pub positive : pos 0 <ℤ number_at old.table row column
  pub sides : (line : ℕ) → line < length rows.lines → pos 0 ≤ℤ side_of rows old line
  pub improves : Improves (number_at old.table (length rows.lines) column) (number_at old.table (length rows.lines + 1) column)
  pub earlier : (other : ℕ) → other < column → ImprovesNot (number_at old.table (length rows.lines) other) (number_at old.table (length rows.lines + 1) other)
  pub ties : (line : ℕ) → line < length rows.lines → pos 0 <ℤ number_at old.table line column → side_of rows old line ≡ pos 0 → basic old.basis row ≤ basic old.basis line
  pub is : new.table ≡ pivoted old.table row column
  pub basis : new.basis ≡ set old.basis row column

-- ---- pairs of numbers, the first compared before the second
pub record NoLess (x y more also : ℤ) : Type 0 where
  pub first : x ≤ℤ more
  pub second : x ≡ more → y ≤ℤ also

pub no_less_same : (x y : ℤ) → NoLess x y x y
no_less_same x y = record { first = omega (arith, ints); second = λ e. omega (arith, ints) }

pub no_less_chain : (x y x' y' x'' y'' : ℤ) → NoLess x y x' y' → NoLess x' y' x'' y'' → NoLess x y x'' y''
no_less_chain x y x' y' x'' y'' p q = record {
  first = over x x' x'' p.first q.first;
  second = λ e. over y y' y'' (p.second (between x x' x'' p.first q.first e)) (q.second (sym (between x x' x'' p.first q.first e) ∙ e));
}
  where
    over : (a b c : ℤ) → a ≤ℤ b → b ≤ℤ c → a ≤ℤ c
    over a b c p q = omega (arith, ints)

    between : (a b c : ℤ) → a ≤ℤ b → b ≤ℤ c → a ≡ c → a ≡ b
    between a b c p q e = omega (arith, ints)

-- .. and equal pairs say that a third number is 0
pub record Rises (x y more also step : ℤ) : Type 0 where
  pub no_less : NoLess x y more also
  pub strict : x ≡ more → y ≡ also → step ≡ pos 0

-- ---- a value over plain numbers: x and x' are v / d and v' / d', so many times as the scale says
moved_value : (by own other d d' v v' t q a scale x x' : ℤ) → pos 0 <ℤ own → by *ℤ d' ≡ own *ℤ d → by *ℤ v' ≡ (own *ℤ v) -ℤ (other *ℤ t) → own *ℤ q ≡ other *ℤ a
    → x *ℤ d ≡ v *ℤ scale → x' *ℤ d' ≡ v' *ℤ scale → a *ℤ (d *ℤ (x' -ℤ x)) ≡ neg_ℤ (q *ℤ (t *ℤ scale))
moved_value by own other d d' v v' t q a scale x x' above dens numbers clears old new =
    *ℤ_cancel own (a *ℤ (d *ℤ (x' -ℤ x))) (neg_ℤ (q *ℤ (t *ℤ scale))) above
    (*ℤ_left_comm own a (d *ℤ (x' -ℤ x)) ∙ ap (λ z. a *ℤ z) difference ∙ *ℤ-neg_ℤ a (other *ℤ (t *ℤ scale))
    ∙ ap neg_ℤ (sym (*ℤ_assoc a other (t *ℤ scale)) ∙ ap (λ z. z *ℤ (t *ℤ scale)) (*ℤ_comm a other ∙ sym clears) ∙ *ℤ_assoc own q (t *ℤ scale))
    ∙ sym (*ℤ-neg_ℤ own (q *ℤ (t *ℤ scale))))
  where
    after : own *ℤ (d *ℤ x') ≡ (own *ℤ (v *ℤ scale)) -ℤ (other *ℤ (t *ℤ scale))
    after =
        sym (*ℤ_assoc own d x') ∙ ap (λ z. z *ℤ x') (sym dens) ∙ *ℤ_assoc by d' x' ∙ ap (λ z. by *ℤ z) (*ℤ_comm d' x' ∙ new) ∙ sym (*ℤ_assoc by v' scale)
        ∙ ap (λ z. z *ℤ scale) numbers ∙ -ℤ-*ℤ (own *ℤ v) (other *ℤ t) scale ∙ ap (λ z. z -ℤ ((other *ℤ t) *ℤ scale)) (*ℤ_assoc own v scale)
        ∙ ap (λ z. (own *ℤ (v *ℤ scale)) -ℤ z) (*ℤ_assoc other t scale)

    before : own *ℤ (d *ℤ x) ≡ own *ℤ (v *ℤ scale)
    before = ap (λ z. own *ℤ z) (*ℤ_comm d x ∙ old)

    less : (b c e f : ℤ) → b ≡ c -ℤ e → f ≡ c → b -ℤ f ≡ neg_ℤ e
    less b c e f p q = omega (arith, ints)

    difference : own *ℤ (d *ℤ (x' -ℤ x)) ≡ neg_ℤ (other *ℤ (t *ℤ scale))
    difference = ap (λ z. own *ℤ z) (*ℤ--ℤ d x' x) ∙ *ℤ--ℤ own (d *ℤ x') (d *ℤ x) ∙ less _ _ _ _ after before

-- how much a value moves
record Moves (a d t scale q x x' : ℤ) : Type 0 where
  dens : pos 0 <ℤ d
  scaled : pos 0 <ℤ scale
  by : a *ℤ (d *ℤ (x' -ℤ x)) ≡ neg_ℤ (q *ℤ (t *ℤ scale))

no_fall : (a d t scale q x x' : ℤ) → pos 0 <ℤ a → pos 0 ≤ℤ t → q ≤ℤ pos 0 → Moves a d t scale q x x' → x ≤ℤ x'
no_fall a d t scale q x x' above some below m =
    more x x' (factor_at_least_0 d (x' -ℤ x) m.dens (factor_at_least_0 a (d *ℤ (x' -ℤ x)) above (subst (λ z. pos 0 ≤ℤ z) (neg_ℤ-*ℤ q (t *ℤ scale) ∙ sym m.by)
    (product_at_least_0 (neg_ℤ q) (t *ℤ scale) (opposite_some q below) (product_at_least_0 t scale some (above_is_some scale m.scaled))))))
  where
    more : (x x' : ℤ) → pos 0 ≤ℤ (x' -ℤ x) → x ≤ℤ x'
    more x x' h = omega (arith, ints)

-- a value that stays: the step or the column's number is 0
stays_by : (a d t scale q x x' : ℤ) → Moves a d t scale q x x' → x ≡ x' → q *ℤ (t *ℤ scale) ≡ pos 0
stays_by a d t scale q x x' m e =
    opposite _ (sym m.by ∙ ap (λ z. a *ℤ (d *ℤ z)) (none x x' e) ∙ ap (λ z. a *ℤ z) (*ℤ-zero d) ∙ *ℤ-zero a)
  where
    none : (x x' : ℤ) → x ≡ x' → x' -ℤ x ≡ pos 0
    none x x' e = omega (arith, ints)

    opposite : (z : ℤ) → neg_ℤ z ≡ pos 0 → z ≡ pos 0
    opposite z e = omega (arith, ints)

no_step : (a d t scale q x x' : ℤ) → pos 0 <ℤ a → Moves a d t scale q x x' → t ≡ pos 0 → x ≡ x'
no_step a d t scale q x x' above m e =
    same x x' (zero_factor d (x' -ℤ x) m.dens (zero_factor a (d *ℤ (x' -ℤ x)) above
    (m.by ∙ ap (λ z. neg_ℤ (q *ℤ (z *ℤ scale))) e ∙ ap (λ z. neg_ℤ (q *ℤ z)) (zero-*ℤ scale) ∙ ap neg_ℤ (*ℤ-zero q))))
  where
    same : (x x' : ℤ) → x' -ℤ x ≡ pos 0 → x ≡ x'
    same x x' e = omega (arith, ints)

-- so the pair of values rises where an improving column enters
pair_rises : (a t d scale p x x' e other_scale q y y' : ℤ) → pos 0 <ℤ a → pos 0 ≤ℤ t → Improves p q → Moves a d t scale p x x' → Moves a e t other_scale q y y' → Rises x y x' y' t
pair_rises a t d scale p x x' e other_scale q y y' above some improves m k = record {
  no_less = record { first = no_fall a d t scale p x x' above some improves.phase m; second = by_step };
  strict = λ same also. by_lt_z (pos 0) t (λ less. absurd (falls (improves.cost (at_zero same less)) (stays_by a e t other_scale q y y' k also) less)) (λ none. between t some none);
}
  where
    between : (t : ℤ) → pos 0 ≤ℤ t → t ≤ℤ pos 0 → t ≡ pos 0
    between t p q = omega (arith, ints)

    equal_is_no_less : (y y' : ℤ) → y ≡ y' → y ≤ℤ y'
    equal_is_no_less y y' e = omega (arith, ints)

    at_zero : x ≡ x' → pos 0 <ℤ t → p ≡ pos 0
    at_zero same less = zero_factor (t *ℤ scale) p (positive_product t scale less m.scaled) (*ℤ_comm (t *ℤ scale) p ∙ stays_by a d t scale p x x' m same)

    clash : (q : ℤ) → q <ℤ pos 0 → q ≡ pos 0 → ⊥
    clash q p e = omega (arith, ints)

    falls : q <ℤ pos 0 → q *ℤ (t *ℤ other_scale) ≡ pos 0 → pos 0 <ℤ t → ⊥
    falls below none less = clash q below (zero_factor (t *ℤ other_scale) q (positive_product t other_scale less k.scaled) (*ℤ_comm (t *ℤ other_scale) q ∙ none))

    below_is_no_more : (q : ℤ) → q <ℤ pos 0 → q ≤ℤ pos 0
    below_is_no_more q p = omega (arith, ints)

    by_step : x ≡ x' → y ≤ℤ y'
    by_step same = by_lt_z (pos 0) t
        (λ less. no_fall a e t other_scale q y y' above some (below_is_no_more q (improves.cost (at_zero same less))) k)
        (λ none. equal_is_no_less y y' (no_step a e t other_scale q y y' above k (between t some none)))

-- ---- the pivot's rows
module _ (rows : Rows) (old new : Tableau) (row column : ℕ) (p : IsOnePivot rows old new row column) where
  is_table : IsTableOf rows old.table old.basis
  is_table = has_tables rows old.table old.basis p.reached

  in_table : (other : ℕ) → other < length rows.lines + 2 → other < length old.table
  in_table other lt = subst (λ n. other < n) (sym is_table.rows_in) lt

  last_in_row : (other : ℕ) → other < length rows.lines + 2 → rows.columns + length rows.lines < width_of (row_at old.table other)
  last_in_row other lt = subst (λ n. rows.columns + length rows.lines < n) (sym (is_table.is_table.same_width other (in_table other lt) ∙ is_table.columns_in)) (omega arith)

  cleared : (other : ℕ) → other < length rows.lines + 2 → other ≢ row → IsCleared (row_at old.table other) (row_at new.table other) (row_at old.table row) column
  cleared other lt apart =
      subst (λ t. IsCleared (row_at old.table other) (row_at t other) (row_at old.table row) column) (sym p.is)
      (pivot_clears old.table row column other is_table.is_table p.positive (in_table other lt) apart)

  scaled : IsScaled (row_at old.table row) (row_at new.table row) column
  scaled =
      subst (λ t. IsScaled (row_at old.table row) (row_at t row) column) (sym p.is) (pivot_scales old.table row column p.positive (in_table row (below_more p.line)))
    where
      below_more : {m k : ℕ} → m < k → m < k + 2
      below_more lt = omega arith

  -- the values of the two rows below the lines
  value_moves : (other : ℕ) (scale x x' : ℤ) → length rows.lines ≤ other → other < length rows.lines + 2 → pos 0 <ℤ scale → x *ℤ den_at old.table other ≡ side_of rows old other *ℤ scale → x' *ℤ den_at new.table other ≡ side_of rows new other *ℤ scale
      → Moves (number_at old.table row column) (den_at old.table other) (side_of rows old row) scale (number_at old.table other column) x x'
  value_moves other scale x x' ge lt above e f =
      let c : IsCleared (row_at old.table other) (row_at new.table other) (row_at old.table row) column = cleared other lt (λ same. apart other row (length rows.lines) ge p.line same) in
      record {
        dens = is_table.dens other lt;
        scaled = above;
        by = moved_value c.by c.own c.other (den_at old.table other) (den_at new.table other) (side_of rows old other) (side_of rows new other) (side_of rows old row) (number_at old.table other column) (number_at old.table row column) scale x x'
            c.own_positive c.den (c.numbers (rows.columns + length rows.lines) (last_in_row other lt)) c.clears e f;
      }
    where
      apart : (m k n : ℕ) → n ≤ m → k < n → m ≡ k → ⊥
      apart m k n p q e = omega arith

  pub values_rise : (scale other_scale x x' y y' : ℤ) → pos 0 <ℤ scale → pos 0 <ℤ other_scale
      → x *ℤ den_at old.table (length rows.lines) ≡ side_of rows old (length rows.lines) *ℤ scale → x' *ℤ den_at new.table (length rows.lines) ≡ side_of rows new (length rows.lines) *ℤ scale
      → y *ℤ den_at old.table (length rows.lines + 1) ≡ side_of rows old (length rows.lines + 1) *ℤ other_scale → y' *ℤ den_at new.table (length rows.lines + 1) ≡ side_of rows new (length rows.lines + 1) *ℤ other_scale
      → Rises x y x' y' (side_of rows old row)
  values_rise scale other_scale x x' y y' above also e e' f f' =
      pair_rises (number_at old.table row column) (side_of rows old row) (den_at old.table (length rows.lines)) scale (number_at old.table (length rows.lines) column) x x'
      (den_at old.table (length rows.lines + 1)) other_scale (number_at old.table (length rows.lines + 1) column) y y' p.positive (p.sides row p.line) p.improves
      (value_moves (length rows.lines) scale x x' (omega arith) (omega arith) above e e') (value_moves (length rows.lines + 1) other_scale y y' (omega arith) (omega arith) also f f')

  -- ---- where the pivot row's right side is 0, right sides of 0 stay, and come from such ones
  pub own_zero : side_of rows old row ≡ pos 0 → side_of rows new row ≡ pos 0
  own_zero none = zero_factor scaled.by _ scaled.by_positive (scaled.numbers (rows.columns + length rows.lines) ∙ none)

  same_parts : (other : ℕ) (lt : other < length rows.lines + 2) (apart : other ≢ row) → side_of rows old row ≡ pos 0 → (cleared other lt apart).by *ℤ side_of rows new other ≡ (cleared other lt apart).own *ℤ side_of rows old other
  same_parts other lt apart none =
      let c : IsCleared (row_at old.table other) (row_at new.table other) (row_at old.table row) column = cleared other lt apart in
      c.numbers (rows.columns + length rows.lines) (last_in_row other lt) ∙ nothing _ _ (ap (λ z. c.other *ℤ z) none ∙ *ℤ-zero c.other)
    where
      nothing : (a b : ℤ) → b ≡ pos 0 → a -ℤ b ≡ a
      nothing a b e = omega (arith, ints)

  pub other_zero : (other : ℕ) → other < length rows.lines + 2 → other ≢ row → side_of rows old row ≡ pos 0 → side_of rows old other ≡ pos 0 → side_of rows new other ≡ pos 0
  other_zero other lt apart none e =
      zero_factor (cleared other lt apart).by _ (cleared other lt apart).by_positive (same_parts other lt apart none ∙ ap (λ z. (cleared other lt apart).own *ℤ z) e ∙ *ℤ-zero (cleared other lt apart).own)

  pub other_was_zero : (other : ℕ) → other < length rows.lines + 2 → other ≢ row → side_of rows old row ≡ pos 0 → side_of rows new other ≡ pos 0 → side_of rows old other ≡ pos 0
  other_was_zero other lt apart none e =
      zero_factor (cleared other lt apart).own _ (cleared other lt apart).own_positive (sym (same_parts other lt apart none) ∙ ap (λ z. (cleared other lt apart).by *ℤ z) e ∙ *ℤ-zero (cleared other lt apart).by)
