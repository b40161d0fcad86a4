-- The basic columns of a reached table are unit columns.
use Rattle.std.proofs.Common.{◌≡◌, ℕ, ◌+◌, ◌<◌, ◌≢◌, length, get_or, set, List, [], ◌∷◌, refl, pos, ◌*ℤ◌, ◌<ℤ◌, sym, ◌∙◌, ap, subst, inl, inr, arith, get_or-set_same, get_or-set_other}
use Rattle.std.proofs.lemmas.Int.{ints}
use Rattle.std.proofs.lemmas.Bool.{cases_eq}
use lib.IntN.{*ℤ-zero}
use Rattle.sums.proofs.Integers.{*ℤ_cancel, zero_factor}
use Rattle.sums.proofs.Places.{get_or-list_below}
use Rattle.sums.proofs.Naturals.{place_behind, sum_less_first}
use Rattle.frac_row.specs.declared.row.FracRow.{FracRow}
use Rattle.frac_row.specs.Row.{number_of, width_of}
use Rattle.row_store.specs.declared.problem.Rows.{Rows}
use Rattle.row_store.specs.Table.{row_at, number_at}
use Rattle.row_store.specs.Pivot.{pivoted}
use Rattle.row_store.specs.Problem.{IsProblem, first_table}
use Rattle.row_store.proofs.FirstTables.{number_one, number_zero, row_at-first_table}
use Rattle.row_store.proofs.PivotNumbers.{IsCleared, IsScaled, pivot_clears, pivot_scales}
use Rattle.row_store.specs.Steps.{stepped}
use Rattle.row_store.specs.declared.error.Place.{Place}
use Rattle.simplex_frac.specs.Tableaux.{Tableau, first_tableau, IsStep, after_step, tableau_after, AreSteps}
use Rattle.simplex_frac.specs.ReachedTables.{den_at, IsTableOf, HasUnitColumns, StepsHaveUnitColumns}
use Rattle.simplex_frac.proofs.FirstPoints.{number_first}
use Rattle.simplex_frac.proofs.ReachedPoints.{has_tables, phase_is, first_height}
use Rattle.simplex_frac.proofs.StepLaws.{IsUprightPivot, pivot_of_step}
use Rattle.simplex_frac.proofs.Uprights.{IsUpright, upright_den, upright_zero}

-- ---- a column of a row before and after a pivot
cleared_zero : (old new pivot_row : FracRow) (column k : ℕ) → IsCleared old new pivot_row column → k < width_of old → number_of old k ≡ pos 0 → number_of pivot_row k ≡ pos 0 → number_of new k ≡ pos 0
cleared_zero old new pivot_row column k c lt e f =
    zero_factor c.by (number_of new k) c.by_positive
    (omega (arith, ints, c.numbers k lt, ap (λ x. c.own *ℤ x) e ∙ *ℤ-zero c.own, ap (λ x. c.other *ℤ x) f ∙ *ℤ-zero c.other))

cleared_den : (old new pivot_row : FracRow) (column k : ℕ) → IsCleared old new pivot_row column → k < width_of old → number_of old k ≡ old.den → number_of pivot_row k ≡ pos 0 → number_of new k ≡ new.den
cleared_den old new pivot_row column k c lt e f =
    *ℤ_cancel c.by (number_of new k) new.den c.by_positive
    (omega (arith, ints, c.numbers k lt, c.den, ap (λ x. c.own *ℤ x) e, ap (λ x. c.other *ℤ x) f ∙ *ℤ-zero c.other))

cleared_column : (old new pivot_row : FracRow) (column : ℕ) → IsCleared old new pivot_row column → column < width_of old → number_of new column ≡ pos 0
cleared_column old new pivot_row column c lt =
    zero_factor c.by (number_of new column) c.by_positive (omega (arith, ints, c.numbers column lt, c.clears))

scaled_zero : (old new : FracRow) (column k : ℕ) → IsScaled old new column → number_of old k ≡ pos 0 → number_of new k ≡ pos 0
scaled_zero old new column k s e = zero_factor s.by (number_of new k) s.by_positive (s.numbers k ∙ e)

scaled_den : (old new : FracRow) (column : ℕ) → IsScaled old new column → number_of new column ≡ new.den
scaled_den old new column s = *ℤ_cancel s.by (number_of new column) new.den s.by_positive (s.numbers column ∙ sym s.den)

-- ---- the first table
first_units : (rows : Rows) → HasUnitColumns rows (first_tableau (first_table rows) rows.columns).table (first_tableau (first_table rows) rows.columns).basis
unfolding first_tableau
first_units rows = record { within = λ line lt. within line lt; own = λ line lt. own line lt; others = λ line row lt below apart. others line row lt below apart }
  where
    basic : (line : ℕ) → line < length rows.lines → get_or (first_tableau (first_table rows) rows.columns).basis line 0 ≡ rows.columns + line
    basic line lt = get_or-list_below (λ l. rows.columns + l) _ line 0 (subst (λ n. line < n) (sym (first_height rows)) lt)

    within : (line : ℕ) → line < length rows.lines → get_or (first_tableau (first_table rows) rows.columns).basis line 0 < rows.columns + length rows.lines
    within line lt = subst (λ c. c < rows.columns + length rows.lines) (sym (basic line lt)) (omega arith)

    own : (line : ℕ) → line < length rows.lines → number_at (first_table rows) line (get_or (first_tableau (first_table rows) rows.columns).basis line 0) ≡ den_at (first_table rows) line
    own line lt =
        ap (number_at (first_table rows) line) (basic line lt) ∙ number_first rows line (rows.columns + line) (omega arith) (omega arith)
        ∙ number_one rows line (rows.columns + line) (omega arith) (omega arith) (sum_less_first rows.columns line) ∙ sym (ap (λ r. r.den) (row_at-first_table rows line (omega arith)))

    others : (line row : ℕ) → line < length rows.lines → row < length rows.lines + 2 → row ≢ line → number_at (first_table rows) row (get_or (first_tableau (first_table rows) rows.columns).basis line 0) ≡ pos 0
    others line row lt below apart =
        ap (number_at (first_table rows) row) (basic line lt) ∙ number_first rows row (rows.columns + line) below (omega arith)
        ∙ number_zero rows row (rows.columns + line) (omega arith) (omega arith) (λ e. apart (place_behind rows.columns line row e))

-- ---- one pivot more
-- what a pivot needs: unit columns but for the pivot row's own, whose sign may be turned
record IsPivotOf (rows : Rows) (table : List FracRow) (basis : List ℕ) (row column : ℕ) : Type 0 where
  is : IsTableOf rows table basis
  within : (line : ℕ) → line < length rows.lines → get_or basis line 0 < rows.columns + length rows.lines
  own : (line : ℕ) → line < length rows.lines → line ≢ row → number_at table line (get_or basis line 0) ≡ den_at table line
  others : (line other : ℕ) → line < length rows.lines → other < length rows.lines + 2 → other ≢ line → number_at table other (get_or basis line 0) ≡ pos 0
  line : row < length rows.lines
  real : column < rows.columns
  positive : pos 0 <ℤ number_at table row column

units_next : (rows : Rows) (table : List FracRow) (basis : List ℕ) (row column : ℕ) → IsPivotOf rows table basis row column → HasUnitColumns rows (pivoted table row column) (set basis row column)
units_next rows table basis row column p = record { within = λ line lt. within line lt; own = λ line lt. own line lt; others = λ line other lt below apart. others line other lt below apart }
  where
    in_basis : row < length basis
    in_basis = subst (λ n. row < n) (sym p.is.basis_in) p.line

    in_table : (other : ℕ) → other < length rows.lines + 2 → other < length table
    in_table other lt = subst (λ n. other < n) (sym p.is.rows_in) lt

    in_row : (other k : ℕ) → other < length rows.lines + 2 → k < rows.columns + length rows.lines → k < width_of (row_at table other)
    in_row other k lt less =
        subst (λ n. k < n) (sym (p.is.is_table.same_width other (in_table other lt) ∙ p.is.columns_in)) (omega arith)

    scaled : IsScaled (row_at table row) (row_at (pivoted table row column) row) column
    scaled = pivot_scales table row column p.positive (in_table row (omega (arith, p.line)))

    cleared : (other : ℕ) → other < length rows.lines + 2 → other ≢ row → IsCleared (row_at table other) (row_at (pivoted table row column) other) (row_at table row) column
    cleared other lt apart = pivot_clears table row column other p.is.is_table p.positive (in_table other lt) apart

    here : get_or (set basis row column) row 0 ≡ column
    here = get_or-set_same basis row column 0 in_basis

    there : (line : ℕ) → line ≢ row → get_or (set basis row column) line 0 ≡ get_or basis line 0
    there line apart = get_or-set_other basis row line column 0 apart

    at_here : (P : ℕ → Type 0) (line : ℕ) → line ≡ row → P column → P (get_or (set basis row column) line 0)
    at_here P line same h = subst (λ l. P (get_or (set basis row column) l 0)) (sym same) (subst P (sym here) h)

    within : (line : ℕ) → line < length rows.lines → get_or (set basis row column) line 0 < rows.columns + length rows.lines
    within line lt = elim (cases_eq line row) [
      | inl same ↦ at_here (λ c. c < rows.columns + length rows.lines) line same (omega (arith, p.real))
      | inr apart ↦ subst (λ c. c < rows.columns + length rows.lines) (sym (there line apart)) (p.within line lt)
    ]

    own : (line : ℕ) → line < length rows.lines → number_at (pivoted table row column) line (get_or (set basis row column) line 0) ≡ den_at (pivoted table row column) line
    own line lt = elim (cases_eq line row) [
      | inl same ↦ at_here (λ c. number_at (pivoted table row column) line c ≡ den_at (pivoted table row column) line) line same
          (subst (λ l. number_at (pivoted table row column) l column ≡ den_at (pivoted table row column) l) (sym same) (scaled_den _ _ column scaled))
      | inr apart ↦ ap (number_at (pivoted table row column) line) (there line apart)
          ∙ cleared_den (row_at table line) _ (row_at table row) column (get_or basis line 0) (cleared line (omega arith) apart) (in_row line _ (omega arith) (p.within line lt))
          (p.own line lt apart) (p.others line row lt (omega (arith, p.line)) (λ e. apart (sym e)))
    ]

    others : (line other : ℕ) → line < length rows.lines → other < length rows.lines + 2 → other ≢ line → number_at (pivoted table row column) other (get_or (set basis row column) line 0) ≡ pos 0
    others line other lt below apart = elim (cases_eq line row) [
      | inl same ↦ at_here (λ c. number_at (pivoted table row column) other c ≡ pos 0) line same
          (cleared_column (row_at table other) _ (row_at table row) column (cleared other below (λ e. apart (e ∙ sym same))) (in_row other column below (omega (arith, p.real))))
      | inr away ↦ ap (number_at (pivoted table row column) other) (there line away) ∙ elim (cases_eq other row) [
        | inl same ↦ subst (λ r. number_at (pivoted table row column) r (get_or basis line 0) ≡ pos 0) (sym same)
            (scaled_zero _ _ column (get_or basis line 0) scaled (p.others line row lt (omega (arith, p.line)) (λ e. away (sym e))))
        | inr beside ↦ cleared_zero (row_at table other) _ (row_at table row) column (get_or basis line 0) (cleared other below beside) (in_row other _ below (p.within line lt))
            (p.others line other lt below apart) (p.others line row lt (omega (arith, p.line)) (λ e. away (sym e)))
      ]
    ]

-- ---- every step
pivot_of : (rows : Rows) (old table : List FracRow) (basis : List ℕ) (row column : ℕ) → IsTableOf rows old basis → HasUnitColumns rows old basis → row < length rows.lines → column < rows.columns → IsUpright old table row column → IsPivotOf rows table basis row column
pivot_of rows old table basis row column t units line real u = record {
  is = record {
    is_table = u.is_table;
    rows_in = u.height ∙ t.rows_in;
    columns_in = u.width ∙ t.columns_in;
    dens = λ other lt. subst (λ d. pos 0 <ℤ d) (sym (upright_den old table row column other u)) (t.dens other lt);
    basis_in = t.basis_in;
  };
  within = units.within;
  own = λ other lt apart. subst (λ r. number_of r (get_or basis other 0) ≡ r.den) (sym (u.others other apart)) (units.own other lt);
  others = λ other k lt below apart. upright_zero old table row column k (get_or basis other 0) u (units.others other k lt below apart);
  line = line;
  real = real;
  positive = u.positive;
}

units_step : (rows : Rows) (now : Tableau) (place : Place) → IsTableOf rows now.table now.basis → HasUnitColumns rows now.table now.basis → IsStep now.table rows.columns place.row place.column → HasUnitColumns rows (after_step now place).table (after_step now place).basis
unfolding after_step
units_step rows now place t units s =
    let p : IsUprightPivot now.table (stepped now.table place.row place.column) place.row place.column = pivot_of_step now.table rows.columns place.row place.column t.is_table s in
    subst (λ x. HasUnitColumns rows x (set now.basis place.row place.column)) (sym p.is)
    (units_next rows p.table now.basis place.row place.column (pivot_of rows now.table p.table now.basis place.row place.column t units (subst (λ n. place.row < n) (phase_is t) s.line) s.real p.upright))

units_after : (rows : Rows) (places : List Place) → IsProblem rows → AreSteps (first_table rows) rows.columns places → HasUnitColumns rows (tableau_after (first_table rows) rows.columns places).table (tableau_after (first_table rows) rows.columns places).basis
units_after rows [] h s = first_units rows
units_after rows (place ∷ before) h s =
    units_step rows (tableau_after (first_table rows) rows.columns before) place
    (has_tables rows (tableau_after (first_table rows) rows.columns before).table (tableau_after (first_table rows) rows.columns before).basis (record { problem = h; reached = record { places = before; steps = s.0; is = refl } }))
    (units_after rows before h s.0) s.1

pub has_unit_columns : StepsHaveUnitColumns
has_unit_columns rows table basis h = subst (λ t. HasUnitColumns rows t.table t.basis) h.reached.is (units_after rows h.reached.places h.problem h.reached.steps)
