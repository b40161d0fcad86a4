-- The rows of the first table, filled column by column.
use Rattle.std.proofs.Common.{◌≡◌, ℕ, suc, ◌+◌, ◌-◌, ◌<◌, ◌≤◌, ◌≢◌, ℤ, pos, ◌+ℤ◌, List, [], length, get_or, set, neg_ℤ, replicate, inl, inr, refl, sym, ◌∙◌, ap, subst, arith, add-one}
use Rattle.std.proofs.lemmas.Bool.{cases_lt}
use Rattle.std.proofs.lemmas.List.{ext_get_or, get_or_past, length-replicate, get_or-replicate}
use Rattle.sums.specs.Below.{sum_below_ℤ}
use Rattle.sums.specs.Places.{list_below}
use Rattle.sums.proofs.Places.{length-list_below, get_or-list_below}
use Rattle.frac_row.specs.Outgrown.{IsWithin}
use Rattle.frac_row.specs.declared.row.FracRow.{FracRow}
use Rattle.frac_row.specs.Lines.{IsFilledRow}
use Rattle.frac_row.proofs.FilledRows.{filled_more, filled_row, filled_past, filled_as}
use Rattle.row_store.specs.declared.problem.Rows.{Rows}
use Rattle.row_store.specs.Problem.{entry, IsProblem, first_amount, first_number, first_row}
use Rattle.row_store.proofs.FirstTables.{amount_line, amount_phase, amount_cost, number_real, number_one, number_zero, number_right, part_within}

abbrev pub width_in : Rows → ℕ
width_in rows = rows.columns + length rows.lines + 1

-- ---- a line
pub line_begun : (rows : Rows) (line : ℕ) (numbers : List ℤ) (row : FracRow) (width : ℕ) → line < length rows.lines → numbers ≡ get_or rows.lines line [] → IsFilledRow row (λ column. get_or numbers column (pos 0)) width rows.columns → IsFilledRow row (first_number rows line) width (rows.columns + line)
line_begun rows line numbers row width lt e h =
    filled_past row (first_number rows line) width rows.columns (rows.columns + line)
    (filled_as row _ (first_number rows line) width rows.columns h (λ place below. ap (λ xs. get_or xs place (pos 0)) e ∙ sym (number_real rows line place below ∙ amount_line rows line place lt)))
    (omega arith)
    (λ place ge below. number_zero rows line place ge (omega arith) (apart place ge below))
  where
    apart : (place : ℕ) → rows.columns ≤ place → place < rows.columns + line → place - rows.columns ≢ line
    apart place ge below = omega arith

pub line_unit : (rows : Rows) (line : ℕ) (row new : FracRow) (width : ℕ) → line < length rows.lines → width ≡ width_in rows → IsFilledRow row (first_number rows line) width (rows.columns + line) → new ≡ record { numbers = set row.numbers (rows.columns + line) (pos 1); den = row.den } → IsFilledRow new (first_number rows line) width (rows.columns + length rows.lines)
line_unit rows line row new width lt e h same =
    filled_past new (first_number rows line) width (rows.columns + line + 1) (rows.columns + length rows.lines)
    (filled_more row new (first_number rows line) width (rows.columns + line) (pos 1) h (omega arith) (sym (number_one rows line (rows.columns + line) (omega arith) (omega arith) (omega arith))) same)
    (omega arith)
    (λ place ge below. number_zero rows line place (omega arith) below (apart place ge))
  where
    apart : (place : ℕ) → rows.columns + line + 1 ≤ place → place - rows.columns ≢ line
    apart place ge = omega arith

pub right_put : (rows : Rows) (r : ℕ) (row new : FracRow) (width : ℕ) (z : ℤ) → width ≡ width_in rows → IsFilledRow row (first_number rows r) width (rows.columns + length rows.lines) → z ≡ first_amount rows r rows.columns → new ≡ record { numbers = set row.numbers (rows.columns + length rows.lines) z; den = row.den } → new ≡ first_row rows r
right_put rows r row new width z e h is same =
    filled_row new (first_number rows r) width (rows.columns + length rows.lines + 1)
    (filled_more row new (first_number rows r) width (rows.columns + length rows.lines) z h (omega arith) (is ∙ sym (number_right rows r (rows.columns + length rows.lines) (omega arith))) same) (omega arith)
    ∙ ap (λ w. record { numbers = list_below (first_number rows r) w; den = pos 1 }) e

-- ---- the phase row and the cost row: no number stands in the identity block
pub past_identity : (rows : Rows) (r : ℕ) (row : FracRow) (width column : ℕ) → length rows.lines ≤ r → column ≡ rows.columns → IsFilledRow row (first_number rows r) width column → IsFilledRow row (first_number rows r) width (rows.columns + length rows.lines)
past_identity rows r row width column le e h =
    filled_past row (first_number rows r) width column (rows.columns + length rows.lines) h (omega arith)
    (λ place ge below. number_zero rows r place (omega arith) below (apart place ge below))
  where
    apart : (place : ℕ) → column ≤ place → place < rows.columns + length rows.lines → place - rows.columns ≢ r
    apart place ge below = omega arith

pub cost_done : (rows : Rows) (row : FracRow) (width column : ℕ) → IsProblem rows → width ≡ width_in rows → column ≡ rows.columns → IsFilledRow row (first_number rows (length rows.lines + 1)) width column → row ≡ first_row rows (length rows.lines + 1)
cost_done rows row width column p e same h =
    filled_row row (first_number rows (length rows.lines + 1)) width width
    (filled_past row (first_number rows (length rows.lines + 1)) width (rows.columns + length rows.lines) width (past_identity rows (length rows.lines + 1) row width column (omega arith) same h) (omega arith) (λ place ge below. number_right rows (length rows.lines + 1) place ge ∙ amount_cost rows (length rows.lines + 1) rows.columns (omega arith) ∙ get_or_past rows.costs rows.columns (pos 0) (omega (arith, p.costs)))) (omega arith)
    ∙ ap (λ w. record { numbers = list_below (first_number rows (length rows.lines + 1)) w; den = pos 1 }) e

pub cost_number : (rows : Rows) (column : ℕ) → column < rows.columns → get_or rows.costs column (pos 0) ≡ first_number rows (length rows.lines + 1) column
cost_number rows column lt = sym (number_real rows (length rows.lines + 1) column lt ∙ amount_cost rows (length rows.lines + 1) column (omega arith))

-- ---- the sums
abbrev pub column_sum : Rows → ℕ → ℕ → ℤ
column_sum rows lines column = sum_below_ℤ (λ line. entry rows line column) lines

pub phase_number : (rows : Rows) (column : ℕ) (z : ℤ) → column < rows.columns → z ≡ neg_ℤ (column_sum rows (length rows.lines) column) → z ≡ first_number rows (length rows.lines) column
phase_number rows column z lt e = e ∙ sym (number_real rows (length rows.lines) column lt ∙ amount_phase rows (length rows.lines) column refl)

pub phase_right : (rows : Rows) (z : ℤ) → z ≡ neg_ℤ (column_sum rows (length rows.lines) rows.columns) → z ≡ first_amount rows (length rows.lines) rows.columns
phase_right rows z e = e ∙ sym (amount_phase rows (length rows.lines) rows.columns refl)

pub sums_more : (rows : Rows) (line : ℕ) (numbers sums new : List ℤ) → numbers ≡ get_or rows.lines line [] → sums ≡ list_below (column_sum rows line) (rows.columns + 1) → new ≡ list_below (λ column. get_or sums column (pos 0) +ℤ get_or numbers column (pos 0)) (length sums) → new ≡ list_below (column_sum rows (line + 1)) (rows.columns + 1)
sums_more rows line numbers sums new e is same =
    same ∙ ext_get_or (pos 0) _ _ (length-list_below _ (length sums) ∙ ap length is ∙ length-list_below _ (rows.columns + 1) ∙ sym (length-list_below _ (rows.columns + 1)))
    (λ k lt. at_column k (rw length-list_below at lt))
  where
    at_column : (k : ℕ) → k < length sums → get_or (list_below (λ column. get_or sums column (pos 0) +ℤ get_or numbers column (pos 0)) (length sums)) k (pos 0) ≡ get_or (list_below (column_sum rows (line + 1)) (rows.columns + 1)) k (pos 0)
    at_column k lt =
        let within : k < rows.columns + 1 = rw (is, length-list_below) at lt in
        get_or-list_below _ (length sums) k (pos 0) lt
        ∙ ap (λ xs. get_or xs k (pos 0) +ℤ get_or numbers k (pos 0)) is ∙ ap (λ x. x +ℤ get_or numbers k (pos 0)) (get_or-list_below (column_sum rows line) (rows.columns + 1) k (pos 0) within)
        ∙ ap (λ xs. column_sum rows line k +ℤ get_or xs k (pos 0)) e ∙ ap (λ n. column_sum rows n k) (sym (add-one line))
        ∙ sym (get_or-list_below (column_sum rows (line + 1)) (rows.columns + 1) k (pos 0) within)

pub sums_none : (rows : Rows) (sums : List ℤ) (n : ℕ) → sums ≡ replicate n (pos 0) → sums ≡ list_below (column_sum rows 0) n
sums_none rows sums n e =
    e ∙ ext_get_or (pos 0) _ _ (length-replicate n (pos 0) ∙ sym (length-list_below (column_sum rows 0) n))
    (λ k lt. at_place k (rw length-replicate at lt))
  where
    at_place : (k : ℕ) → k < n → get_or (replicate n (pos 0)) k (pos 0) ≡ get_or (list_below (column_sum rows 0) n) k (pos 0)
    at_place k lt = get_or-replicate n k (pos 0) (pos 0) lt ∙ sym (get_or-list_below (column_sum rows 0) n k (pos 0) lt)

pub line_as_long : (rows : Rows) (line : ℕ) (numbers sums : List ℤ) → IsProblem rows → line < length rows.lines → numbers ≡ get_or rows.lines line [] → sums ≡ list_below (column_sum rows line) (rows.columns + 1) → length numbers ≡ length sums
line_as_long rows line numbers sums p lt e is = ap length e ∙ p.widths line [] lt ∙ sym (ap length is ∙ length-list_below _ (rows.columns + 1))

pub sums_fit : (rows : Rows) (line : ℕ) (numbers sums : List ℤ) (column : ℕ) → IsProblem rows → line < length rows.lines → numbers ≡ get_or rows.lines line [] → sums ≡ list_below (column_sum rows line) (rows.columns + 1) → IsWithin (get_or sums column (pos 0) +ℤ get_or numbers column (pos 0))
sums_fit rows line numbers sums column p lt e is =
    elim (cases_lt column (rows.columns + 1)) [
      | inl below ↦ subst IsWithin (sym (here below)) (part_within rows column (suc line) p (omega arith) (omega arith))
      | inr past ↦ subst IsWithin (sym (nothing past)) (omega arith)
    ]
  where
    here : column < rows.columns + 1 → get_or sums column (pos 0) +ℤ get_or numbers column (pos 0) ≡ column_sum rows (suc line) column
    here below =
        ap (λ xs. get_or xs column (pos 0) +ℤ get_or numbers column (pos 0)) is ∙ ap (λ x. x +ℤ get_or numbers column (pos 0)) (get_or-list_below (column_sum rows line) (rows.columns + 1) column (pos 0) below)
        ∙ ap (λ xs. column_sum rows line column +ℤ get_or xs column (pos 0)) e

    nothing : rows.columns + 1 ≤ column → get_or sums column (pos 0) +ℤ get_or numbers column (pos 0) ≡ pos 0
    nothing past =
        ap (λ x. x +ℤ get_or numbers column (pos 0)) (get_or_past sums column (pos 0) (rw (is, length-list_below) past))
        ∙ ap (λ x. pos 0 +ℤ x) (get_or_past numbers column (pos 0) (subst (λ n. n ≤ column) (sym (ap length e ∙ p.widths line [] lt)) past))
