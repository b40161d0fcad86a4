-- The numbers of the first table, and that it is a table.
use Rattle.std.proofs.Common.{◌≡◌, ℕ, ◌+◌, ◌-◌, ◌^◌, ◌<◌, ◌≤◌, ◌≢◌, Bool, true, false, cond, eqb, ltb, pos, List, length, get_or, unsigned_abs, refl, sym, ◌∙◌, ap, arith, inl, inr}
use Rattle.std.specs.Prelude.{neg_ℤ}
use Rattle.std.proofs.lemmas.Int.{ints}
use Rattle.std.proofs.lemmas.Bool.{cases_lt}
use Rattle.std.proofs.lemmas.Bool.Decides.{nat_tests}
use Rattle.std.proofs.lemmas.List.{get_or_past}
use Rattle.sums.specs.Below.{sum_below, sum_below_ℤ}
use Rattle.sums.specs.Places.{list_below}
use Rattle.sums.proofs.Places.{length-list_below, get_or-list_below}
use Rattle.sums.proofs.SumBounds.{sum_below-le, term_le, size-sum_below_ℤ}
use Rattle.sums.proofs.NumberTests.{if_apart, if_same}
use Rattle.frac_row.specs.Outgrown.{IsWithin}
use Rattle.frac_row.specs.Row.{width_of, IsRow}
use Rattle.frac_row.specs.declared.row.FracRow.{FracRow}
use Rattle.frac_row.proofs.Combinations.{opposite_within}
use Rattle.row_store.specs.declared.problem.Rows.{Rows}
use Rattle.row_store.specs.Table.{no_row, row_at, columns_of, HasColumns, IsTable}
use Rattle.row_store.specs.Problem.{entry, IsProblem, first_amount, first_number, first_row, first_table}

when_lt : {X : Type 0} (m n : ℕ) (x y : X) → m < n → cond (ltb m n) x y ≡ x
when_lt m n x y h = grind (arith, nat_tests)

when_ge : {X : Type 0} (m n : ℕ) (x y : X) → n ≤ m → cond (ltb m n) x y ≡ y
when_ge m n x y h = grind (arith, nat_tests)

-- ---- amounts
pub amount_line : (rows : Rows) (row column : ℕ) → row < length rows.lines → first_amount rows row column ≡ entry rows row column
unfolding first_amount
amount_line rows row column h = when_lt row (length rows.lines) _ _ h

pub amount_phase : (rows : Rows) (row column : ℕ) → row ≡ length rows.lines → first_amount rows row column ≡ neg_ℤ (sum_below_ℤ (λ line. entry rows line column) (length rows.lines))
unfolding first_amount
amount_phase rows row column h = when_ge row (length rows.lines) _ _ (omega arith) ∙ if_same row (length rows.lines) _ _ h

pub amount_cost : (rows : Rows) (row column : ℕ) → length rows.lines < row → first_amount rows row column ≡ get_or rows.costs column (pos 0)
unfolding first_amount
amount_cost rows row column h = when_ge row (length rows.lines) _ _ (omega arith) ∙ if_apart row (length rows.lines) _ _ (omega arith)

-- ---- numbers
pub number_real : (rows : Rows) (row column : ℕ) → column < rows.columns → first_number rows row column ≡ first_amount rows row column
unfolding first_number
number_real rows row column h = when_lt column rows.columns _ _ h

pub number_one : (rows : Rows) (row column : ℕ) → rows.columns ≤ column → column < rows.columns + length rows.lines → column - rows.columns ≡ row → first_number rows row column ≡ pos 1
unfolding first_number
number_one rows row column h k e =
    when_ge column rows.columns _ _ h ∙ when_lt column (rows.columns + length rows.lines) _ _ k ∙ if_same (column - rows.columns) row _ _ e

pub number_zero : (rows : Rows) (row column : ℕ) → rows.columns ≤ column → column < rows.columns + length rows.lines → column - rows.columns ≢ row → first_number rows row column ≡ pos 0
unfolding first_number
number_zero rows row column h k e =
    when_ge column rows.columns _ _ h ∙ when_lt column (rows.columns + length rows.lines) _ _ k ∙ if_apart (column - rows.columns) row _ _ e

pub number_right : (rows : Rows) (row column : ℕ) → rows.columns + length rows.lines ≤ column → first_number rows row column ≡ first_amount rows row rows.columns
unfolding first_number
number_right rows row column h =
    when_ge column rows.columns _ _ (omega arith) ∙ when_ge column (rows.columns + length rows.lines) _ _ h

-- ---- sizes
pub entry_within : (rows : Rows) (line column : ℕ) → IsProblem rows → line < length rows.lines → column ≤ rows.columns → IsWithin (entry rows line column)
entry_within rows line column h lt le =
    let term : unsigned_abs (entry rows line column) ≤ sum_below (λ i. unsigned_abs (entry rows i column)) (length rows.lines) = term_le (λ i. unsigned_abs (entry rows i column)) line (length rows.lines) lt in
    let total : sum_below (λ i. unsigned_abs (entry rows i column)) (length rows.lines) ≤ 2 ^ 127 - 1 = h.sums_within column le in
    omega arith

-- each sum on the way to a column's sum is within the limit
pub part_within : (rows : Rows) (column line : ℕ) → IsProblem rows → column ≤ rows.columns → line ≤ length rows.lines → IsWithin (sum_below_ℤ (λ i. entry rows i column) line)
part_within rows column line h le k =
    let size : unsigned_abs (sum_below_ℤ (λ i. entry rows i column) line) ≤ sum_below (λ i. unsigned_abs (entry rows i column)) line = size-sum_below_ℤ (λ i. entry rows i column) line in
    let part : sum_below (λ i. unsigned_abs (entry rows i column)) line ≤ sum_below (λ i. unsigned_abs (entry rows i column)) (length rows.lines) = sum_below-le (λ i. unsigned_abs (entry rows i column)) line (length rows.lines) k in
    let total : sum_below (λ i. unsigned_abs (entry rows i column)) (length rows.lines) ≤ 2 ^ 127 - 1 = h.sums_within column le in
    omega arith

cost_within : (rows : Rows) (column : ℕ) → IsProblem rows → IsWithin (get_or rows.costs column (pos 0))
cost_within rows column h =
    elim (cases_lt column (length rows.costs)) [ inl lt ↦ h.costs_within column (pos 0) lt | inr ge ↦ rw (get_or_past rows.costs column (pos 0) ge) (omega arith) ]

amount_within : (rows : Rows) (row column : ℕ) → IsProblem rows → column ≤ rows.columns → IsWithin (first_amount rows row column)
amount_within rows row column h le =
    elim (cases_lt row (length rows.lines)) [
      | inl lt ↦ rw (amount_line rows row column lt) (entry_within rows row column h lt le)
      | inr ge ↦ elim (cases_lt (length rows.lines) row) [
        | inl above ↦ rw (amount_cost rows row column above) (cost_within rows column h)
        | inr same ↦ rw (amount_phase rows row column (omega arith)) (opposite_within _ (part_within rows column (length rows.lines) h le (omega arith)))
      ]
    ]

number_within : (rows : Rows) (row column : ℕ) → IsProblem rows → IsWithin (first_number rows row column)
number_within rows row column h =
    elim (cases_lt column rows.columns) [
      | inl real ↦ rw (number_real rows row column real) (amount_within rows row column h (omega arith))
      | inr ge ↦ elim (cases_lt column (rows.columns + length rows.lines)) [
        | inl identity ↦ unit (eqb (column - rows.columns) row) refl ge identity
        | inr right ↦ rw (number_right rows row column right) (amount_within rows row rows.columns h (omega arith))
      ]
    ]
  where
    unit : (b : Bool) → b ≡ eqb (column - rows.columns) row → rows.columns ≤ column → column < rows.columns + length rows.lines → IsWithin (first_number rows row column)
    unit true e ge lt = rw (number_one rows row column ge lt (grind (arith, nat_tests))) (omega arith)
    unit false e ge lt = rw (number_zero rows row column ge lt (grind (arith, nat_tests))) (omega arith)

-- ---- the table
pub width_of-first_row : (rows : Rows) (row : ℕ) → width_of (first_row rows row) ≡ rows.columns + length rows.lines + 1
width_of-first_row rows row = length-list_below (first_number rows row) (rows.columns + length rows.lines + 1)

first_is_row : (rows : Rows) (row : ℕ) → IsProblem rows → IsRow (first_row rows row)
first_is_row rows row h = record {
  within = λ k. elim (cases_lt k (rows.columns + length rows.lines + 1)) [
    | inl lt ↦ rw (get_or-list_below (first_number rows row) (rows.columns + length rows.lines + 1) k (pos 0) lt) (number_within rows row k h)
    | inr ge ↦ rw (get_or_past (list_below (first_number rows row) (rows.columns + length rows.lines + 1)) k (pos 0) (rw (length-list_below (first_number rows row) (rows.columns + length rows.lines + 1)) ge)) (omega arith)
  ];
  den_within = omega arith;
  positive = omega (arith, ints);
}

pub length-first_table : (rows : Rows) → length (first_table rows) ≡ length rows.lines + 2
unfolding first_table
length-first_table rows = length-list_below (first_row rows) (length rows.lines + 2)

pub row_at-first_table : (rows : Rows) (row : ℕ) → row < length rows.lines + 2 → row_at (first_table rows) row ≡ first_row rows row
unfolding first_table
row_at-first_table rows row lt = get_or-list_below (first_row rows) (length rows.lines + 2) row no_row lt

pub columns_of-first_table : (rows : Rows) → columns_of (first_table rows) ≡ rows.columns + length rows.lines + 1
columns_of-first_table rows = ap width_of (row_at-first_table rows 0 (omega arith)) ∙ width_of-first_row rows 0

pub first_is_table : (rows : Rows) → IsProblem rows → IsTable (first_table rows)
first_is_table rows h = record {
  tall = rw (length-first_table rows) (omega arith);
  few_rows = rw (length-first_table rows) (omega (arith, h.few));
  few_columns = rw (columns_of-first_table rows) (omega (arith, h.few));
  identity = rw (length-first_table rows, columns_of-first_table rows) (omega arith);
  same_width = λ row lt. width row (rw (length-first_table rows) at lt);
  rows = λ row lt. is_row row (rw (length-first_table rows) at lt);
}
  where
    width : (row : ℕ) → row < length rows.lines + 2 → width_of (row_at (first_table rows) row) ≡ columns_of (first_table rows)
    width row lt = ap width_of (row_at-first_table rows row lt) ∙ width_of-first_row rows row ∙ sym (columns_of-first_table rows)

    is_row : (row : ℕ) → row < length rows.lines + 2 → IsRow (row_at (first_table rows) row)
    is_row row lt = rw (row_at-first_table rows row lt) (first_is_row rows row h)

-- its columns are the real ones, the identity block, the right side
pub first_has_columns : (rows : Rows) (table : List FracRow) → table ≡ first_table rows → HasColumns table rows.columns
first_has_columns rows table e =
    let width : columns_of table ≡ rows.columns + length rows.lines + 1 = ap columns_of e ∙ columns_of-first_table rows in
    let tall : length table ≡ length rows.lines + 2 = ap length e ∙ length-first_table rows in
    omega arith
