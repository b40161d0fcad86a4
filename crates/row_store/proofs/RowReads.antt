-- Rows that are read from a table, and rows that are still as they were while others are written.
use Rattle.std.proofs.Common.{◌≡◌, ℕ, ◌<◌, ◌≤◌, pos, ◌<ℤ◌, List, length, get_or, sym, ◌∙◌, ap, subst, arith}
use Rattle.std.proofs.lemmas.List.{get_or_read}
use Rattle.sums.specs.Places.{IsFilledBelow}
use Rattle.frac_row.specs.declared.row.FracRow.{FracRow}
use Rattle.frac_row.specs.Row.{number_of, width_of, IsRow}
use Rattle.row_store.specs.Table.{no_row, row_at, number_at, columns_of, IsTable}

-- a row that is still as it was
pub still : (table rows : List FracRow) (f : ℕ → FracRow) (n : ℕ) (x : FracRow) → IsFilledBelow no_row f table rows n → n < length table → x ≡ get_or rows n x → x ≡ row_at table n
still table rows f n x h lt e = get_or_read rows n x (rw h.same_length lt) e no_row ∙ h.kept n (same_is_most n)
  where
    same_is_most : (n : ℕ) → n ≤ n
    same_is_most n = omega arith

-- what equals a row of a table is a row
pub is_row : (table : List FracRow) (n : ℕ) (x : FracRow) → IsTable table → n < length table → x ≡ row_at table n → IsRow x
is_row table n x h lt e = subst IsRow (sym e) (h.rows n lt)

-- .. of the table's width
pub is_wide : (table : List FracRow) (n : ℕ) (x : FracRow) → IsTable table → n < length table → x ≡ row_at table n → width_of x ≡ columns_of table
is_wide table n x h lt e = ap width_of e ∙ h.same_width n lt

-- .. so it has each column of the table
pub has_column : (table : List FracRow) (n column : ℕ) (x : FracRow) → IsTable table → n < length table → column < columns_of table → x ≡ row_at table n → column < width_of x
has_column table n column x h lt in_row e = subst (λ w. column < w) (sym (is_wide table n x h lt e)) in_row

-- two of them have one width
pub as_wide : (table : List FracRow) (m n : ℕ) (x y : FracRow) → IsTable table → m < length table → n < length table → x ≡ row_at table m → y ≡ row_at table n → width_of x ≡ width_of y
as_wide table m n x y h lt below e same = is_wide table m x h lt e ∙ sym (is_wide table n y h below same)

-- what equals the pivot row has the number above 0
pub is_positive_at : (table : List FracRow) (n column : ℕ) (x : FracRow) → pos 0 <ℤ number_at table n column → x ≡ row_at table n → pos 0 <ℤ number_of x column
is_positive_at table n column x some e = subst (λ r. pos 0 <ℤ number_of r column) (sym e) some
