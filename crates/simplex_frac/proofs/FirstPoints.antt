-- What the rows of the first table come to at a point.
use Rattle.std.proofs.Common.{◌≡◌, ℕ, ◌+◌, ◌-◌, ◌<◌, ◌≤◌, ◌==◌, ltb, cond, length, get_or, ℤ, pos, ◌+ℤ◌, ◌-ℤ◌, ◌*ℤ◌, refl, sym, ◌∙◌, ap, inl, inr, arith}
use Rattle.std.specs.Prelude.{neg_ℤ}
use Rattle.std.proofs.lemmas.Int.{ints}
use Rattle.std.proofs.lemmas.Bool.{cases_eq, eq-eqb, ne_eqb, lt-ltb, le-ltb, cond-true, cond-false}
use Rattle.std.proofs.lemmas.List.{get_or_past}
use lib.IntN.{zero-*ℤ}
use Rattle.sums.specs.Below.{sum_below_ℤ}
use Rattle.sums.proofs.Integers.{one-*ℤ, neg_ℤ-*ℤ}
use Rattle.sums.proofs.Places.{get_or-list_below}
use Rattle.sums.proofs.WholeSums.{sum_below_ℤ-same, sum_below_ℤ--ℤ}
use Rattle.sums.proofs.WholeSwaps.{where_true, sum_below_ℤ-one, sum_below_ℤ-swap, sum_below_ℤ-zero}
use Rattle.sums.proofs.WholeTerms.{sum_below_ℤ-stretches, sum_below_ℤ-*ℤ, sum_below_ℤ-neg}
use Rattle.sums.proofs.Naturals.{past_is_other, place_behind, sum_less_first}
use Rattle.frac_row.specs.declared.row.FracRow.{FracRow}
use Rattle.frac_row.specs.Row.{number_of}
use Rattle.row_store.specs.declared.problem.Rows.{Rows}
use Rattle.row_store.specs.Table.{row_at, number_at}
use Rattle.row_store.specs.Points.{surplus}
use Rattle.row_store.specs.Problem.{entry, IsProblem, first_amount, first_number, first_table}
use Rattle.row_store.proofs.FirstTables.{amount_line, amount_phase, amount_cost, number_real, number_one, number_zero, number_right, row_at-first_table}

-- ---- a point by its real part and its identity part
unfoldable pub joined : ℕ → (ℕ → ℤ) → (ℕ → ℤ) → ℕ → ℤ
joined columns real identity column = cond (ltb column columns) (real column) (identity (column - columns))

pub joined-real : (columns : ℕ) (real identity : ℕ → ℤ) (column : ℕ) → column < columns → joined columns real identity column ≡ real column
unfolding joined
joined-real columns real identity column lt = cond-true (ltb column columns) (real column) (identity (column - columns)) (lt-ltb column columns lt)

pub joined-identity : (columns : ℕ) (real identity : ℕ → ℤ) (line : ℕ) → joined columns real identity (columns + line) ≡ identity line
unfolding joined
joined-identity columns real identity line =
    cond-false (ltb (columns + line) columns) (real (columns + line)) (identity (columns + line - columns)) (le-ltb (columns + line) columns (omega arith))
    ∙ ap identity (sum_less_first columns line)

-- what the real columns of a row come to, and its identity columns
unfoldable pub real_sum : FracRow → ℕ → (ℕ → ℤ) → ℤ
real_sum row columns point = sum_below_ℤ (λ column. number_of row column *ℤ point column) columns

unfoldable pub identity_sum : FracRow → ℕ → ℕ → (ℕ → ℤ) → ℤ
identity_sum row columns lines point = sum_below_ℤ (λ line. number_of row (columns + line) *ℤ point (columns + line)) lines

pub surplus_parts : (row : FracRow) (columns lines : ℕ) (point : ℕ → ℤ) (scale : ℤ) → surplus row (columns + lines) point scale ≡ (real_sum row columns point +ℤ identity_sum row columns lines point) -ℤ (number_of row (columns + lines) *ℤ scale)
unfolding surplus real_sum identity_sum
surplus_parts row columns lines point scale =
    ap (λ x. x -ℤ (number_of row (columns + lines) *ℤ scale)) (sum_below_ℤ-stretches (λ column. number_of row column *ℤ point column) columns lines)

-- ---- the first table
-- what the real columns of a line come to
unfoldable pub line_sum : Rows → (ℕ → ℤ) → ℕ → ℤ
line_sum rows point line = sum_below_ℤ (λ column. entry rows line column *ℤ point column) rows.columns

-- what a point costs
unfoldable pub cost_sum : Rows → (ℕ → ℤ) → ℤ
cost_sum rows point = sum_below_ℤ (λ column. get_or rows.costs column (pos 0) *ℤ point column) rows.columns

-- what stands in the identity columns in all
unfoldable pub rest_sum : Rows → (ℕ → ℤ) → ℤ
rest_sum rows point = sum_below_ℤ (λ line. point (rows.columns + line)) (length rows.lines)

-- each line and its identity column come to its right side
pub record MeetsFirst (rows : Rows) (point : ℕ → ℤ) (scale : ℤ) : Type 0 where
  pub each : (line : ℕ) → line < length rows.lines → line_sum rows point line +ℤ point (rows.columns + line) ≡ entry rows line rows.columns *ℤ scale

pub number_first : (rows : Rows) (row column : ℕ) → row < length rows.lines + 2 → column < rows.columns + length rows.lines + 1 → number_at (first_table rows) row column ≡ first_number rows row column
number_first rows row column lt le =
    ap (λ r. number_of r column) (row_at-first_table rows row lt) ∙ get_or-list_below (first_number rows row) (rows.columns + length rows.lines + 1) column (pos 0) le

real_first : (rows : Rows) (row : ℕ) (point : ℕ → ℤ) → row < length rows.lines + 2 → real_sum (row_at (first_table rows) row) rows.columns point ≡ sum_below_ℤ (λ column. first_amount rows row column *ℤ point column) rows.columns
unfolding real_sum
real_first rows row point lt =
    sum_below_ℤ-same _ _ rows.columns (λ column real. ap (λ x. x *ℤ point column) (number_first rows row column lt (omega arith) ∙ number_real rows row column real))

identity_number : (rows : Rows) (row line : ℕ) (z : ℤ) → row < length rows.lines + 2 → line < length rows.lines → number_at (first_table rows) row (rows.columns + line) *ℤ z ≡ where_true (row == line) z
identity_number rows row line z lt below = elim (cases_eq row line) [
  | inl same ↦ ap (λ x. x *ℤ z) (number_first rows row (rows.columns + line) lt (omega arith) ∙ number_one rows row (rows.columns + line) (omega arith) (omega arith) (back rows.columns line row same)) ∙ one-*ℤ z
      ∙ sym (cond-true (row == line) z (pos 0) (eq-eqb row line same))
  | inr apart ↦ ap (λ x. x *ℤ z) (number_first rows row (rows.columns + line) lt (omega arith) ∙ number_zero rows row (rows.columns + line) (omega arith) (omega arith) (λ e. apart (place_behind rows.columns line row e))) ∙ zero-*ℤ z
      ∙ sym (cond-false (row == line) z (pos 0) (ne_eqb row line apart))
]
  where
    back : (n line row : ℕ) → row ≡ line → n + line - n ≡ row
    back n line row e = omega arith

identity_line : (rows : Rows) (row : ℕ) (point : ℕ → ℤ) → row < length rows.lines → identity_sum (row_at (first_table rows) row) rows.columns (length rows.lines) point ≡ point (rows.columns + row)
unfolding identity_sum
identity_line rows row point lt =
    sum_below_ℤ-same _ (λ line. where_true (row == line) (point (rows.columns + line))) (length rows.lines) (λ line below. identity_number rows row line (point (rows.columns + line)) (omega arith) below)
    ∙ sum_below_ℤ-one row (λ line. point (rows.columns + line)) (length rows.lines) lt

identity_below : (rows : Rows) (row : ℕ) (point : ℕ → ℤ) → length rows.lines ≤ row → row < length rows.lines + 2 → identity_sum (row_at (first_table rows) row) rows.columns (length rows.lines) point ≡ pos 0
unfolding identity_sum
identity_below rows row point ge lt =
    sum_below_ℤ-same _ (λ line. pos 0) (length rows.lines) (λ line below. identity_number rows row line (point (rows.columns + line)) lt below ∙ cond-false (row == line) (point (rows.columns + line)) (pos 0) (ne_eqb row line (λ e. past_is_other row line (length rows.lines) ge below e)))
    ∙ sum_below_ℤ-zero (length rows.lines)

pub right_first : (rows : Rows) (row : ℕ) → row < length rows.lines + 2 → number_at (first_table rows) row (rows.columns + length rows.lines) ≡ first_amount rows row rows.columns
right_first rows row lt = number_first rows row (rows.columns + length rows.lines) lt (omega arith) ∙ number_right rows row (rows.columns + length rows.lines) (omega arith)

pub surplus_line : (rows : Rows) (row : ℕ) (point : ℕ → ℤ) (scale : ℤ) → row < length rows.lines → surplus (row_at (first_table rows) row) (rows.columns + length rows.lines) point scale ≡ (line_sum rows point row +ℤ point (rows.columns + row)) -ℤ (entry rows row rows.columns *ℤ scale)
unfolding line_sum
surplus_line rows row point scale lt =
    surplus_parts (row_at (first_table rows) row) rows.columns (length rows.lines) point scale
    ∙ ap (λ x. (x +ℤ identity_sum (row_at (first_table rows) row) rows.columns (length rows.lines) point) -ℤ (number_at (first_table rows) row (rows.columns + length rows.lines) *ℤ scale))
    (real_first rows row point (omega arith) ∙ sum_below_ℤ-same _ _ rows.columns (λ column real. ap (λ x. x *ℤ point column) (amount_line rows row column lt)))
    ∙ ap (λ x. (sum_below_ℤ (λ column. entry rows row column *ℤ point column) rows.columns +ℤ x) -ℤ (number_at (first_table rows) row (rows.columns + length rows.lines) *ℤ scale)) (identity_line rows row point lt)
    ∙ ap (λ x. (sum_below_ℤ (λ column. entry rows row column *ℤ point column) rows.columns +ℤ point (rows.columns + row)) -ℤ (x *ℤ scale)) (right_first rows row (omega arith) ∙ amount_line rows row rows.columns lt)

-- the rows below the lines
surplus_below : (rows : Rows) (row : ℕ) (point : ℕ → ℤ) (scale : ℤ) → length rows.lines ≤ row → row < length rows.lines + 2 → surplus (row_at (first_table rows) row) (rows.columns + length rows.lines) point scale ≡ sum_below_ℤ (λ column. first_amount rows row column *ℤ point column) rows.columns -ℤ (first_amount rows row rows.columns *ℤ scale)
surplus_below rows row point scale ge lt =
    surplus_parts (row_at (first_table rows) row) rows.columns (length rows.lines) point scale
    ∙ ap (λ x. (x +ℤ identity_sum (row_at (first_table rows) row) rows.columns (length rows.lines) point) -ℤ (number_at (first_table rows) row (rows.columns + length rows.lines) *ℤ scale)) (real_first rows row point lt)
    ∙ ap (λ x. (sum_below_ℤ (λ column. first_amount rows row column *ℤ point column) rows.columns +ℤ x) -ℤ (number_at (first_table rows) row (rows.columns + length rows.lines) *ℤ scale)) (identity_below rows row point ge lt)
    ∙ ap (λ x. (sum_below_ℤ (λ column. first_amount rows row column *ℤ point column) rows.columns +ℤ pos 0) -ℤ (x *ℤ scale)) (right_first rows row lt)
    ∙ ap (λ x. x -ℤ (first_amount rows row rows.columns *ℤ scale)) (nothing _)
  where
    nothing : (x : ℤ) → x +ℤ pos 0 ≡ x
    nothing x = omega (arith, ints)

pub surplus_cost : (rows : Rows) (point : ℕ → ℤ) (scale : ℤ) → IsProblem rows → surplus (row_at (first_table rows) (length rows.lines + 1)) (rows.columns + length rows.lines) point scale ≡ cost_sum rows point
unfolding cost_sum
surplus_cost rows point scale h =
    surplus_below rows (length rows.lines + 1) point scale (omega arith) (omega arith)
    ∙ ap (λ x. x -ℤ (first_amount rows (length rows.lines + 1) rows.columns *ℤ scale)) (sum_below_ℤ-same _ _ rows.columns (λ column real. ap (λ x. x *ℤ point column) (amount_cost rows (length rows.lines + 1) column (omega arith))))
    ∙ ap (λ x. sum_below_ℤ (λ column. get_or rows.costs column (pos 0) *ℤ point column) rows.columns -ℤ x)
    (ap (λ x. x *ℤ scale) (amount_cost rows (length rows.lines + 1) rows.columns (omega arith) ∙ get_or_past rows.costs rows.columns (pos 0) (rw h.costs (omega arith))) ∙ zero-*ℤ scale)
    ∙ nothing _
  where
    nothing : (x : ℤ) → x -ℤ pos 0 ≡ x
    nothing x = omega (arith, ints)

-- the lines one after another, each as the phase row has it
column_total : (rows : Rows) (point : ℕ → ℤ) → sum_below_ℤ (λ column. first_amount rows (length rows.lines) column *ℤ point column) rows.columns ≡ neg_ℤ (sum_below_ℤ (line_sum rows point) (length rows.lines))
unfolding line_sum
column_total rows point =
    sum_below_ℤ-same _ (λ column. neg_ℤ (sum_below_ℤ (λ line. entry rows line column *ℤ point column) (length rows.lines))) rows.columns
    (λ column real. ap (λ x. x *ℤ point column) (amount_phase rows (length rows.lines) column refl) ∙ neg_ℤ-*ℤ (sum_below_ℤ (λ line. entry rows line column) (length rows.lines)) (point column)
    ∙ ap neg_ℤ (sum_below_ℤ-*ℤ (λ line. entry rows line column) (point column) (length rows.lines)))
    ∙ sum_below_ℤ-neg (λ column. sum_below_ℤ (λ line. entry rows line column *ℤ point column) (length rows.lines)) rows.columns
    ∙ ap neg_ℤ (sum_below_ℤ-swap (λ column line. entry rows line column *ℤ point column) (length rows.lines) rows.columns)

right_total : (rows : Rows) (scale : ℤ) → first_amount rows (length rows.lines) rows.columns *ℤ scale ≡ neg_ℤ (sum_below_ℤ (λ line. entry rows line rows.columns *ℤ scale) (length rows.lines))
right_total rows scale =
    ap (λ x. x *ℤ scale) (amount_phase rows (length rows.lines) rows.columns refl) ∙ neg_ℤ-*ℤ (sum_below_ℤ (λ line. entry rows line rows.columns) (length rows.lines)) scale
    ∙ ap neg_ℤ (sum_below_ℤ-*ℤ (λ line. entry rows line rows.columns) scale (length rows.lines))

-- where the lines are met, the phase row comes to what stands in the identity columns
pub surplus_phase : (rows : Rows) (point : ℕ → ℤ) (scale : ℤ) → MeetsFirst rows point scale → surplus (row_at (first_table rows) (length rows.lines)) (rows.columns + length rows.lines) point scale ≡ rest_sum rows point
unfolding rest_sum
surplus_phase rows point scale h =
    surplus_below rows (length rows.lines) point scale (omega arith) (omega arith)
    ∙ ap (λ x. x -ℤ (first_amount rows (length rows.lines) rows.columns *ℤ scale)) (column_total rows point)
    ∙ ap (λ x. neg_ℤ (sum_below_ℤ (line_sum rows point) (length rows.lines)) -ℤ x) (right_total rows scale)
    ∙ turned (sum_below_ℤ (line_sum rows point) (length rows.lines)) (sum_below_ℤ (λ line. entry rows line rows.columns *ℤ scale) (length rows.lines))
    ∙ sym (sum_below_ℤ--ℤ (λ line. entry rows line rows.columns *ℤ scale) (line_sum rows point) (length rows.lines))
    ∙ sum_below_ℤ-same _ _ (length rows.lines) (λ line lt. rest (line_sum rows point line) (point (rows.columns + line)) (entry rows line rows.columns *ℤ scale) (h.each line lt))
  where
    turned : (a b : ℤ) → neg_ℤ a -ℤ neg_ℤ b ≡ b -ℤ a
    turned a b = omega (arith, ints)

    rest : (a b c : ℤ) → a +ℤ b ≡ c → c -ℤ a ≡ b
    rest a b c e = omega (arith, ints)
