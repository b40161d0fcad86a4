-- As one column rises, the basic columns answer it so that the lines stay met.
use Rattle.std.proofs.Common.{◌≡◌, ℕ, ◌+◌, ◌<◌, ◌≤◌, ◌≢◌, ◌==◌, length, List, ℤ, pos, ◌+ℤ◌, ◌-ℤ◌, ◌*ℤ◌, refl, ◌∙◌, ap, arith}
use Rattle.std.specs.Prelude.{neg_ℤ}
use Rattle.std.proofs.lemmas.Int.{ints}
use Rattle.std.proofs.lemmas.Bool.{eq-eqb, ne_eqb, cond-true, cond-false}
use lib.IntN.{*ℤ_comm, *ℤ-zero}
use Rattle.sums.specs.Below.{sum_below_ℤ}
use Rattle.sums.proofs.Integers.{*ℤ-+ℤ, neg_ℤ-*ℤ}
use Rattle.sums.proofs.WholeSums.{sum_below_ℤ-same}
use Rattle.sums.proofs.WholeSwaps.{where_true, sum_below_ℤ-one, sum_below_ℤ-+ℤ}
use Rattle.sums.proofs.WholeTerms.{*ℤ-where_true}
use Rattle.frac_row.specs.declared.row.FracRow.{FracRow}
use Rattle.row_store.specs.declared.problem.Rows.{Rows}
use Rattle.row_store.specs.Table.{row_at, number_at}
use Rattle.row_store.specs.Points.{surplus}
use Rattle.simplex_frac.specs.ReachedTables.{IsReachedBySteps}
use Rattle.simplex_frac.proofs.FirstPoints.{MeetsFirst}
use Rattle.simplex_frac.proofs.ReachedPoints.{point_of_first}
use Rattle.simplex_frac.proofs.BasicSums.{IsBasicTable, basic_table, basic, basic_point, basic_apart, sum_of_line, sum_below_lines, common_scale, scale_over, over_scale}
use Rattle.simplex_frac.proofs.BasicPoints.{nothing_at_place, one_at_place}

-- the column rises by the common scale, and the basic column of a line by
unfoldable pub rise_value : Rows → List FracRow → ℕ → ℕ → ℤ
rise_value rows table column line = neg_ℤ (number_at table line column) *ℤ scale_over table (length rows.lines) line

unfoldable pub rise_point : Rows → List FracRow → List ℕ → ℕ → ℕ → ℤ
rise_point rows table basis column c =
    basic_point basis (rise_value rows table column) (length rows.lines) c +ℤ where_true (column == c) (common_scale table (length rows.lines))

-- a sum over it: the basic part, and the column's own
rise_sum : (rows : Rows) (table : List FracRow) (basis : List ℕ) (column : ℕ) (f : ℕ → ℤ) → column < rows.columns
    → sum_below_ℤ (λ c. f c *ℤ rise_point rows table basis column c) (rows.columns + length rows.lines) ≡ sum_below_ℤ (λ c. f c *ℤ basic_point basis (rise_value rows table column) (length rows.lines) c) (rows.columns + length rows.lines) +ℤ (f column *ℤ common_scale table (length rows.lines))
unfolding rise_point
rise_sum rows table basis column f lt =
    sum_below_ℤ-same _ (λ c. (f c *ℤ basic_point basis (rise_value rows table column) (length rows.lines) c) +ℤ where_true (column == c) (f c *ℤ common_scale table (length rows.lines))) (rows.columns + length rows.lines)
    (λ c less. *ℤ-+ℤ (f c) (basic_point basis (rise_value rows table column) (length rows.lines) c) (where_true (column == c) (common_scale table (length rows.lines)))
    ∙ ap (λ x. (f c *ℤ basic_point basis (rise_value rows table column) (length rows.lines) c) +ℤ x) (*ℤ-where_true (f c) (column == c) (common_scale table (length rows.lines))))
    ∙ sum_below_ℤ-+ℤ (λ c. f c *ℤ basic_point basis (rise_value rows table column) (length rows.lines) c) (λ c. where_true (column == c) (f c *ℤ common_scale table (length rows.lines))) (rows.columns + length rows.lines)
    ∙ ap (λ x. sum_below_ℤ (λ c. f c *ℤ basic_point basis (rise_value rows table column) (length rows.lines) c) (rows.columns + length rows.lines) +ℤ x)
    (sum_below_ℤ-one column (λ c. f c *ℤ common_scale table (length rows.lines)) (rows.columns + length rows.lines) (omega arith))

rise_line : (rows : Rows) (table : List FracRow) (basis : List ℕ) (column line : ℕ) → IsBasicTable rows table basis → column < rows.columns → line < length rows.lines
    → surplus (row_at table line) (rows.columns + length rows.lines) (rise_point rows table basis column) (pos 0) ≡ pos 0
unfolding surplus rise_value
rise_line rows table basis column line t real lt =
    ap (λ x. x -ℤ (number_at table line (rows.columns + length rows.lines) *ℤ pos 0)) (rise_sum rows table basis column (number_at table line) real ∙ ap (λ x. x +ℤ (number_at table line column *ℤ common_scale table (length rows.lines)))
    (sum_of_line rows table basis (rise_value rows table column) line t lt ∙ over_scale rows table line (neg_ℤ (number_at table line column)) lt ∙ neg_ℤ-*ℤ (number_at table line column) (common_scale table (length rows.lines))))
    ∙ none (number_at table line column *ℤ common_scale table (length rows.lines)) _ (*ℤ-zero (number_at table line (rows.columns + length rows.lines)))
  where
    none : (a b : ℤ) → b ≡ pos 0 → (neg_ℤ a +ℤ a) -ℤ b ≡ pos 0
    none a b e = omega (arith, ints)

-- the rows below the lines come to their number in the column
pub rise_below : (rows : Rows) (table : List FracRow) (basis : List ℕ) (column row : ℕ) → IsBasicTable rows table basis → column < rows.columns → length rows.lines ≤ row → row < length rows.lines + 2
    → surplus (row_at table row) (rows.columns + length rows.lines) (rise_point rows table basis column) (pos 0) ≡ common_scale table (length rows.lines) *ℤ number_at table row column
unfolding surplus
rise_below rows table basis column row t real ge lt =
    ap (λ x. x -ℤ (number_at table row (rows.columns + length rows.lines) *ℤ pos 0)) (rise_sum rows table basis column (number_at table row) real ∙ ap (λ x. x +ℤ (number_at table row column *ℤ common_scale table (length rows.lines)))
    (sum_below_lines rows table basis (rise_value rows table column) row t ge lt))
    ∙ alone (number_at table row column *ℤ common_scale table (length rows.lines)) _ (*ℤ-zero (number_at table row (rows.columns + length rows.lines)))
    ∙ *ℤ_comm (number_at table row column) (common_scale table (length rows.lines))
  where
    alone : (a b : ℤ) → b ≡ pos 0 → (pos 0 +ℤ a) -ℤ b ≡ a
    alone a b e = omega (arith, ints)

pub rise_meets : (rows : Rows) (table : List FracRow) (basis : List ℕ) (column : ℕ) → IsReachedBySteps rows table basis → column < rows.columns → MeetsFirst rows (rise_point rows table basis column) (pos 0)
rise_meets rows table basis column h real =
    point_of_first rows table basis (rise_point rows table basis column) (pos 0) h (λ line lt. rise_line rows table basis column line (basic_table rows table basis h) real lt)

-- ---- column by column, where the one that rises is not basic
pub rise_at_column : (rows : Rows) (table : List FracRow) (basis : List ℕ) (column : ℕ) → ((line : ℕ) → line < length rows.lines → basic basis line ≢ column)
    → rise_point rows table basis column column ≡ common_scale table (length rows.lines)
unfolding rise_point basic_point
rise_at_column rows table basis column new =
    alone _ _ _ (nothing_at_place (basic basis) (rise_value rows table column) (length rows.lines) column (λ line lt same. absurd (new line lt same)))
    (cond-true (column == column) (common_scale table (length rows.lines)) (pos 0) (eq-eqb column column refl))
  where
    alone : (a b c : ℤ) → a ≡ pos 0 → b ≡ c → a +ℤ b ≡ c
    alone a b c e f = omega (arith, ints)

pub rise_elsewhere : (rows : Rows) (table : List FracRow) (basis : List ℕ) (column c : ℕ) → column ≢ c → ((line : ℕ) → line < length rows.lines → basic basis line ≢ c)
    → rise_point rows table basis column c ≡ pos 0
unfolding rise_point basic_point
rise_elsewhere rows table basis column c other new =
    neither _ _ (nothing_at_place (basic basis) (rise_value rows table column) (length rows.lines) c (λ line lt same. absurd (new line lt same)))
    (cond-false (column == c) (common_scale table (length rows.lines)) (pos 0) (ne_eqb column c other))
  where
    neither : (a b : ℤ) → a ≡ pos 0 → b ≡ pos 0 → a +ℤ b ≡ pos 0
    neither a b e f = omega (arith, ints)

pub rise_at_line : (rows : Rows) (table : List FracRow) (basis : List ℕ) (column line : ℕ) → IsBasicTable rows table basis → line < length rows.lines → column ≢ basic basis line
    → rise_point rows table basis column (basic basis line) ≡ neg_ℤ (number_at table line column) *ℤ scale_over table (length rows.lines) line
unfolding rise_point basic_point rise_value
rise_at_line rows table basis column line t lt other =
    first _ _ _ (one_at_place (basic basis) (rise_value rows table column) (length rows.lines) line lt (λ k below e. basic_apart rows table basis line k t lt below e))
    (cond-false (column == basic basis line) (common_scale table (length rows.lines)) (pos 0) (ne_eqb column (basic basis line) other))
  where
    first : (a b c : ℤ) → a ≡ c → b ≡ pos 0 → a +ℤ b ≡ c
    first a b c e f = omega (arith, ints)
