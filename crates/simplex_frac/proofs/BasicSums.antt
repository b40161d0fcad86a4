-- What the rows of a table come to where the basic columns alone have something.
use Rattle.std.proofs.Common.{◌≡◌, ℕ, ◌+◌, ◌<◌, ◌≤◌, ◌==◌, length, get_or, List, ℤ, pos, ◌-ℤ◌, ◌*ℤ◌, ◌<ℤ◌, sym, ◌∙◌, ap, subst, inl, inr, arith}
use Rattle.std.proofs.lemmas.Bool.{cases_eq, eq-eqb, ne_eqb, cond-true, cond-false}
use lib.IntN.{*ℤ_comm, zero-*ℤ}
use Rattle.sums.specs.Below.{sum_below_ℤ}
use Rattle.sums.proofs.Integers.{*ℤ_left_comm}
use Rattle.sums.proofs.Products.{product_below, product_beside, product_positive, beside_positive, beside_times}
use Rattle.sums.proofs.WholeSums.{sum_below_ℤ-same}
use Rattle.sums.proofs.WholeSwaps.{where_true, sum_below_ℤ-one, sum_below_ℤ-zero}
use Rattle.sums.proofs.WholeTerms.{at_place, over_each}
use Rattle.sums.proofs.Naturals.{past_is_other}
use Rattle.sums.proofs.Sizes.{above_is_other}
use Rattle.frac_row.specs.declared.row.FracRow.{FracRow}
use Rattle.row_store.specs.declared.problem.Rows.{Rows}
use Rattle.row_store.specs.Table.{row_at, number_at}
use Rattle.row_store.specs.Points.{surplus}
use Rattle.simplex_frac.specs.ReachedTables.{den_at, IsReachedBySteps, IsTableOf, HasUnitColumns}
use Rattle.simplex_frac.proofs.ReachedPoints.{has_tables}
use Rattle.simplex_frac.proofs.ReachedUnitColumns.{has_unit_columns}

-- a reached table, as the lemmas below read it
pub record IsBasicTable (rows : Rows) (table : List FracRow) (basis : List ℕ) : Type 0 where
  pub is : IsTableOf rows table basis
  pub units : HasUnitColumns rows table basis

pub basic_table : (rows : Rows) (table : List FracRow) (basis : List ℕ) → IsReachedBySteps rows table basis → IsBasicTable rows table basis
basic_table rows table basis h = record { is = has_tables rows table basis h; units = has_unit_columns rows table basis h }

-- the basic column of a line
abbrev pub basic : List ℕ → ℕ → ℕ
basic basis line = get_or basis line 0

-- each line's value stands in its basic column
unfoldable pub basic_point : List ℕ → (ℕ → ℤ) → ℕ → ℕ → ℤ
basic_point basis value lines column = at_place (basic basis) value lines column

-- ---- sums over the columns
pub basic_sum : (rows : Rows) (table : List FracRow) (basis : List ℕ) (value : ℕ → ℤ) (row : ℕ) → IsBasicTable rows table basis
    → sum_below_ℤ (λ column. number_at table row column *ℤ basic_point basis value (length rows.lines) column) (rows.columns + length rows.lines) ≡ sum_below_ℤ (λ line. number_at table row (basic basis line) *ℤ value line) (length rows.lines)
unfolding basic_point
basic_sum rows table basis value row h =
    over_each (number_at table row) (basic basis) value (rows.columns + length rows.lines) (length rows.lines) (λ line lt. h.units.within line lt)

pub sum_of_line : (rows : Rows) (table : List FracRow) (basis : List ℕ) (value : ℕ → ℤ) (row : ℕ) → IsBasicTable rows table basis → row < length rows.lines
    → sum_below_ℤ (λ column. number_at table row column *ℤ basic_point basis value (length rows.lines) column) (rows.columns + length rows.lines) ≡ den_at table row *ℤ value row
sum_of_line rows table basis value row h lt =
    basic_sum rows table basis value row h
    ∙ sum_below_ℤ-same (λ line. number_at table row (basic basis line) *ℤ value line) (λ line. where_true (row == line) (den_at table row *ℤ value line)) (length rows.lines) (λ line below. term line below)
    ∙ sum_below_ℤ-one row (λ line. den_at table row *ℤ value line) (length rows.lines) lt
  where
    term : (line : ℕ) → line < length rows.lines → number_at table row (basic basis line) *ℤ value line ≡ where_true (row == line) (den_at table row *ℤ value line)
    term line below = elim (cases_eq row line) [
      | inl same ↦ subst (λ l. number_at table row (basic basis l) *ℤ value l ≡ den_at table row *ℤ value l) same (ap (λ x. x *ℤ value row) (h.units.own row lt))
          ∙ sym (cond-true (row == line) (den_at table row *ℤ value line) (pos 0) (eq-eqb row line same))
      | inr apart ↦ ap (λ x. x *ℤ value line) (h.units.others line row below (omega arith) apart) ∙ zero-*ℤ (value line)
          ∙ sym (cond-false (row == line) (den_at table row *ℤ value line) (pos 0) (ne_eqb row line apart))
    ]

pub sum_below_lines : (rows : Rows) (table : List FracRow) (basis : List ℕ) (value : ℕ → ℤ) (row : ℕ) → IsBasicTable rows table basis → length rows.lines ≤ row → row < length rows.lines + 2
    → sum_below_ℤ (λ column. number_at table row column *ℤ basic_point basis value (length rows.lines) column) (rows.columns + length rows.lines) ≡ pos 0
sum_below_lines rows table basis value row h ge lt =
    basic_sum rows table basis value row h
    ∙ sum_below_ℤ-same (λ line. number_at table row (basic basis line) *ℤ value line) (λ line. pos 0) (length rows.lines)
    (λ line below. ap (λ x. x *ℤ value line) (h.units.others line row below lt (λ e. past_is_other row line (length rows.lines) ge below e)) ∙ zero-*ℤ (value line))
    ∙ sum_below_ℤ-zero (length rows.lines)

-- ---- the basic point
pub surplus_of_line : (rows : Rows) (table : List FracRow) (basis : List ℕ) (value : ℕ → ℤ) (scale : ℤ) (row : ℕ) → IsBasicTable rows table basis → row < length rows.lines
    → surplus (row_at table row) (rows.columns + length rows.lines) (basic_point basis value (length rows.lines)) scale ≡ (den_at table row *ℤ value row) -ℤ (number_at table row (rows.columns + length rows.lines) *ℤ scale)
unfolding surplus
surplus_of_line rows table basis value scale row h lt =
    ap (λ x. x -ℤ (number_at table row (rows.columns + length rows.lines) *ℤ scale)) (sum_of_line rows table basis value row h lt)

pub surplus_below_lines : (rows : Rows) (table : List FracRow) (basis : List ℕ) (value : ℕ → ℤ) (scale : ℤ) (row : ℕ) → IsBasicTable rows table basis → length rows.lines ≤ row → row < length rows.lines + 2
    → surplus (row_at table row) (rows.columns + length rows.lines) (basic_point basis value (length rows.lines)) scale ≡ pos 0 -ℤ (number_at table row (rows.columns + length rows.lines) *ℤ scale)
unfolding surplus
surplus_below_lines rows table basis value scale row h ge lt =
    ap (λ x. x -ℤ (number_at table row (rows.columns + length rows.lines) *ℤ scale)) (sum_below_lines rows table basis value row h ge lt)

-- ---- a scale that all denominators of the lines divide
unfoldable pub common_scale : List FracRow → ℕ → ℤ
common_scale table lines = product_below (den_at table) lines

-- .. over one of them
unfoldable pub scale_over : List FracRow → ℕ → ℕ → ℤ
scale_over table lines line = product_beside (den_at table) line lines

positive_dens : (rows : Rows) (table : List FracRow) (basis : List ℕ) → IsBasicTable rows table basis → (line : ℕ) → line < length rows.lines → pos 0 <ℤ den_at table line
positive_dens rows table basis h line lt = h.is.dens line (omega arith)

pub scale_positive : (rows : Rows) (table : List FracRow) (basis : List ℕ) → IsBasicTable rows table basis → pos 0 <ℤ common_scale table (length rows.lines)
unfolding common_scale
scale_positive rows table basis h = product_positive (den_at table) (length rows.lines) (positive_dens rows table basis h)

pub scale_over_positive : (rows : Rows) (table : List FracRow) (basis : List ℕ) (line : ℕ) → IsBasicTable rows table basis → pos 0 <ℤ scale_over table (length rows.lines) line
unfolding scale_over
scale_over_positive rows table basis line h = beside_positive (den_at table) line (length rows.lines) (positive_dens rows table basis h)

-- so a number over a denominator is a whole number of parts
pub over_scale : (rows : Rows) (table : List FracRow) (line : ℕ) (number : ℤ) → line < length rows.lines → den_at table line *ℤ (number *ℤ scale_over table (length rows.lines) line) ≡ number *ℤ common_scale table (length rows.lines)
unfolding common_scale scale_over
over_scale rows table line number lt =
    *ℤ_left_comm (den_at table line) number (product_beside (den_at table) line (length rows.lines))
    ∙ ap (λ x. number *ℤ x) (*ℤ_comm (den_at table line) (product_beside (den_at table) line (length rows.lines)) ∙ beside_times (den_at table) line (length rows.lines) lt)

-- ---- no column is basic twice
pub basic_apart : (rows : Rows) (table : List FracRow) (basis : List ℕ) (line other : ℕ) → IsBasicTable rows table basis → line < length rows.lines → other < length rows.lines → basic basis line ≡ basic basis other → line ≡ other
basic_apart rows table basis line other h lt below e = elim (cases_eq line other) [
  | inl same ↦ same
  | inr apart ↦ absurd (above_is_other (den_at table line) (h.is.dens line (omega arith)) (sym (h.units.own line lt) ∙ ap (number_at table line) e ∙ h.units.others other line below (omega arith) apart))
]
