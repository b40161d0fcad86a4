-- The basic point of a reached table whose artificial columns are at 0 meets the lines.
use Rattle.std.proofs.Common.{◌≡◌, ℕ, zero, suc, ◌+◌, ◌<◌, ◌≤◌, ◌≢◌, ◌==◌, ltb, length, get_or, List, ℤ, pos, ◌-ℤ◌, ◌*ℤ◌, ◌⊎◌, sym, ◌∙◌, ap, subst, inl, inr, arith}
use Rattle.std.specs.Prelude.{neg_ℤ}
use Rattle.std.proofs.lemmas.Int.{ints}
use Rattle.std.proofs.lemmas.Bool.{cases_eq, cases_lt, eq-eqb, ne_eqb, lt-ltb, le-ltb, cond-true, cond-false}
use lib.IntN.{*ℤ_comm, *ℤ-zero, zero-*ℤ}
use Rattle.sums.specs.Below.{sum_below_ℤ}
use Rattle.sums.proofs.Integers.{neg_ℤ-*ℤ}
use Rattle.sums.proofs.WholeSums.{sum_below_ℤ-same}
use Rattle.sums.proofs.WholeSwaps.{where_true, sum_below_ℤ-one, sum_below_ℤ-zero}
use Rattle.sums.proofs.WholeTerms.{at_place}
use Rattle.sums.proofs.Naturals.{below_next, none_below_0}
use Rattle.sums.proofs.Sizes.{no_difference, nothing_added}
use Rattle.frac_row.specs.declared.row.FracRow.{FracRow}
use Rattle.row_store.specs.declared.problem.Rows.{Rows}
use Rattle.row_store.specs.Table.{number_at, cost_row, right_side}
use Rattle.row_store.specs.Problem.{entry, point_cost}
use Rattle.simplex_frac.specs.ReachedTables.{den_at, IsReachedBySteps}
use Rattle.simplex_frac.specs.BasicPoints.{IsBasicPoint, AreArtificialsAt0, StepsMeetAtCost}
use Rattle.simplex_frac.proofs.FirstPoints.{line_sum, cost_sum, MeetsFirst}
use Rattle.simplex_frac.proofs.ReachedPoints.{cost_is, last_is, point_of_first, cost_kept}
use Rattle.simplex_frac.proofs.BasicSums.{IsBasicTable, basic_table, basic, basic_point, surplus_of_line, surplus_below_lines, basic_apart}

-- what a point has in the basic column of a line, and nothing in an identity column
real_value : Rows → List ℕ → (ℕ → ℕ) → ℕ → ℤ
real_value rows basis x line = where_true (ltb (basic basis line) rows.columns) (pos (x (basic basis line)))

-- the point on all columns
real_point : Rows → List ℕ → (ℕ → ℕ) → ℕ → ℤ
real_point rows basis x = basic_point basis (real_value rows basis x) (length rows.lines)

value_of_real : (rows : Rows) (basis : List ℕ) (x : ℕ → ℕ) (line : ℕ) → basic basis line < rows.columns → real_value rows basis x line ≡ pos (x (basic basis line))
unfolding real_value
value_of_real rows basis x line lt = cond-true (ltb (basic basis line) rows.columns) (pos (x (basic basis line))) (pos 0) (lt-ltb (basic basis line) rows.columns lt)

value_of_identity : (rows : Rows) (basis : List ℕ) (x : ℕ → ℕ) (line : ℕ) → rows.columns ≤ basic basis line → real_value rows basis x line ≡ pos 0
unfolding real_value
value_of_identity rows basis x line ge = cond-false (ltb (basic basis line) rows.columns) (pos (x (basic basis line))) (pos 0) (le-ltb (basic basis line) rows.columns ge)

-- nothing where no line's place is
pub nothing_at_place : (place : ℕ → ℕ) (value : ℕ → ℤ) (lines column : ℕ) → ((line : ℕ) → line < lines → place line ≡ column → value line ≡ pos 0) → at_place place value lines column ≡ pos 0
unfolding at_place
nothing_at_place place value lines column h =
    sum_below_ℤ-same (λ k. where_true (place k == column) (value k)) (λ k. pos 0) lines (λ k lt. term k lt) ∙ sum_below_ℤ-zero lines
  where
    term : (k : ℕ) → k < lines → where_true (place k == column) (value k) ≡ pos 0
    term k lt = elim (cases_eq (place k) column) [
      | inl same ↦ cond-true (place k == column) (value k) (pos 0) (eq-eqb (place k) column same) ∙ h k lt same
      | inr apart ↦ cond-false (place k == column) (value k) (pos 0) (ne_eqb (place k) column apart)
    ]

-- the value of the one line whose place it is
pub one_at_place : (place : ℕ → ℕ) (value : ℕ → ℤ) (lines line : ℕ) → line < lines → ((other : ℕ) → other < lines → place line ≡ place other → line ≡ other) → at_place place value lines (place line) ≡ value line
unfolding at_place
one_at_place place value lines line below apart =
    sum_below_ℤ-same (λ k. where_true (place k == place line) (value k)) (λ k. where_true (line == k) (value k)) lines (λ k lt. term k lt) ∙ sum_below_ℤ-one line value lines below
  where
    term : (k : ℕ) → k < lines → where_true (place k == place line) (value k) ≡ where_true (line == k) (value k)
    term k lt = elim (cases_eq line k) [
      | inl same ↦ cond-true (place k == place line) (value k) (pos 0) (eq-eqb (place k) (place line) (sym (ap place same))) ∙ sym (cond-true (line == k) (value k) (pos 0) (eq-eqb line k same))
      | inr other ↦ cond-false (place k == place line) (value k) (pos 0) (ne_eqb (place k) (place line) (λ e. other (apart k lt (sym e)))) ∙ sym (cond-false (line == k) (value k) (pos 0) (ne_eqb line k other))
    ]

-- some line's place, or none's
pub find : (place : ℕ → ℕ) (column lines : ℕ) → ((line : ℕ) × (line < lines) × (place line ≡ column)) ⊎ ((line : ℕ) → line < lines → place line ≢ column)
find place column zero = inr (λ line lt. absurd (none_below_0 line lt))
find place column (suc lines) = elim (cases_eq (place lines) column) [
  | inl same ↦ inl (lines, omega arith, same)
  | inr apart ↦ elim (find place column lines) [
    | inl found ↦ inl (found.0, below_next found.0 lines found.1, found.2)
    | inr none ↦ inr (λ line lt e. elim (cases_lt line lines) [
      | inl less ↦ none line less e
      | inr ge ↦ let last : line ≡ lines = omega arith in apart (ap place (sym last) ∙ e)
    ])
  ]
]

-- ---- the point column by column
at_identity : (rows : Rows) (basis : List ℕ) (x : ℕ → ℕ) (line : ℕ) → real_point rows basis x (rows.columns + line) ≡ pos 0
unfolding real_point basic_point
at_identity rows basis x line =
    nothing_at_place (basic basis) (real_value rows basis x) (length rows.lines) (rows.columns + line) (λ k lt same. value_of_identity rows basis x k (subst (λ c. rows.columns ≤ c) (sym same) (omega arith)))

at_real : (rows : Rows) (table : List FracRow) (basis : List ℕ) (scale : ℕ) (x : ℕ → ℕ) (column : ℕ) → IsBasicTable rows table basis → IsBasicPoint rows table basis scale x → column < rows.columns → real_point rows basis x column ≡ pos (x column)
unfolding real_point basic_point
at_real rows table basis scale x column t p lt = elim (find (basic basis) column (length rows.lines)) [
  | inl found ↦ at_line found.0 found.1 found.2
  | inr none ↦ nothing_at_place (basic basis) (real_value rows basis x) (length rows.lines) column (λ k below same. absurd (none k below same)) ∙ ap pos (sym (p.others column lt none))
]
  where
    at_line : (line : ℕ) → line < length rows.lines → basic basis line ≡ column → at_place (basic basis) (real_value rows basis x) (length rows.lines) column ≡ pos (x column)
    at_line line below same =
        ap (at_place (basic basis) (real_value rows basis x) (length rows.lines)) (sym same)
        ∙ one_at_place (basic basis) (real_value rows basis x) (length rows.lines) line below (λ other less e. basic_apart rows table basis line other t below less e)
        ∙ value_of_real rows basis x line (subst (λ c. c < rows.columns) (sym same) lt) ∙ ap (λ c. pos (x c)) same

-- ---- it meets the lines
real_meets : (rows : Rows) (table : List FracRow) (basis : List ℕ) (scale : ℕ) (x : ℕ → ℕ) → IsReachedBySteps rows table basis → AreArtificialsAt0 rows table basis → IsBasicPoint rows table basis scale x → MeetsFirst rows (real_point rows basis x) (pos scale)
unfolding real_point
real_meets rows table basis scale x h sides p =
    point_of_first rows table basis (real_point rows basis x) (pos scale) h (λ line lt. surplus_of_line rows table basis (real_value rows basis x) (pos scale) line t lt ∙ met line lt)
  where
    t : IsBasicTable rows table basis
    t = basic_table rows table basis h

    met : (line : ℕ) → line < length rows.lines → (den_at table line *ℤ real_value rows basis x line) -ℤ (number_at table line (rows.columns + length rows.lines) *ℤ pos scale) ≡ pos 0
    met line lt = no_difference _ _ (elim (cases_lt (basic basis line) rows.columns) [
      | inl real ↦ ap (λ v. den_at table line *ℤ v) (value_of_real rows basis x line real) ∙ *ℤ_comm (den_at table line) (pos (x (basic basis line))) ∙ p.basic line lt real
          ∙ ap (λ c. number_at table line c *ℤ pos scale) (last_is t.is)
      | inr ge ↦ ap (λ v. den_at table line *ℤ v) (value_of_identity rows basis x line ge) ∙ *ℤ-zero (den_at table line)
          ∙ sym (zero-*ℤ (pos scale)) ∙ ap (λ r. r *ℤ pos scale) (sym (ap (number_at table line) (sym (last_is t.is)) ∙ sides.each line lt ge))
    ])

pub meets_at_cost : StepsMeetAtCost
unfolding line_sum cost_sum real_point
meets_at_cost rows table basis scale x h sides p = record {
  meets = record { each = λ line lt. each line lt };
  cost = cost;
}
  where
    t : IsBasicTable rows table basis
    t = basic_table rows table basis h

    met : MeetsFirst rows (real_point rows basis x) (pos scale)
    met = real_meets rows table basis scale x h sides p

    each : (line : ℕ) → line < length rows.lines → sum_below_ℤ (λ c. entry rows line c *ℤ pos (x c)) rows.columns ≡ entry rows line rows.columns *ℤ pos scale
    each line lt =
        sum_below_ℤ-same _ (λ c. entry rows line c *ℤ real_point rows basis x c) rows.columns (λ c real. ap (λ v. entry rows line c *ℤ v) (sym (at_real rows table basis scale x c t p real)))
        ∙ nothing_added _ _ (at_identity rows basis x line) ∙ met.each line lt

    same_cost : cost_sum rows (real_point rows basis x) ≡ point_cost rows x
    same_cost = sum_below_ℤ-same _ _ rows.columns (λ c real. ap (λ v. get_or rows.costs c (pos 0) *ℤ v) (at_real rows table basis scale x c t p real))

    cost : point_cost rows x *ℤ den_at table (cost_row table) ≡ neg_ℤ (right_side table (cost_row table)) *ℤ pos scale
    cost =
        ap (λ z. z *ℤ den_at table (cost_row table)) (sym same_cost)
        ∙ sym (cost_kept rows table basis (real_point rows basis x) (pos scale) h met)
        ∙ surplus_below_lines rows table basis (real_value rows basis x) (pos scale) (cost_row table) t (rw (cost_is t.is) (omega arith)) (rw (cost_is t.is) (omega arith))
        ∙ ap (λ c. pos 0 -ℤ (number_at table (cost_row table) c *ℤ pos scale)) (sym (last_is t.is))
        ∙ turned _ (neg_ℤ-*ℤ (right_side table (cost_row table)) (pos scale))
      where
        turned : {b : ℤ} (a : ℤ) → b ≡ neg_ℤ a → pos 0 -ℤ a ≡ b
        turned a e = omega (arith, ints)
