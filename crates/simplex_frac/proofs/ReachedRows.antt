-- The rows of a reached table, read off its identity block.
use Rattle.std.proofs.Common.{◌≡◌, ℕ, ◌+◌, ◌<◌, ◌≤◌, ◌==◌, ltb, cond, length, get_or, List, ℤ, pos, negsuc, ◌+ℤ◌, ◌-ℤ◌, ◌*ℤ◌, sym, ◌∙◌, ap, inl, inr, arith}
use Rattle.std.specs.Prelude.{neg_ℤ}
use Rattle.std.proofs.lemmas.Int.{ints}
use Rattle.std.proofs.lemmas.Bool.{cases_lt, lt-ltb, le-ltb, ne_eqb, cond-true, cond-false}
use Rattle.std.proofs.lemmas.List.{get_or_past}
use lib.IntN.{*ℤ_comm, *ℤ-zero}
use Rattle.sums.specs.Below.{sum_below_ℤ}
use Rattle.sums.proofs.Integers.{one-*ℤ, neg_ℤ-*ℤ, *ℤ-neg_ℤ, -ℤ-*ℤ}
use Rattle.sums.proofs.WholeSums.{sum_below_ℤ-same, sum_below_ℤ--ℤ, *ℤ-sum_below_ℤ}
use Rattle.sums.proofs.WholeSwaps.{where_true, sum_below_ℤ-one, sum_below_ℤ-zero}
use Rattle.sums.proofs.WholeTerms.{*ℤ-where_true, sum_below_ℤ-neg}
use Rattle.sums.proofs.Naturals.{past_is_other}
use Rattle.sums.proofs.Sizes.{from_no_difference}
use Rattle.frac_row.specs.declared.row.FracRow.{FracRow}
use Rattle.frac_row.specs.Row.{number_of}
use Rattle.row_store.specs.declared.problem.Rows.{Rows}
use Rattle.row_store.specs.Table.{row_at, number_at, right_side, phase_row, cost_row}
use Rattle.row_store.specs.Points.{surplus}
use Rattle.row_store.specs.Problem.{entry, IsProblem}
use Rattle.simplex_frac.specs.ReachedTables.{den_at, amount_at, identity_at, weighed, IsTableOf, StepsReadOff}
use Rattle.simplex_frac.proofs.FirstPoints.{joined, joined-real, joined-identity, real_sum, identity_sum, surplus_parts, line_sum, cost_sum, rest_sum, MeetsFirst}
use Rattle.simplex_frac.proofs.ReachedPoints.{has_tables, last_is, line_kept, phase_kept, cost_kept}

-- 1 in a real column (nowhere for the right side), and in the identity block the lines' numbers there with the other
-- sign
column_point : Rows → ℕ → ℕ → ℤ
column_point rows column = joined rows.columns (λ c. where_true (column == c) (pos 1)) (λ line. neg_ℤ (entry rows line column))

-- the right side stands once on the other side
column_scale : ℕ → ℕ → ℤ
column_scale columns column = cond (ltb column columns) (pos 0) (negsuc 0)

-- a sum over the real columns has the one term, and none for the right side
real_term : (f : ℕ → ℤ) (rows : Rows) (column c : ℕ) → c < rows.columns → f c *ℤ column_point rows column c ≡ where_true (column == c) (f c)
unfolding column_point
real_term f rows column c lt =
    ap (λ x. f c *ℤ x) (joined-real rows.columns (λ k. where_true (column == k) (pos 1)) (λ line. neg_ℤ (entry rows line column)) c lt)
    ∙ *ℤ-where_true (f c) (column == c) (pos 1) ∙ ap (where_true (column == c)) (*ℤ_comm (f c) (pos 1) ∙ one-*ℤ (f c))

real_total : (f : ℕ → ℤ) (rows : Rows) (column : ℕ) → column < rows.columns → sum_below_ℤ (λ c. f c *ℤ column_point rows column c) rows.columns ≡ f column
real_total f rows column lt =
    sum_below_ℤ-same _ (λ c. where_true (column == c) (f c)) rows.columns (λ c less. real_term f rows column c less) ∙ sum_below_ℤ-one column f rows.columns lt

no_total : (f : ℕ → ℤ) (rows : Rows) (column : ℕ) → rows.columns ≤ column → sum_below_ℤ (λ c. f c *ℤ column_point rows column c) rows.columns ≡ pos 0
no_total f rows column ge =
    sum_below_ℤ-same _ (λ c. pos 0) rows.columns (λ c less. real_term f rows column c less ∙ cond-false (column == c) (f c) (pos 0) (ne_eqb column c (λ e. past_is_other column c rows.columns ge less e)))
    ∙ sum_below_ℤ-zero rows.columns

identity_point : (rows : Rows) (column line : ℕ) → column_point rows column (rows.columns + line) ≡ neg_ℤ (entry rows line column)
unfolding column_point
identity_point rows column line = joined-identity rows.columns (λ c. where_true (column == c) (pos 1)) (λ l. neg_ℤ (entry rows l column)) line

-- it meets the first lines
column_meets : (rows : Rows) (column : ℕ) → column ≤ rows.columns → MeetsFirst rows (column_point rows column) (column_scale rows.columns column)
unfolding line_sum column_scale
column_meets rows column le = record { each = λ line lt. elim (cases_lt column rows.columns) [ inl less ↦ at_real line less | inr ge ↦ at_right line (omega arith) ] }
  where
    at_real : (line : ℕ) → column < rows.columns → line_sum rows (column_point rows column) line +ℤ column_point rows column (rows.columns + line) ≡ entry rows line rows.columns *ℤ cond (ltb column rows.columns) (pos 0) (negsuc 0)
    at_real line less =
        ap (λ x. x +ℤ column_point rows column (rows.columns + line)) (real_total (entry rows line) rows column less) ∙ ap (λ x. entry rows line column +ℤ x) (identity_point rows column line)
        ∙ none (entry rows line column) ∙ sym (*ℤ-zero (entry rows line rows.columns)) ∙ ap (λ x. entry rows line rows.columns *ℤ x) (sym (cond-true (ltb column rows.columns) (pos 0) (negsuc 0) (lt-ltb column rows.columns less)))
      where
        none : (a : ℤ) → a +ℤ neg_ℤ a ≡ pos 0
        none a = omega (arith, ints)

    at_right : (line : ℕ) → column ≡ rows.columns → line_sum rows (column_point rows column) line +ℤ column_point rows column (rows.columns + line) ≡ entry rows line rows.columns *ℤ cond (ltb column rows.columns) (pos 0) (negsuc 0)
    at_right line same =
        ap (λ x. x +ℤ column_point rows column (rows.columns + line)) (no_total (entry rows line) rows column (omega arith)) ∙ ap (λ x. pos 0 +ℤ x) (identity_point rows column line)
        ∙ none (entry rows line column) ∙ ap (λ k. neg_ℤ (entry rows line k)) same ∙ turned (entry rows line rows.columns) ∙ ap (λ x. entry rows line rows.columns *ℤ x) (sym (cond-false (ltb column rows.columns) (pos 0) (negsuc 0) (le-ltb column rows.columns (omega arith))))
      where
        none : (a : ℤ) → pos 0 +ℤ neg_ℤ a ≡ neg_ℤ a
        none a = omega (arith, ints)

        turned : (a : ℤ) → neg_ℤ a ≡ a *ℤ negsuc 0
        turned a = sym (ap neg_ℤ (*ℤ_comm a (pos 1) ∙ one-*ℤ a)) ∙ sym (*ℤ-neg_ℤ a (pos 1))

-- the identity columns of a row come to what it has taken of the lines
identity_total : (rows : Rows) (row : FracRow) (column : ℕ) → identity_sum row rows.columns (length rows.lines) (column_point rows column) ≡ neg_ℤ (weighed rows (λ line. number_of row (rows.columns + line)) column)
unfolding identity_sum
identity_total rows row column =
    sum_below_ℤ-same _ (λ line. neg_ℤ (number_of row (rows.columns + line) *ℤ entry rows line column)) (length rows.lines)
    (λ line lt. ap (λ x. number_of row (rows.columns + line) *ℤ x) (identity_point rows column line) ∙ *ℤ-neg_ℤ (number_of row (rows.columns + line)) (entry rows line column))
    ∙ sum_below_ℤ-neg (λ line. number_of row (rows.columns + line) *ℤ entry rows line column) (length rows.lines)

-- so a row comes to its amount less that
column_surplus : (rows : Rows) (table : List FracRow) (basis : List ℕ) (row column : ℕ) → IsTableOf rows table basis → column ≤ rows.columns
    → surplus (row_at table row) (rows.columns + length rows.lines) (column_point rows column) (column_scale rows.columns column) ≡ amount_at table rows.columns row column -ℤ weighed rows (identity_at table rows.columns row) column
unfolding real_sum column_scale
column_surplus rows table basis row column h le =
    surplus_parts (row_at table row) rows.columns (length rows.lines) (column_point rows column) (column_scale rows.columns column)
    ∙ ap (λ x. (real_sum (row_at table row) rows.columns (column_point rows column) +ℤ x) -ℤ (number_at table row (rows.columns + length rows.lines) *ℤ column_scale rows.columns column)) (identity_total rows (row_at table row) column)
    ∙ elim (cases_lt column rows.columns) [ inl less ↦ at_real less | inr ge ↦ at_right ge ]
  where
    at_real : column < rows.columns → (real_sum (row_at table row) rows.columns (column_point rows column) +ℤ neg_ℤ (weighed rows (identity_at table rows.columns row) column)) -ℤ (number_at table row (rows.columns + length rows.lines) *ℤ cond (ltb column rows.columns) (pos 0) (negsuc 0)) ≡ amount_at table rows.columns row column -ℤ weighed rows (identity_at table rows.columns row) column
    at_real less =
        plain _ _ _ _ (weighed rows (identity_at table rows.columns row) column) (real_total (number_at table row) rows column less)
        (ap (λ x. number_at table row (rows.columns + length rows.lines) *ℤ x) (cond-true (ltb column rows.columns) (pos 0) (negsuc 0) (lt-ltb column rows.columns less)) ∙ *ℤ-zero (number_at table row (rows.columns + length rows.lines)))
        (cond-true (ltb column rows.columns) (number_at table row column) (right_side table row) (lt-ltb column rows.columns less))
      where
        plain : (a b c d w : ℤ) → a ≡ b → c ≡ pos 0 → d ≡ b → (a +ℤ neg_ℤ w) -ℤ c ≡ d -ℤ w
        plain a b c d w e f g = omega (arith, ints)

    at_right : rows.columns ≤ column → (real_sum (row_at table row) rows.columns (column_point rows column) +ℤ neg_ℤ (weighed rows (identity_at table rows.columns row) column)) -ℤ (number_at table row (rows.columns + length rows.lines) *ℤ cond (ltb column rows.columns) (pos 0) (negsuc 0)) ≡ amount_at table rows.columns row column -ℤ weighed rows (identity_at table rows.columns row) column
    at_right ge =
        plain _ (number_at table row (rows.columns + length rows.lines)) _ _ (weighed rows (identity_at table rows.columns row) column) (no_total (number_at table row) rows column ge)
        (ap (λ x. number_at table row (rows.columns + length rows.lines) *ℤ x) (cond-false (ltb column rows.columns) (pos 0) (negsuc 0) (le-ltb column rows.columns ge)) ∙ turned (number_at table row (rows.columns + length rows.lines)))
        (cond-false (ltb column rows.columns) (number_at table row column) (right_side table row) (le-ltb column rows.columns ge) ∙ ap (number_at table row) (last_is h))
      where
        turned : (a : ℤ) → a *ℤ negsuc 0 ≡ neg_ℤ a
        turned a = *ℤ-neg_ℤ a (pos 1) ∙ ap neg_ℤ (*ℤ_comm a (pos 1) ∙ one-*ℤ a)

        plain : (a b c d w : ℤ) → a ≡ pos 0 → c ≡ neg_ℤ b → d ≡ b → (a +ℤ neg_ℤ w) -ℤ c ≡ d -ℤ w
        plain a b c d w e f g = omega (arith, ints)

-- what the phase row and the cost row began with
column_rest : (rows : Rows) (column : ℕ) → rest_sum rows (column_point rows column) ≡ neg_ℤ (sum_below_ℤ (λ line. entry rows line column) (length rows.lines))
unfolding rest_sum
column_rest rows column =
    sum_below_ℤ-same _ (λ line. neg_ℤ (entry rows line column)) (length rows.lines) (λ line lt. identity_point rows column line) ∙ sum_below_ℤ-neg (λ line. entry rows line column) (length rows.lines)

column_cost : (rows : Rows) (column : ℕ) → IsProblem rows → column ≤ rows.columns → cost_sum rows (column_point rows column) ≡ get_or rows.costs column (pos 0)
unfolding cost_sum
column_cost rows column h le = elim (cases_lt column rows.columns) [
  | inl less ↦ real_total (λ c. get_or rows.costs c (pos 0)) rows column less
  | inr ge ↦ no_total (λ c. get_or rows.costs c (pos 0)) rows column ge ∙ sym (get_or_past rows.costs column (pos 0) (rw h.costs ge))
]

-- .. by the weights less the denominator
weighed_less : (rows : Rows) (weight : ℕ → ℤ) (d : ℤ) (column : ℕ) → weighed rows (λ line. weight line -ℤ d) column ≡ weighed rows weight column -ℤ (d *ℤ sum_below_ℤ (λ line. entry rows line column) (length rows.lines))
weighed_less rows weight d column =
    sum_below_ℤ-same _ (λ line. (weight line *ℤ entry rows line column) -ℤ (d *ℤ entry rows line column)) (length rows.lines) (λ line lt. -ℤ-*ℤ (weight line) d (entry rows line column))
    ∙ sum_below_ℤ--ℤ (λ line. weight line *ℤ entry rows line column) (λ line. d *ℤ entry rows line column) (length rows.lines)
    ∙ ap (λ x. weighed rows weight column -ℤ x) (sym (*ℤ-sum_below_ℤ d (λ line. entry rows line column) (length rows.lines)))

pub reads_off : StepsReadOff
reads_off rows table basis h = record { lines = λ row column lt le. at_line row column lt le; phase = λ column le. at_phase column le; cost = λ column le. at_cost column le }
  where
    t : IsTableOf rows table basis
    t = has_tables rows table basis h

    at_line : (row column : ℕ) → row < length rows.lines → column ≤ rows.columns → amount_at table rows.columns row column ≡ weighed rows (identity_at table rows.columns row) column
    at_line row column lt le =
        from_no_difference _ _ (sym (column_surplus rows table basis row column t le) ∙ line_kept rows table basis (column_point rows column) (column_scale rows.columns column) row h (column_meets rows column le) lt)

    at_phase : (column : ℕ) → column ≤ rows.columns → amount_at table rows.columns (phase_row table) column ≡ weighed rows (λ line. identity_at table rows.columns (phase_row table) line -ℤ den_at table (phase_row table)) column
    at_phase column le =
        moved _ (weighed rows (identity_at table rows.columns (phase_row table)) column) _ (den_at table (phase_row table)) _
        (sym (column_surplus rows table basis (phase_row table) column t le) ∙ phase_kept rows table basis (column_point rows column) (column_scale rows.columns column) h (column_meets rows column le)
        ∙ ap (λ x. x *ℤ den_at table (phase_row table)) (column_rest rows column))
        (weighed_less rows (identity_at table rows.columns (phase_row table)) (den_at table (phase_row table)) column)
      where
        moved : (a w s d r : ℤ) → a -ℤ w ≡ neg_ℤ s *ℤ d → r ≡ w -ℤ (d *ℤ s) → a ≡ r
        moved a w s d r e f = omega (arith, ints, e, f, neg_ℤ-*ℤ s d, *ℤ_comm s d)

    at_cost : (column : ℕ) → column ≤ rows.columns → amount_at table rows.columns (cost_row table) column ≡ weighed rows (identity_at table rows.columns (cost_row table)) column +ℤ (den_at table (cost_row table) *ℤ get_or rows.costs column (pos 0))
    at_cost column le =
        moved _ (weighed rows (identity_at table rows.columns (cost_row table)) column) _ (den_at table (cost_row table))
        (sym (column_surplus rows table basis (cost_row table) column t le) ∙ cost_kept rows table basis (column_point rows column) (column_scale rows.columns column) h (column_meets rows column le)
        ∙ ap (λ x. x *ℤ den_at table (cost_row table)) (column_cost rows column h.problem le))
      where
        moved : (a w c d : ℤ) → a -ℤ w ≡ c *ℤ d → a ≡ w +ℤ (d *ℤ c)
        moved a w c d e = omega (arith, ints, e, *ℤ_comm c d)
