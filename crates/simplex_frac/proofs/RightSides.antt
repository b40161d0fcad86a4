-- Right sides of at least 0 stay so through the run.
use Rattle.std.proofs.Common.{◌≡◌, ℕ, zero, suc, ◌+◌, ◌<◌, ◌≢◌, length, List, Some, ℤ, pos, ◌-ℤ◌, ◌*ℤ◌, ◌<ℤ◌, ◌≤ℤ◌, sym, ◌∙◌, ap, subst, inl, inr, arith}
use Rattle.std.specs.Prelude.{neg_ℤ}
use Rattle.std.proofs.lemmas.Int.{ints, by_lt_z}
use Rattle.std.proofs.lemmas.Bool.{cases_eq}
use lib.IntN.{*ℤ_comm}
use Rattle.sums.proofs.Integers.{*ℤ_assoc, *ℤ_left_comm, *ℤ--ℤ, *ℤ-neg_ℤ}
use Rattle.sums.proofs.Signs.{product_at_least_0, factor_at_least_0}
use Rattle.sums.proofs.Sizes.{above_is_some, opposite_some}
use Rattle.sums.proofs.Tests.{some_is}
use Rattle.frac_row.specs.declared.row.FracRow.{FracRow}
use Rattle.frac_row.specs.Row.{width_of}
use Rattle.row_store.specs.declared.problem.Rows.{Rows}
use Rattle.row_store.specs.Table.{row_at, number_at}
use Rattle.row_store.specs.Pivot.{pivoted}
use Rattle.row_store.specs.Choice.{leaving}
use Rattle.row_store.specs.Problem.{IsProblem, first_table}
use Rattle.row_store.proofs.FirstTables.{amount_line}
use Rattle.row_store.proofs.LeastRatio.{leaves_least}
use Rattle.row_store.proofs.PivotNumbers.{IsCleared, IsScaled, pivot_clears, pivot_scales}
use Rattle.simplex_frac.specs.Tableaux.{Tableau, first_tableau}
use Rattle.simplex_frac.specs.Run.{stage}
use Rattle.simplex_frac.specs.Duality.{IsTableOf, AreRightSidesAtLeast0, RunKeepsRightSides}
use Rattle.simplex_frac.proofs.Turns.{IsPivotPlace, pivot_place}
use Rattle.simplex_frac.proofs.TurnCauses.{pivot_leaves}
use Rattle.simplex_frac.proofs.RunLaws.{IsStep, stage_step}
use Rattle.simplex_frac.proofs.FirstPoints.{right_first}
use Rattle.simplex_frac.proofs.ReachedPoints.{phase_is, last_is}
use Rattle.simplex_frac.proofs.RunPoints.{has_tables}

-- no right side of a line is below 0
record AreKept (rows : Rows) (table : List FracRow) : Type 0 where
  each : (line : ℕ) → line < length rows.lines → pos 0 ≤ℤ number_at table line (rows.columns + length rows.lines)

-- the right side of another row over plain numbers: own * side - other * pivot side, where own * q = other * p
side_stays : (by own other p q side pivot_side new : ℤ) → pos 0 <ℤ by → pos 0 <ℤ own → pos 0 <ℤ p → by *ℤ new ≡ (own *ℤ side) -ℤ (other *ℤ pivot_side) → own *ℤ q ≡ other *ℤ p
    → (pivot_side *ℤ q) ≤ℤ (side *ℤ p) → pos 0 ≤ℤ new
side_stays by own other p q side pivot_side new by_positive own_positive some e clears le =
    factor_at_least_0 by new by_positive (factor_at_least_0 p (by *ℤ new) some (moved _ _ multiple (product_at_least_0 own ((side *ℤ p) -ℤ (pivot_side *ℤ q)) (above_is_some own own_positive) (difference _ _ le))))
  where
    difference : (x y : ℤ) → x ≤ℤ y → pos 0 ≤ℤ (y -ℤ x)
    difference x y h = omega (arith, ints)

    moved : (x y : ℤ) → x ≡ y → pos 0 ≤ℤ y → pos 0 ≤ℤ x
    moved x y e h = omega (arith, ints)

    -- p times the new side is own times the difference of the products
    own_part : p *ℤ (own *ℤ side) ≡ own *ℤ (side *ℤ p)
    own_part = *ℤ_left_comm p own side ∙ ap (λ x. own *ℤ x) (*ℤ_comm p side)

    other_part : p *ℤ (other *ℤ pivot_side) ≡ own *ℤ (pivot_side *ℤ q)
    other_part =
        sym (*ℤ_assoc p other pivot_side) ∙ ap (λ x. x *ℤ pivot_side) (*ℤ_comm p other ∙ sym clears) ∙ *ℤ_assoc own q pivot_side ∙ ap (λ x. own *ℤ x) (*ℤ_comm q pivot_side)

    multiple : p *ℤ (by *ℤ new) ≡ own *ℤ ((side *ℤ p) -ℤ (pivot_side *ℤ q))
    multiple =
        ap (λ x. p *ℤ x) e ∙ *ℤ--ℤ p (own *ℤ side) (other *ℤ pivot_side) ∙ ap (λ x. x -ℤ (p *ℤ (other *ℤ pivot_side))) own_part ∙ ap (λ x. (own *ℤ (side *ℤ p)) -ℤ x) other_part
        ∙ sym (*ℤ--ℤ own (side *ℤ p) (pivot_side *ℤ q))

-- a number of at most 0 in the column is never a bound
no_bound : (p q side pivot_side : ℤ) → pos 0 <ℤ p → q ≤ℤ pos 0 → pos 0 ≤ℤ side → pos 0 ≤ℤ pivot_side → (pivot_side *ℤ q) ≤ℤ (side *ℤ p)
no_bound p q side pivot_side some none s t =
    let below : pos 0 ≤ℤ (pivot_side *ℤ neg_ℤ q) = product_at_least_0 pivot_side (neg_ℤ q) t (opposite_some q none) in
    let above : pos 0 ≤ℤ (side *ℤ p) = product_at_least_0 side p s (above_is_some p some) in
    omega (arith, ints, below, above, *ℤ-neg_ℤ pivot_side q)

-- ---- one pivot more
record IsLeaving (rows : Rows) (table : List FracRow) (basis : List ℕ) (row column : ℕ) : Type 0 where
  is : IsTableOf rows table basis
  line : row < length rows.lines
  positive : pos 0 <ℤ number_at table row column
  leaves : leaving table basis column ≡ Some row

least_ratio : (rows : Rows) (table : List FracRow) (basis : List ℕ) (row column line : ℕ) → IsLeaving rows table basis row column → AreKept rows table → line < length rows.lines
    → (number_at table row (rows.columns + length rows.lines) *ℤ number_at table line column) ≤ℤ (number_at table line (rows.columns + length rows.lines) *ℤ number_at table row column)
least_ratio rows table basis row column line l k lt =
    by_lt_z (pos 0) (number_at table line column)
    (λ some. subst (λ c. (number_at table row c *ℤ number_at table line column) ≤ℤ (number_at table line c *ℤ number_at table row column)) (last_is l.is) (leaves_least table basis column row line l.leaves (subst (λ n. line < n) (sym (phase_is l.is)) lt) some))
    (λ none. no_bound (number_at table row column) (number_at table line column) _ _ l.positive none (k.each line lt) (k.each row l.line))

sides_next : (rows : Rows) (table : List FracRow) (basis : List ℕ) (row column : ℕ) → IsLeaving rows table basis row column → AreKept rows table → AreKept rows (pivoted table row column)
sides_next rows table basis row column l k = record { each = λ line lt. elim (cases_eq line row) [ inl same ↦ at_row line same | inr apart ↦ at_other line lt apart ] }
  where
    in_table : (other : ℕ) → other < length rows.lines → other < length table
    in_table other lt = subst (λ n. other < n) (sym l.is.rows_in) (omega arith)

    last_in_row : (line : ℕ) → line < length rows.lines → rows.columns + length rows.lines < width_of (row_at table line)
    last_in_row line lt = subst (λ n. rows.columns + length rows.lines < n) (sym (l.is.is_table.same_width line (in_table line lt) ∙ l.is.columns_in)) (omega arith)

    at_row : (line : ℕ) → line ≡ row → pos 0 ≤ℤ number_at (pivoted table row column) line (rows.columns + length rows.lines)
    at_row line same =
        let s : IsScaled (row_at table row) (row_at (pivoted table row column) row) column = pivot_scales table row column l.positive (in_table row l.line) in
        subst (λ r. pos 0 ≤ℤ number_at (pivoted table row column) r (rows.columns + length rows.lines)) (sym same)
        (factor_at_least_0 s.by _ s.by_positive (subst (λ x. pos 0 ≤ℤ x) (sym (s.numbers (rows.columns + length rows.lines))) (k.each row l.line)))

    at_other : (line : ℕ) → line < length rows.lines → line ≢ row → pos 0 ≤ℤ number_at (pivoted table row column) line (rows.columns + length rows.lines)
    at_other line lt apart =
        let c : IsCleared (row_at table line) (row_at (pivoted table row column) line) (row_at table row) column = pivot_clears table row column line l.is.is_table l.positive (in_table line lt) apart in
        side_stays c.by c.own c.other (number_at table row column) (number_at table line column) _ _ _ c.by_positive c.own_positive l.positive (c.numbers (rows.columns + length rows.lines) (last_in_row line lt)) c.clears
        (least_ratio rows table basis row column line l k lt)

-- ---- every stage
first_sides : (rows : Rows) → AreRightSidesAtLeast0 rows → AreKept rows (first_tableau (first_table rows) rows.columns).table
unfolding first_tableau
first_sides rows h = record { each = λ line lt. subst (λ x. pos 0 ≤ℤ x) (sym (right_first rows line (omega arith) ∙ amount_line rows line rows.columns lt)) (h.each line lt) }

sides_at : (rows : Rows) (made : ℕ) (now : Tableau) → IsProblem rows → AreRightSidesAtLeast0 rows → stage (first_table rows) rows.columns made ≡ Some now → AreKept rows now.table
sides_at rows zero now p h e = subst (λ t. AreKept rows t.table) (some_is _ _ e) (first_sides rows h)
sides_at rows (suc made) now p h e =
    let s : IsStep (first_table rows) rows.columns made now = stage_step (first_table rows) rows.columns made now e in
    let place : IsPivotPlace s.before rows.columns s.row s.column = pivot_place s.before rows.columns s.row s.column s.turns in
    let is : IsTableOf rows s.before.table s.before.basis = has_tables rows made s.before.table s.before.basis (record { problem = p; reaches = record { reached = s.reached } }) in
    subst (λ t. AreKept rows t.table) (sym s.is)
    (sides_next rows s.before.table s.before.basis s.row s.column
    (record { is = is; line = subst (λ n. s.row < n) (phase_is is) place.line; positive = place.positive; leaves = pivot_leaves s.before rows.columns s.row s.column s.turns })
    (sides_at rows made s.before p h s.reached))

pub run_keeps_right_sides : RunKeepsRightSides
run_keeps_right_sides rows made table basis line h sides lt =
    subst (λ c. pos 0 ≤ℤ number_at table line c) (sym (last_is (has_tables rows made table basis h))) ((sides_at rows made (record { table = table; basis = basis }) h.problem sides h.reaches.reached).each line lt)
