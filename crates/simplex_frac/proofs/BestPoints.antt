-- What the last table tells where no column enters.
use Rattle.std.proofs.Common.{◌≡◌, ℕ, zero, suc, ◌+◌, ◌-◌, ◌<◌, ◌≤◌, ◌==◌, length, List, ℤ, pos, ◌-ℤ◌, ◌*ℤ◌, ◌<ℤ◌, ◌≤ℤ◌, refl, sym, ◌∙◌, ap, subst, arith, add-sub_of_le}
use Rattle.std.specs.Prelude.{neg_ℤ}
use Rattle.std.proofs.lemmas.Int.{ints}
use Rattle.std.proofs.lemmas.Bool.{eq-eqb, cond-true}
use lib.IntN.{*ℤ_comm, zero-*ℤ}
use Rattle.sums.proofs.Integers.{zero_factor, *ℤ-neg_ℤ}
use Rattle.sums.proofs.Signs.{product_at_least_0, factor_at_least_0}
use Rattle.sums.proofs.WholeSwaps.{where_true}
use Rattle.sums.proofs.WholeTerms.{at_least_0, each_is_0, at_place, at_place-at_least_0, where_true-at_least_0}
use Rattle.sums.proofs.Sizes.{above_is_some}
use Rattle.frac_row.specs.declared.row.FracRow.{FracRow}
use Rattle.row_store.specs.declared.problem.Rows.{Rows}
use Rattle.row_store.specs.Table.{number_at, phase_row, right_side}
use Rattle.simplex_frac.specs.Duality.{den_at, IsReached, AreRightSidesAtLeast0}
use Rattle.simplex_frac.specs.LastTables.{IsTurn, BestTells, NoPointTells}
use Rattle.simplex_frac.specs.declared.turn.Turn.{Turn}
use Rattle.simplex_frac.proofs.TurnCauses.{EndsBest, EndsNoPoint, ImprovesNot, best_ends, no_point_ends, none_improves}
use Rattle.simplex_frac.proofs.FirstPoints.{rest_sum}
use Rattle.simplex_frac.proofs.ReachedPoints.{phase_is, last_is, phase_kept}
use Rattle.simplex_frac.proofs.RunPoints.{run_is_reached}
use Rattle.simplex_frac.proofs.RightSides.{run_keeps_right_sides}
use Rattle.simplex_frac.proofs.BasicSums.{IsBasicTable, basic_table, basic, basic_point, surplus_below_lines, common_scale, scale_over, scale_positive, scale_over_positive}
use Rattle.simplex_frac.proofs.SameBases.{basic_value, whole_point, whole_meets}

pub reached_of : {rows : Rows} {made : ℕ} {table : List FracRow} {basis : List ℕ} {does : Turn} → IsTurn rows made table basis does → IsReached rows made table basis
reached_of h = record { problem = h.problem; reaches = h.turns.reaches }

-- ---- the best
pub best_tells : BestTells
best_tells rows made table basis h =
    let ends : EndsBest (record { table = table; basis = basis }) rows.columns = best_ends (record { table = table; basis = basis }) rows.columns h.turns.turns in
    record {
      none = record {
        phase = λ column lt. (none_improves table rows.columns column ends.none lt).phase;
        cost = λ column lt. (none_improves table rows.columns column ends.none lt).cost;
        above = λ column lt below. above _ _ (none_improves table rows.columns column ends.none lt) below;
      };
      met = ends.met;
    }
  where
    not_zero : (p q : ℤ) → pos 0 ≤ℤ p → (p ≡ pos 0 → pos 0 ≤ℤ q) → q <ℤ pos 0 → p ≡ pos 0 → ⊥
    not_zero p q h k below e = clash q (k e) below
      where
        clash : (q : ℤ) → pos 0 ≤ℤ q → q <ℤ pos 0 → ⊥
        clash q p r = omega (arith, ints)

    more : (p : ℤ) → pos 0 ≤ℤ p → (p ≡ pos 0 → ⊥) → pos 0 <ℤ p
    more (pos zero) h ne = absurd (ne refl)
    more (pos (suc n)) h ne = omega (arith, ints)
    more p h ne = absurd (omega (arith, ints))

    above : (p q : ℤ) → ImprovesNot p q → q <ℤ pos 0 → pos 0 <ℤ p
    above p q n below = more p n.phase (not_zero p q n.phase n.cost below)

-- ---- the basic point over the common scale, from right sides of at least 0
value_at_least_0 : (rows : Rows) (made : ℕ) (table : List FracRow) (basis : List ℕ) → IsReached rows made table basis → AreRightSidesAtLeast0 rows → (line : ℕ) → line < length rows.lines → pos 0 ≤ℤ basic_value rows table line
unfolding basic_value
value_at_least_0 rows made table basis h sides line lt =
    product_at_least_0 (number_at table line (rows.columns + length rows.lines)) (scale_over table (length rows.lines) line)
    (subst (λ c. pos 0 ≤ℤ number_at table line c) (last_is (basic_table rows table basis (run_is_reached rows made table basis h)).is) (run_keeps_right_sides rows made table basis line h sides lt))
    (above_is_some _ (scale_over_positive rows table basis line (basic_table rows table basis (run_is_reached rows made table basis h))))

whole_at_least_0 : (rows : Rows) (made : ℕ) (table : List FracRow) (basis : List ℕ) → IsReached rows made table basis → AreRightSidesAtLeast0 rows → (column : ℕ) → pos 0 ≤ℤ whole_point rows table basis column
unfolding whole_point basic_point
whole_at_least_0 rows made table basis h sides column =
    at_place-at_least_0 (basic basis) (basic_value rows table) (length rows.lines) column (value_at_least_0 rows made table basis h sides)

rest_at_least_0 : (rows : Rows) (made : ℕ) (table : List FracRow) (basis : List ℕ) → IsReached rows made table basis → AreRightSidesAtLeast0 rows → pos 0 ≤ℤ rest_sum rows (whole_point rows table basis)
unfolding rest_sum
rest_at_least_0 rows made table basis h sides =
    at_least_0 (λ line. whole_point rows table basis (rows.columns + line)) (length rows.lines) (λ line lt. whole_at_least_0 rows made table basis h sides (rows.columns + line))

-- the phase row's right side is what stands in the identity columns, with the other sign
phase_side : (rows : Rows) (made : ℕ) (table : List FracRow) (basis : List ℕ) → IsReached rows made table basis
    → pos 0 -ℤ (right_side table (phase_row table) *ℤ common_scale table (length rows.lines)) ≡ rest_sum rows (whole_point rows table basis) *ℤ den_at table (phase_row table)
unfolding whole_point
phase_side rows made table basis h =
    let t : IsBasicTable rows table basis = basic_table rows table basis (run_is_reached rows made table basis h) in
    ap (λ c. pos 0 -ℤ (number_at table (phase_row table) c *ℤ common_scale table (length rows.lines))) (last_is t.is)
    ∙ sym (surplus_below_lines rows table basis (basic_value rows table) (common_scale table (length rows.lines)) (phase_row table) t (rw (phase_is t.is) (omega arith)) (rw (phase_is t.is) (omega arith)))
    ∙ phase_kept rows table basis (whole_point rows table basis) (common_scale table (length rows.lines)) (run_is_reached rows made table basis h) (whole_meets rows table basis (run_is_reached rows made table basis h))

phase_den : (rows : Rows) (made : ℕ) (table : List FracRow) (basis : List ℕ) → IsReached rows made table basis → pos 0 <ℤ den_at table (phase_row table)
phase_den rows made table basis h =
    let t : IsBasicTable rows table basis = basic_table rows table basis (run_is_reached rows made table basis h) in t.is.dens (phase_row table) (rw (phase_is t.is) (omega arith))

-- ---- no point
pub no_point_tells : NoPointTells
no_point_tells rows made table basis h sides =
    let now : IsReached rows made table basis = reached_of h in
    let ends : EndsNoPoint (record { table = table; basis = basis }) rows.columns = no_point_ends (record { table = table; basis = basis }) rows.columns h.turns.turns in
    let rest : pos 0 ≤ℤ (rest_sum rows (whole_point rows table basis) *ℤ den_at table (phase_row table)) =
    product_at_least_0 _ _ (rest_at_least_0 rows made table basis now sides) (above_is_some _ (phase_den rows made table basis now)) in
    record {
      phase = λ column lt. (none_improves table rows.columns column ends.none lt).phase;
      unmet = below (right_side table (phase_row table)) (common_scale table (length rows.lines)) _ (scale_positive rows table basis (basic_table rows table basis (run_is_reached rows made table basis now))) (phase_side rows made table basis now) rest ends.unmet;
    }
  where
    less : (r : ℤ) → pos 0 ≤ℤ neg_ℤ r → (r ≡ pos 0 → ⊥) → r <ℤ pos 0
    less (pos zero) h ne = absurd (ne refl)
    less (pos (suc n)) h ne = absurd (omega (arith, ints))
    less r h ne = omega (arith, ints)

    below : (r q x : ℤ) → pos 0 <ℤ q → pos 0 -ℤ (r *ℤ q) ≡ x → pos 0 ≤ℤ x → (r ≡ pos 0 → ⊥) → r <ℤ pos 0
    below r q x above e k ne = less r (factor_at_least_0 q (neg_ℤ r) above (omega (arith, ints, e, k, *ℤ-neg_ℤ q r, *ℤ_comm q r))) ne

-- ---- at the best no identity column has anything
rest_is_0 : (rows : Rows) (made : ℕ) (table : List FracRow) (basis : List ℕ) → IsReached rows made table basis → right_side table (phase_row table) ≡ pos 0 → rest_sum rows (whole_point rows table basis) ≡ pos 0
rest_is_0 rows made table basis h met =
    zero_factor (den_at table (phase_row table)) (rest_sum rows (whole_point rows table basis)) (phase_den rows made table basis h)
    (*ℤ_comm (den_at table (phase_row table)) (rest_sum rows (whole_point rows table basis)) ∙ sym (phase_side rows made table basis h) ∙ nothing (right_side table (phase_row table)) (common_scale table (length rows.lines)) met)
  where
    nothing : (r q : ℤ) → r ≡ pos 0 → pos 0 -ℤ (r *ℤ q) ≡ pos 0
    nothing r q e = ap (λ x. pos 0 -ℤ (x *ℤ q)) e ∙ ap (λ x. pos 0 -ℤ x) (zero-*ℤ q)

identity_is_0 : (rows : Rows) (made : ℕ) (table : List FracRow) (basis : List ℕ) (line : ℕ) → IsReached rows made table basis → AreRightSidesAtLeast0 rows → right_side table (phase_row table) ≡ pos 0 → line < length rows.lines → whole_point rows table basis (rows.columns + line) ≡ pos 0
unfolding rest_sum
identity_is_0 rows made table basis line h sides met lt =
    each_is_0 (λ l. whole_point rows table basis (rows.columns + l)) (length rows.lines) line (λ l below. whole_at_least_0 rows made table basis h sides (rows.columns + l)) (rest_is_0 rows made table basis h met) lt

-- so a line with a basic identity column has right side 0
pub side_is_0 : (rows : Rows) (made : ℕ) (table : List FracRow) (basis : List ℕ) (line : ℕ) → IsReached rows made table basis → AreRightSidesAtLeast0 rows → right_side table (phase_row table) ≡ pos 0 → line < length rows.lines → rows.columns ≤ basic basis line
    → number_at table line (rows.columns + length rows.lines) ≡ pos 0
unfolding whole_point basic_point basic_value at_place
side_is_0 rows made table basis line h sides met lt ge =
    let t : IsBasicTable rows table basis = basic_table rows table basis (run_is_reached rows made table basis h) in
    let at : ℕ = basic basis line - rows.columns in
    let same : rows.columns + at ≡ basic basis line = add-sub_of_le ge in
    let empty : whole_point rows table basis (basic basis line) ≡ pos 0 = subst (λ c. whole_point rows table basis c ≡ pos 0) same (identity_is_0 rows made table basis at h sides met (within rows.columns (basic basis line) (length rows.lines) ge (t.units.within line lt))) in
    let value : where_true (basic basis line == basic basis line) (basic_value rows table line) ≡ pos 0 =
    each_is_0 (λ k. where_true (basic basis k == basic basis line) (basic_value rows table k)) (length rows.lines) line
    (λ k below. where_true-at_least_0 (basic basis k == basic basis line) (basic_value rows table k) (value_at_least_0 rows made table basis h sides k below)) empty lt in
    zero_factor (scale_over table (length rows.lines) line) (number_at table line (rows.columns + length rows.lines)) (scale_over_positive rows table basis line t)
    (*ℤ_comm (scale_over table (length rows.lines) line) (number_at table line (rows.columns + length rows.lines))
    ∙ sym (cond-true (basic basis line == basic basis line) (basic_value rows table line) (pos 0) (eq-eqb (basic basis line) (basic basis line) refl)) ∙ value)
  where
    within : (n c m : ℕ) → n ≤ c → c < n + m → c - n < m
    within n c m le lt = omega arith
