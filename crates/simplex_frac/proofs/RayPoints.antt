-- At a ray there is a direction in which the cost falls.
use Rattle.std.proofs.Common.{◌≡◌, ℕ, ◌+◌, ◌<◌, ◌==◌, length, get_or, List, unsigned_abs, ℤ, pos, ◌+ℤ◌, ◌*ℤ◌, ◌<ℤ◌, ◌≤ℤ◌, refl, sym, ◌∙◌, ap, subst, arith}
use Rattle.std.specs.Prelude.{neg_ℤ}
use Rattle.std.proofs.lemmas.Int.{ints}
use Rattle.std.proofs.lemmas.Bool.{eq-eqb, cond-true}
use lib.IntN.{*ℤ_comm, *ℤ-zero}
use Rattle.sums.specs.Below.{sum_below_ℤ}
use Rattle.sums.proofs.Integers.{zero_factor}
use Rattle.sums.proofs.Signs.{product_at_least_0, product_below_0, factor_at_least_0, factor_below_0}
use Rattle.sums.proofs.WholeSums.{sum_below_ℤ-same}
use Rattle.sums.proofs.WholeTerms.{where_true-at_least_0, at_least_0, each_is_0, at_place-at_least_0}
use Rattle.sums.proofs.Sizes.{above_is_some, nothing_added, opposite_some, size_is}
use Rattle.frac_row.specs.declared.row.FracRow.{FracRow}
use Rattle.row_store.specs.declared.problem.Rows.{Rows}
use Rattle.row_store.specs.Table.{number_at, phase_row, cost_row}
use Rattle.row_store.specs.Problem.{entry, point_cost}
use Rattle.row_store.proofs.Choices.{entering_is}
use Rattle.row_store.proofs.LeastRatio.{none_leaves}
use Rattle.simplex_frac.specs.Duality.{den_at, IsReached}
use Rattle.simplex_frac.specs.LastTables.{IsTurn, IsDirection, RayIsDirection}
use Rattle.simplex_frac.specs.declared.turn.Turn.TheVariants.{Ray}
use Rattle.simplex_frac.proofs.TurnCauses.{EndsRay, Improves, ray_ends, entering_improves}
use Rattle.simplex_frac.proofs.FirstPoints.{line_sum, cost_sum, rest_sum}
use Rattle.simplex_frac.proofs.ReachedPoints.{phase_is, cost_is, phase_kept, cost_kept}
use Rattle.simplex_frac.proofs.RunPoints.{run_is_reached}
use Rattle.simplex_frac.proofs.BasicSums.{IsBasicTable, basic_table, basic, basic_point, common_scale, scale_over, scale_positive, scale_over_positive}
use Rattle.simplex_frac.proofs.Rises.{rise_value, rise_point, rise_below, rise_meets}
use Rattle.simplex_frac.proofs.BestPoints.{reached_of}

-- a column that may rise without end
record IsRay (rows : Rows) (made : ℕ) (table : List FracRow) (basis : List ℕ) (column : ℕ) : Type 0 where
  reached : IsReached rows made table basis
  is : IsBasicTable rows table basis
  real : column < rows.columns
  falls : (line : ℕ) → line < length rows.lines → number_at table line column ≤ℤ pos 0
  improves : Improves (number_at table (phase_row table) column) (number_at table (cost_row table) column)

ray_is : (rows : Rows) (made : ℕ) (table : List FracRow) (basis : List ℕ) (column : ℕ) → IsTurn rows made table basis (Ray column) → IsRay rows made table basis column
ray_is rows made table basis column h =
    let ends : EndsRay (record { table = table; basis = basis }) rows.columns column = ray_ends (record { table = table; basis = basis }) rows.columns column h.turns.turns in
    let t : IsBasicTable rows table basis = basic_table rows table basis (run_is_reached rows made table basis (reached_of h)) in
    record {
      reached = reached_of h;
      is = t;
      real = (entering_is table rows.columns column ends.enters).0;
      falls = λ line lt. none_leaves table basis column line ends.none (subst (λ n. line < n) (sym (phase_is t.is)) lt);
      improves = entering_improves table rows.columns column ends.enters;
    }

-- ---- nothing falls below 0

basic_at_least_0 : (rows : Rows) (made : ℕ) (table : List FracRow) (basis : List ℕ) (column : ℕ) → IsRay rows made table basis column → (c : ℕ) → pos 0 ≤ℤ basic_point basis (rise_value rows table column) (length rows.lines) c
unfolding basic_point rise_value
basic_at_least_0 rows made table basis column r c =
    at_place-at_least_0 (basic basis) (rise_value rows table column) (length rows.lines) c
    (λ line lt. product_at_least_0 (neg_ℤ (number_at table line column)) (scale_over table (length rows.lines) line) (opposite_some _ (r.falls line lt)) (above_is_some _ (scale_over_positive rows table basis line r.is)))

ray_at_least_0 : (rows : Rows) (made : ℕ) (table : List FracRow) (basis : List ℕ) (column : ℕ) → IsRay rows made table basis column → (c : ℕ) → pos 0 ≤ℤ rise_point rows table basis column c
unfolding rise_point
ray_at_least_0 rows made table basis column r c =
    both _ _ (basic_at_least_0 rows made table basis column r c) (where_true-at_least_0 (column == c) (common_scale table (length rows.lines)) (above_is_some _ (scale_positive rows table basis r.is)))
  where
    both : (a b : ℤ) → pos 0 ≤ℤ a → pos 0 ≤ℤ b → pos 0 ≤ℤ (a +ℤ b)
    both a b p q = omega (arith, ints)

ray_rises : (rows : Rows) (made : ℕ) (table : List FracRow) (basis : List ℕ) (column : ℕ) → IsRay rows made table basis column → pos 0 <ℤ rise_point rows table basis column column
unfolding rise_point
ray_rises rows made table basis column r =
    both _ _ (basic_at_least_0 rows made table basis column r column)
    (subst (λ x. pos 0 <ℤ x) (sym (cond-true (column == column) (common_scale table (length rows.lines)) (pos 0) (eq-eqb column column refl))) (scale_positive rows table basis r.is))
  where
    both : (a b : ℤ) → pos 0 ≤ℤ a → pos 0 <ℤ b → pos 0 <ℤ (a +ℤ b)
    both a b p q = omega (arith, ints)

-- ---- the identity columns stay empty, for they could only rise, and the phase row does not
rest_at_least_0 : (rows : Rows) (made : ℕ) (table : List FracRow) (basis : List ℕ) (column : ℕ) → IsRay rows made table basis column → pos 0 ≤ℤ rest_sum rows (rise_point rows table basis column)
unfolding rest_sum
rest_at_least_0 rows made table basis column r =
    at_least_0 (λ line. rise_point rows table basis column (rows.columns + line)) (length rows.lines) (λ line lt. ray_at_least_0 rows made table basis column r (rows.columns + line))

phase_rise : (rows : Rows) (made : ℕ) (table : List FracRow) (basis : List ℕ) (column : ℕ) → IsRay rows made table basis column
    → common_scale table (length rows.lines) *ℤ number_at table (phase_row table) column ≡ rest_sum rows (rise_point rows table basis column) *ℤ den_at table (phase_row table)
phase_rise rows made table basis column r =
    sym (rise_below rows table basis column (phase_row table) r.is r.real (rw (phase_is r.is.is) (omega arith)) (rw (phase_is r.is.is) (omega arith)))
    ∙ phase_kept rows table basis (rise_point rows table basis column) (pos 0) (run_is_reached rows made table basis r.reached) (rise_meets rows table basis column (run_is_reached rows made table basis r.reached) r.real)

phase_den : (rows : Rows) (made : ℕ) (table : List FracRow) (basis : List ℕ) (column : ℕ) → IsRay rows made table basis column → pos 0 <ℤ den_at table (phase_row table)
phase_den rows made table basis column r = r.is.is.dens (phase_row table) (rw (phase_is r.is.is) (omega arith))

phase_is_0 : (rows : Rows) (made : ℕ) (table : List FracRow) (basis : List ℕ) (column : ℕ) → IsRay rows made table basis column → number_at table (phase_row table) column ≡ pos 0
phase_is_0 rows made table basis column r =
    between _ r.improves.phase
    (factor_at_least_0 (common_scale table (length rows.lines)) (number_at table (phase_row table) column) (scale_positive rows table basis r.is)
    (subst (λ x. pos 0 ≤ℤ x) (sym (phase_rise rows made table basis column r)) (product_at_least_0 _ _ (rest_at_least_0 rows made table basis column r) (above_is_some _ (phase_den rows made table basis column r)))))
  where
    between : (x : ℤ) → x ≤ℤ pos 0 → pos 0 ≤ℤ x → x ≡ pos 0
    between x p q = omega (arith, ints)

identity_is_0 : (rows : Rows) (made : ℕ) (table : List FracRow) (basis : List ℕ) (column line : ℕ) → IsRay rows made table basis column → line < length rows.lines → rise_point rows table basis column (rows.columns + line) ≡ pos 0
unfolding rest_sum
identity_is_0 rows made table basis column line r lt =
    each_is_0 (λ l. rise_point rows table basis column (rows.columns + l)) (length rows.lines) line (λ l below. ray_at_least_0 rows made table basis column r (rows.columns + l))
    (zero_factor (den_at table (phase_row table)) (rest_sum rows (rise_point rows table basis column)) (phase_den rows made table basis column r)
    (*ℤ_comm (den_at table (phase_row table)) (rest_sum rows (rise_point rows table basis column)) ∙ sym (phase_rise rows made table basis column r)
    ∙ ap (λ x. common_scale table (length rows.lines) *ℤ x) (phase_is_0 rows made table basis column r) ∙ *ℤ-zero (common_scale table (length rows.lines)))) lt

-- ---- and the cost falls
cost_falls : (rows : Rows) (made : ℕ) (table : List FracRow) (basis : List ℕ) (column : ℕ) → IsRay rows made table basis column → cost_sum rows (rise_point rows table basis column) <ℤ pos 0
cost_falls rows made table basis column r =
    factor_below_0 (den_at table (cost_row table)) (cost_sum rows (rise_point rows table basis column)) (r.is.is.dens (cost_row table) (rw (cost_is r.is.is) (omega arith)))
    (subst (λ x. x <ℤ pos 0)
    (sym (rise_below rows table basis column (cost_row table) r.is r.real (rw (cost_is r.is.is) (omega arith)) (rw (cost_is r.is.is) (omega arith)))
    ∙ cost_kept rows table basis (rise_point rows table basis column) (pos 0) (run_is_reached rows made table basis r.reached) (rise_meets rows table basis column (run_is_reached rows made table basis r.reached) r.real)
    ∙ *ℤ_comm (cost_sum rows (rise_point rows table basis column)) (den_at table (cost_row table)))
    (product_below_0 (common_scale table (length rows.lines)) (number_at table (cost_row table) column) (scale_positive rows table basis r.is) (r.improves.cost (phase_is_0 rows made table basis column r))))

-- the point in whole numbers of at least 0
direction : Rows → List FracRow → List ℕ → ℕ → ℕ → ℕ
direction rows table basis column c = unsigned_abs (rise_point rows table basis column c)

same_direction : (rows : Rows) (made : ℕ) (table : List FracRow) (basis : List ℕ) (column : ℕ) → IsRay rows made table basis column → (c : ℕ) → pos (direction rows table basis column c) ≡ rise_point rows table basis column c
unfolding direction
same_direction rows made table basis column r c = size_is _ (ray_at_least_0 rows made table basis column r c)

direction_is : (rows : Rows) (made : ℕ) (table : List FracRow) (basis : List ℕ) (column : ℕ) → IsRay rows made table basis column → IsDirection rows column (direction rows table basis column)
unfolding line_sum cost_sum
direction_is rows made table basis column r = record {
  rises = above _ (subst (λ x. pos 0 <ℤ x) (sym (same_direction rows made table basis column r column)) (ray_rises rows made table basis column r));
  meets = record { each = λ line lt. each line lt };
  falls = subst (λ x. x <ℤ pos 0) (sym same_cost) (cost_falls rows made table basis column r);
}
  where
    above : (n : ℕ) → pos 0 <ℤ pos n → 0 < n
    above n h = omega (arith, ints)

    each : (line : ℕ) → line < length rows.lines → sum_below_ℤ (λ c. entry rows line c *ℤ pos (direction rows table basis column c)) rows.columns ≡ entry rows line rows.columns *ℤ pos 0
    each line lt =
        sum_below_ℤ-same _ (λ c. entry rows line c *ℤ rise_point rows table basis column c) rows.columns (λ c real. ap (λ v. entry rows line c *ℤ v) (same_direction rows made table basis column r c))
        ∙ nothing_added _ _ (identity_is_0 rows made table basis column line r lt) ∙ (rise_meets rows table basis column (run_is_reached rows made table basis r.reached) r.real).each line lt

    same_cost : point_cost rows (direction rows table basis column) ≡ cost_sum rows (rise_point rows table basis column)
    same_cost = sum_below_ℤ-same _ _ rows.columns (λ c real. ap (λ v. get_or rows.costs c (pos 0) *ℤ v) (same_direction rows made table basis column r c))

pub ray_is_direction : RayIsDirection
ray_is_direction rows made table basis column h = (direction rows table basis column, direction_is rows made table basis column (ray_is rows made table basis column h))
