-- The basic point of a reached table, over the common scale; and two reached tables with the same basic columns have
-- the same values: in each row below the lines the right side over the denominator is the same.
use Rattle.std.proofs.Common.{◌≡◌, ℕ, ◌+◌, ◌<◌, ◌≤◌, length, List, ℤ, pos, ◌-ℤ◌, ◌*ℤ◌, ◌<ℤ◌, sym, ◌∙◌, ap, arith}
use Rattle.std.specs.Prelude.{neg_ℤ}
use Rattle.std.proofs.lemmas.Int.{ints}
use lib.IntN.{*ℤ_comm, zero-*ℤ}
use Rattle.sums.proofs.Integers.{*ℤ_assoc, *ℤ_cancel, neg_ℤ-*ℤ}
use Rattle.sums.proofs.WholeSums.{sum_below_ℤ-same}
use Rattle.sums.proofs.WholeSwaps.{sum_below_ℤ-zero}
use Rattle.sums.proofs.WholeTerms.{over_each}
use Rattle.sums.proofs.Naturals.{past_is_other}
use Rattle.sums.proofs.Sizes.{no_difference}
use Rattle.frac_row.specs.declared.row.FracRow.{FracRow}
use Rattle.row_store.specs.declared.problem.Rows.{Rows}
use Rattle.row_store.specs.Table.{row_at, number_at}
use Rattle.row_store.specs.Points.{surplus}
use Rattle.simplex_frac.specs.ReachedTables.{den_at, IsReachedBySteps}
use Rattle.simplex_frac.proofs.FirstPoints.{MeetsFirst}
use Rattle.simplex_frac.proofs.ReachedPoints.{point_of_first, kept}
use Rattle.simplex_frac.proofs.BasicSums.{IsBasicTable, basic_table, basic, basic_point, surplus_of_line, surplus_below_lines, common_scale, scale_over, scale_positive, over_scale}

-- ---- the basic point
-- each line's right side, so many parts
unfoldable pub basic_value : Rows → List FracRow → ℕ → ℤ
basic_value rows table line = number_at table line (rows.columns + length rows.lines) *ℤ scale_over table (length rows.lines) line

unfoldable pub whole_point : Rows → List FracRow → List ℕ → ℕ → ℤ
whole_point rows table basis = basic_point basis (basic_value rows table) (length rows.lines)

pub whole_meets : (rows : Rows) (table : List FracRow) (basis : List ℕ) → IsReachedBySteps rows table basis → MeetsFirst rows (whole_point rows table basis) (common_scale table (length rows.lines))
unfolding whole_point basic_value
whole_meets rows table basis h =
    point_of_first rows table basis _ _ h
    (λ line lt. surplus_of_line rows table basis (λ l. number_at table l (rows.columns + length rows.lines) *ℤ scale_over table (length rows.lines) l) (common_scale table (length rows.lines)) line (basic_table rows table basis h) lt
    ∙ no_difference _ _ (over_scale rows table line (number_at table line (rows.columns + length rows.lines)) lt))

-- ---- two tables
-- each basic column is one of the others
pub record AreBasicIn (rows : Rows) (basis other : List ℕ) : Type 0 where
  pub each : (line : ℕ) → line < length rows.lines → (place : ℕ) × (place < length rows.lines) × (basic other place ≡ basic basis line)

-- so a row below the lines of the other table comes at the basic point to its own right side alone
value_of_other : (rows : Rows) (table other : List FracRow) (basis other_basis : List ℕ) (row : ℕ) → IsReachedBySteps rows table basis → IsReachedBySteps rows other other_basis → AreBasicIn rows basis other_basis → length rows.lines ≤ row → row < length rows.lines + 2
    → surplus (row_at other row) (rows.columns + length rows.lines) (whole_point rows table basis) (common_scale table (length rows.lines)) ≡ pos 0 -ℤ (number_at other row (rows.columns + length rows.lines) *ℤ common_scale table (length rows.lines))
unfolding surplus whole_point basic_point
value_of_other rows table other basis other_basis row h k same ge lt =
    ap (λ x. x -ℤ (number_at other row (rows.columns + length rows.lines) *ℤ common_scale table (length rows.lines)))
    (over_each (number_at other row) (basic basis) (basic_value rows table) (rows.columns + length rows.lines) (length rows.lines) (λ line below. t.units.within line below)
    ∙ sum_below_ℤ-same (λ line. number_at other row (basic basis line) *ℤ basic_value rows table line) (λ line. pos 0) (length rows.lines)
    (λ line below. ap (λ x. x *ℤ basic_value rows table line) (nothing line below) ∙ zero-*ℤ (basic_value rows table line))
    ∙ sum_below_ℤ-zero (length rows.lines))
  where
    t : IsBasicTable rows table basis
    t = basic_table rows table basis h

    u : IsBasicTable rows other other_basis
    u = basic_table rows other other_basis k

    nothing : (line : ℕ) → line < length rows.lines → number_at other row (basic basis line) ≡ pos 0
    nothing line below =
        let found = same.each line below in
        ap (number_at other row) (sym found.2) ∙ u.units.others found.0 row found.1 lt (λ e. past_is_other row found.0 (length rows.lines) ge found.1 e)

pub same_values : (rows : Rows) (table other : List FracRow) (basis other_basis : List ℕ) (row : ℕ) → IsReachedBySteps rows table basis → IsReachedBySteps rows other other_basis → AreBasicIn rows basis other_basis → length rows.lines ≤ row → row < length rows.lines + 2
    → number_at table row (rows.columns + length rows.lines) *ℤ den_at other row ≡ number_at other row (rows.columns + length rows.lines) *ℤ den_at table row
unfolding whole_point
same_values rows table other basis other_basis row h k same ge lt =
    crossed _ _ (common_scale table (length rows.lines)) _ (den_at table row) (den_at other row) (scale_positive rows table basis t)
    (sym (surplus_below_lines rows table basis (basic_value rows table) (common_scale table (length rows.lines)) row t ge lt) ∙ kept rows table basis (whole_point rows table basis) (common_scale table (length rows.lines)) row h met lt)
    (sym (value_of_other rows table other basis other_basis row h k same ge lt) ∙ kept rows other other_basis (whole_point rows table basis) (common_scale table (length rows.lines)) row k met lt)
  where
    t : IsBasicTable rows table basis
    t = basic_table rows table basis h

    met : MeetsFirst rows (whole_point rows table basis) (common_scale table (length rows.lines))
    met = whole_meets rows table basis h

    crossed : (a b s r p q : ℤ) → pos 0 <ℤ s → pos 0 -ℤ (a *ℤ s) ≡ r *ℤ p → pos 0 -ℤ (b *ℤ s) ≡ r *ℤ q → a *ℤ q ≡ b *ℤ p
    crossed a b s r p q above e f = *ℤ_cancel s (a *ℤ q) (b *ℤ p) above (turned a q ∙ ap (λ x. x *ℤ q) (opposite _ _ e) ∙ swapped ∙ sym (ap (λ x. x *ℤ p) (opposite _ _ f)) ∙ sym (turned b p))
      where
        opposite : (x y : ℤ) → pos 0 -ℤ x ≡ y → x ≡ neg_ℤ y
        opposite x y e = omega (arith, ints)

        turned : (x y : ℤ) → s *ℤ (x *ℤ y) ≡ (x *ℤ s) *ℤ y
        turned x y = sym (*ℤ_assoc s x y) ∙ ap (λ z. z *ℤ y) (*ℤ_comm s x)

        swapped : neg_ℤ (r *ℤ p) *ℤ q ≡ neg_ℤ (r *ℤ q) *ℤ p
        swapped = neg_ℤ-*ℤ (r *ℤ p) q ∙ ap neg_ℤ (*ℤ_assoc r p q ∙ ap (λ z. r *ℤ z) (*ℤ_comm p q) ∙ sym (*ℤ_assoc r q p)) ∙ sym (neg_ℤ-*ℤ (r *ℤ q) p)
