-- A pivot keeps the points that meet the lines.
use Rattle.std.proofs.Common.{◌≡◌, ℕ, ◌-◌, ◌<◌, ◌≤◌, ◌≢◌, ℤ, pos, ◌-ℤ◌, ◌*ℤ◌, ◌<ℤ◌, List, length, refl, sym, ◌∙◌, ap, subst, inl, inr, arith}
use Rattle.std.proofs.lemmas.Int.{ints}
use Rattle.std.proofs.lemmas.Bool.{cases_eq}
use lib.IntN.{*ℤ-zero, zero-*ℤ}
use Rattle.sums.specs.Below.{sum_below_ℤ}
use Rattle.sums.proofs.Integers.{*ℤ--ℤ, -ℤ-*ℤ, *ℤ_assoc, *ℤ_left_comm, *ℤ_cancel, zero_factor}
use Rattle.sums.proofs.WholeSums.{sum_below_ℤ-same, *ℤ-sum_below_ℤ, sum_below_ℤ--ℤ}
use Rattle.frac_row.specs.declared.row.FracRow.{FracRow}
use Rattle.frac_row.specs.Row.{number_of, width_of}
use Rattle.row_store.specs.Table.{row_at, number_at, height_of, columns_of, IsTable}
use Rattle.row_store.specs.Pivot.{pivoted}
use Rattle.row_store.specs.Points.{surplus, MeetsLines, KeepsPoints, KeepsSurplus}
use Rattle.row_store.proofs.PivotNumbers.{IsCleared, IsScaled, pivot_clears, pivot_scales}
use Rattle.row_store.proofs.Tables.{length-pivoted, columns_of-pivoted, in_table}

-- ---- the surplus of a multiple and of a difference of numbers
abbrev surplus_of : (ℕ → ℤ) → ℕ → (ℕ → ℤ) → ℤ → ℤ
surplus_of f n point scale = sum_below_ℤ (λ k. f k *ℤ point k) n -ℤ (f n *ℤ scale)

surplus_times : (c : ℤ) (f g : ℕ → ℤ) (n : ℕ) (point : ℕ → ℤ) (scale : ℤ) → ((k : ℕ) → k ≤ n → c *ℤ f k ≡ g k) → c *ℤ surplus_of f n point scale ≡ surplus_of g n point scale
surplus_times c f g n point scale h =
    *ℤ--ℤ c (sum_below_ℤ (λ k. f k *ℤ point k) n) (f n *ℤ scale)
    ∙ ap (λ x. x -ℤ (c *ℤ (f n *ℤ scale))) (*ℤ-sum_below_ℤ c (λ k. f k *ℤ point k) n ∙ sum_below_ℤ-same _ _ n (λ k lt. term k (omega arith) (point k)))
    ∙ ap (λ x. sum_below_ℤ (λ k. g k *ℤ point k) n -ℤ x) (term n (omega arith) scale)
  where
    term : (k : ℕ) → k ≤ n → (x : ℤ) → c *ℤ (f k *ℤ x) ≡ g k *ℤ x
    term k le x = sym (*ℤ_assoc c (f k) x) ∙ ap (λ y. y *ℤ x) (h k le)

surplus_less : (f g : ℕ → ℤ) (n : ℕ) (point : ℕ → ℤ) (scale : ℤ) → surplus_of (λ k. f k -ℤ g k) n point scale ≡ surplus_of f n point scale -ℤ surplus_of g n point scale
surplus_less f g n point scale =
    ap (λ x. x -ℤ ((f n -ℤ g n) *ℤ scale)) (sum_below_ℤ-same _ _ n (λ k lt. -ℤ-*ℤ (f k) (g k) (point k)) ∙ sum_below_ℤ--ℤ (λ k. f k *ℤ point k) (λ k. g k *ℤ point k) n)
    ∙ ap (λ x. (sum_below_ℤ (λ k. f k *ℤ point k) n -ℤ sum_below_ℤ (λ k. g k *ℤ point k) n) -ℤ x) (-ℤ-*ℤ (f n) (g n) scale)
    ∙ regroup (sum_below_ℤ (λ k. f k *ℤ point k) n) (sum_below_ℤ (λ k. g k *ℤ point k) n) (f n *ℤ scale) (g n *ℤ scale)
  where
    regroup : (s t u v : ℤ) → (s -ℤ t) -ℤ (u -ℤ v) ≡ (s -ℤ u) -ℤ (t -ℤ v)
    regroup s t u v = omega (arith, ints)

-- ---- what becomes of one row
scaled_surplus : {old new : FracRow} {column : ℕ} (n : ℕ) (point : ℕ → ℤ) (scale : ℤ) (h : IsScaled old new column) → h.by *ℤ surplus new n point scale ≡ surplus old n point scale
unfolding surplus
scaled_surplus {old} {new} n point scale h = surplus_times h.by (number_of new) (number_of old) n point scale (λ k le. h.numbers k)

cleared_surplus : {old new pivot_row : FracRow} {column : ℕ} (n : ℕ) (point : ℕ → ℤ) (scale : ℤ) (h : IsCleared old new pivot_row column) → n < width_of old → surplus pivot_row n point scale ≡ pos 0 → h.by *ℤ surplus new n point scale ≡ h.own *ℤ surplus old n point scale
unfolding surplus
cleared_surplus {old} {new} {pivot_row} n point scale h lt met =
    surplus_times h.by (number_of new) (λ k. (h.own *ℤ number_of old k) -ℤ (h.other *ℤ number_of pivot_row k)) n point scale (λ k le. h.numbers k (omega arith))
    ∙ surplus_less (λ k. h.own *ℤ number_of old k) (λ k. h.other *ℤ number_of pivot_row k) n point scale
    ∙ less (sym (surplus_times h.own (number_of old) _ n point scale (λ k le. refl))) (sym (surplus_times h.other (number_of pivot_row) _ n point scale (λ k le. refl)) ∙ ap (λ x. h.other *ℤ x) met ∙ *ℤ-zero h.other)
  where
    less : {x y a : ℤ} → x ≡ a → y ≡ pos 0 → x -ℤ y ≡ a
    less p q = omega (arith, ints, p, q)

-- ---- the pivot
-- what the laws speak of: a pivot in a table
record IsPivot (table : List FracRow) (row column : ℕ) : Type 0 where
  is_table : IsTable table
  line : row < height_of table
  real : column < columns_of table
  positive : pos 0 <ℤ number_at table row column

module _ (table : List FracRow) (row column : ℕ) (point : ℕ → ℤ) (scale : ℤ) (h : IsPivot table row column) where
  abbrev was : ℕ → ℤ
  was other = surplus (row_at table other) (columns_of table - 1) point scale

  abbrev becomes : ℕ → ℤ
  becomes other = surplus (row_at (pivoted table row column) other) (columns_of table - 1) point scale

  -- the pivot row
  scaled : IsScaled (row_at table row) (row_at (pivoted table row column) row) column
  scaled = pivot_scales table row column h.positive (in_table table row h.line)

  scaled_is : scaled.by *ℤ becomes row ≡ was row
  scaled_is = scaled_surplus (columns_of table - 1) point scale scaled

  row_back : becomes row ≡ pos 0 → was row ≡ pos 0
  row_back e = sym scaled_is ∙ ap (λ x. scaled.by *ℤ x) e ∙ *ℤ-zero scaled.by

  row_forth : was row ≡ pos 0 → becomes row ≡ pos 0
  row_forth e = zero_factor scaled.by _ scaled.by_positive (scaled_is ∙ e)

  -- another one
  cleared : (other : ℕ) → other < length table → other ≢ row → IsCleared (row_at table other) (row_at (pivoted table row column) other) (row_at table row) column
  cleared other lt apart = pivot_clears table row column other h.is_table h.positive lt apart

  cleared_is : (other : ℕ) (lt : other < length table) (apart : other ≢ row) → was row ≡ pos 0 → (cleared other lt apart).by *ℤ becomes other ≡ (cleared other lt apart).own *ℤ was other
  cleared_is other lt apart met =
      cleared_surplus (columns_of table - 1) point scale (cleared other lt apart) (rw (h.is_table.same_width other lt) (one_less (columns_of table) (height_of table) h.is_table.identity)) met
    where
      one_less : (n m : ℕ) → m < n → n - 1 < n
      one_less n m lt = omega arith

  line_forth : (other : ℕ) → other < length table → was row ≡ pos 0 → was other ≡ pos 0 → becomes other ≡ pos 0
  line_forth other lt met e = elim (cases_eq other row) [
    | inl same ↦ subst (λ i. becomes i ≡ pos 0) (sym same) (row_forth met)
    | inr apart ↦ zero_factor _ _ (cleared other lt apart).by_positive (cleared_is other lt apart met ∙ ap (λ x. (cleared other lt apart).own *ℤ x) e ∙ *ℤ-zero (cleared other lt apart).own)
  ]

  line_back : (other : ℕ) → other < length table → was row ≡ pos 0 → becomes other ≡ pos 0 → was other ≡ pos 0
  line_back other lt met e = elim (cases_eq other row) [
    | inl same ↦ subst (λ i. was i ≡ pos 0) (sym same) met
    | inr apart ↦ zero_factor _ _ (cleared other lt apart).own_positive (sym (cleared_is other lt apart met) ∙ ap (λ x. (cleared other lt apart).by *ℤ x) e ∙ *ℤ-zero (cleared other lt apart).by)
  ]

  -- both surpluses of the pivot row are 0 where it is met
  kept : (other : ℕ) → other < length table → was row ≡ pos 0 → becomes other *ℤ (row_at table other).den ≡ was other *ℤ (row_at (pivoted table row column) other).den
  kept other lt met = elim (cases_eq other row) [
    | inl same ↦ nothing _ _ _ _ (line_forth other lt met (subst (λ i. was i ≡ pos 0) (sym same) met)) (subst (λ i. was i ≡ pos 0) (sym same) met)
    | inr apart ↦ crossed (cleared other lt apart).by (cleared other lt apart).own (becomes other) (was other) _ _ (cleared other lt apart).by_positive (cleared_is other lt apart met) (cleared other lt apart).den
  ]
    where
      nothing : (x y u v : ℤ) → x ≡ pos 0 → u ≡ pos 0 → x *ℤ y ≡ u *ℤ v
      nothing x y u v p q = ap (λ z. z *ℤ y) p ∙ zero-*ℤ y ∙ sym (zero-*ℤ v) ∙ ap (λ z. z *ℤ v) (sym q)

      crossed : (by own x y d e : ℤ) → pos 0 <ℤ by → by *ℤ x ≡ own *ℤ y → by *ℤ e ≡ own *ℤ d → x *ℤ d ≡ y *ℤ e
      crossed by own x y d e above p q =
          *ℤ_cancel by _ _ above
          (sym (*ℤ_assoc by x d) ∙ ap (λ z. z *ℤ d) p ∙ *ℤ_assoc own y d ∙ *ℤ_left_comm own y d ∙ ap (λ z. y *ℤ z) (sym q) ∙ *ℤ_left_comm y by e)

  -- the new table's own columns and lines are as many
  same_last : (other : ℕ) → surplus (row_at (pivoted table row column) other) (columns_of (pivoted table row column) - 1) point scale ≡ becomes other
  same_last other = ap (λ n. surplus (row_at (pivoted table row column) other) (n - 1) point scale) (columns_of-pivoted table row column h.is_table (in_table table row h.line))

  same_height : height_of (pivoted table row column) ≡ height_of table
  same_height = ap (λ n. n - 2) (length-pivoted table row column)

pub keeps_points : KeepsPoints
keeps_points table row column point scale is line real positive = (
  λ meets other lt. line_back table row column point scale h other (in_table table other lt) (row_back table row column point scale h (at meets row line)) (at meets other lt),
  λ meets other lt. same_last table row column point scale h other
      ∙ line_forth table row column point scale h other (in_table table other (rw (same_height table row column point scale h) at lt)) (meets row line) (meets other (rw (same_height table row column point scale h) at lt)),
)
  where
    h : IsPivot table row column
    h = record { is_table = is; line = line; real = real; positive = positive }

    at : MeetsLines (pivoted table row column) point scale → (other : ℕ) → other < height_of table → surplus (row_at (pivoted table row column) other) (columns_of table - 1) point scale ≡ pos 0
    at meets other lt = sym (same_last table row column point scale h other) ∙ meets other (rw (same_height table row column point scale h) lt)

pub keeps_surplus : KeepsSurplus
keeps_surplus table row column other point scale is line real positive meets lt =
    kept table row column point scale (record { is_table = is; line = line; real = real; positive = positive }) other lt (meets row line)
