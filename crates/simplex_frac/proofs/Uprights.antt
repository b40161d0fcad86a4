-- A table with a number above 0 at the place of a step: its row may be turned, which says the same.
use Rattle.std.proofs.Common.{◌≡◌, ℕ, ◌-◌, ◌<◌, ◌≢◌, length, List, ℤ, pos, ◌-ℤ◌, ◌*ℤ◌, ◌<ℤ◌, ◌⊎◌, inl, inr, refl, sym, ◌∙◌, ap, subst, arith}
use Rattle.std.specs.Prelude.{neg_ℤ, ◌↔◌}
use Rattle.std.proofs.lemmas.Int.{ints}
use Rattle.std.proofs.lemmas.Bool.{cases_eq}
use Rattle.sums.specs.Below.{sum_below_ℤ}
use Rattle.sums.proofs.Integers.{neg_ℤ-*ℤ}
use Rattle.sums.proofs.WholeSums.{sum_below_ℤ-same}
use Rattle.sums.proofs.WholeTerms.{sum_below_ℤ-neg}
use Rattle.frac_row.specs.declared.row.FracRow.{FracRow}
use Rattle.frac_row.specs.Row.{number_of}
use Rattle.row_store.specs.Table.{row_at, number_at, height_of, columns_of, IsTable}
use Rattle.row_store.specs.Points.{surplus, MeetsLines}
use Rattle.row_store.specs.Steps.{turned_row, turned, made_positive}
use Rattle.row_store.proofs.Turns.{by_sign, made_positive-same, made_positive-turned, turned_is_table, turned_number, length-turned, columns_of-turned, row_at-turned, row_at-turned_other, number_of-turned_row, den-turned_row}

-- the row as it was, or turned
abbrev pub IsSameOrTurned : FracRow → FracRow → Type 0
IsSameOrTurned old new = (new ≡ old) ⊎ (new ≡ turned_row old)

pub record IsUpright (old new : List FracRow) (row column : ℕ) : Type 0 where
  pub is_table : IsTable new
  pub height : length new ≡ length old
  pub width : columns_of new ≡ columns_of old
  pub positive : pos 0 <ℤ number_at new row column
  pub here : IsSameOrTurned (row_at old row) (row_at new row)
  pub others : (other : ℕ) → other ≢ row → row_at new other ≡ row_at old other

pub upright : (table : List FracRow) (row column : ℕ) → IsTable table → row < length table → number_at table row column ≢ pos 0 → IsUpright table (made_positive table row column) row column
upright table row column is lt other =
    by_sign (number_at table row column) other
    (λ above. subst (λ t. IsUpright table t row column) (sym (made_positive-same table row column above)) (same above))
    (λ below. subst (λ t. IsUpright table t row column) (sym (made_positive-turned table row column below)) (turned_around below))
  where
    same : pos 0 <ℤ number_at table row column → IsUpright table table row column
    same above = record { is_table = is; height = refl; width = refl; positive = above; here = inl refl; others = λ k apart. refl }

    turned_around : number_at table row column <ℤ pos 0 → IsUpright table (turned table row) row column
    turned_around below = record {
      is_table = turned_is_table table row is lt;
      height = length-turned table row;
      width = columns_of-turned table row lt;
      positive = turned_number table row column lt below;
      here = inr (row_at-turned table row lt);
      others = λ k apart. row_at-turned_other table row k apart;
    }

-- ---- a turned row
-- its surplus has the other sign
turned_surplus : (row : FracRow) (n : ℕ) (point : ℕ → ℤ) (scale : ℤ) → surplus (turned_row row) n point scale ≡ neg_ℤ (surplus row n point scale)
unfolding surplus
turned_surplus row n point scale =
    ap (λ x. x -ℤ (number_of (turned_row row) n *ℤ scale))
    (sum_below_ℤ-same _ (λ k. neg_ℤ (number_of row k *ℤ point k)) n (λ k lt. ap (λ x. x *ℤ point k) (number_of-turned_row row k) ∙ neg_ℤ-*ℤ (number_of row k) (point k)) ∙ sum_below_ℤ-neg (λ k. number_of row k *ℤ point k) n)
    ∙ ap (λ x. neg_ℤ (sum_below_ℤ (λ k. number_of row k *ℤ point k) n) -ℤ x) (ap (λ x. x *ℤ scale) (number_of-turned_row row n) ∙ neg_ℤ-*ℤ (number_of row n) scale)
    ∙ opposite (sum_below_ℤ (λ k. number_of row k *ℤ point k) n) (number_of row n *ℤ scale)
  where
    opposite : (a b : ℤ) → neg_ℤ a -ℤ neg_ℤ b ≡ neg_ℤ (a -ℤ b)
    opposite a b = omega (arith, ints)

-- ---- what stays
surplus_is_0 : (old new : FracRow) (n : ℕ) (point : ℕ → ℤ) (scale : ℤ) → IsSameOrTurned old new → surplus old n point scale ≡ pos 0 → surplus new n point scale ≡ pos 0
surplus_is_0 old new n point scale h e = elim h [
  | inl same ↦ ap (λ r. surplus r n point scale) same ∙ e
  | inr other ↦ ap (λ r. surplus r n point scale) other ∙ turned_surplus old n point scale ∙ ap neg_ℤ e
]

surplus_was_0 : (old new : FracRow) (n : ℕ) (point : ℕ → ℤ) (scale : ℤ) → IsSameOrTurned old new → surplus new n point scale ≡ pos 0 → surplus old n point scale ≡ pos 0
surplus_was_0 old new n point scale h e = elim h [
  | inl same ↦ ap (λ r. surplus r n point scale) (sym same) ∙ e
  | inr other ↦ nothing (surplus old n point scale) (sym (turned_surplus old n point scale) ∙ ap (λ r. surplus r n point scale) (sym other) ∙ e)
]
  where
    nothing : (z : ℤ) → neg_ℤ z ≡ pos 0 → z ≡ pos 0
    nothing z e = omega (arith, ints)

each_same_or_turned : (old new : List FracRow) (row column other : ℕ) → IsUpright old new row column → IsSameOrTurned (row_at old other) (row_at new other)
each_same_or_turned old new row column other h = elim (cases_eq other row) [
  | inl same ↦ subst (λ k. IsSameOrTurned (row_at old k) (row_at new k)) (sym same) h.here
  | inr apart ↦ inl (h.others other apart)
]

pub upright_height : {old new : List FracRow} {row column : ℕ} → IsUpright old new row column → height_of new ≡ height_of old
upright_height h = ap (λ n. n - 2) h.height

pub upright_points : (old new : List FracRow) (row column : ℕ) (point : ℕ → ℤ) (scale : ℤ) → IsUpright old new row column → MeetsLines new point scale ↔ MeetsLines old point scale
upright_points old new row column point scale h = (back, forth)
  where
    back : MeetsLines new point scale → MeetsLines old point scale
    back met line lt =
        surplus_was_0 (row_at old line) (row_at new line) (columns_of old - 1) point scale (each_same_or_turned old new row column line h)
        (subst (λ n. surplus (row_at new line) (n - 1) point scale ≡ pos 0) h.width (met line (subst (λ n. line < n) (sym (upright_height h)) lt)))

    forth : MeetsLines old point scale → MeetsLines new point scale
    forth met line lt =
        subst (λ n. surplus (row_at new line) (n - 1) point scale ≡ pos 0) (sym h.width)
        (surplus_is_0 (row_at old line) (row_at new line) (columns_of old - 1) point scale (each_same_or_turned old new row column line h) (met line (subst (λ n. line < n) (upright_height h) lt)))

pub upright_den : (old new : List FracRow) (row column other : ℕ) → IsUpright old new row column → (row_at new other).den ≡ (row_at old other).den
upright_den old new row column other h = elim (each_same_or_turned old new row column other h) [
  | inl same ↦ ap (λ r. r.den) same
  | inr around ↦ ap (λ r. r.den) around ∙ den-turned_row (row_at old other)
]

-- where the lines are met, each surplus
pub upright_surplus : (old new : List FracRow) (row column other : ℕ) (point : ℕ → ℤ) (scale : ℤ) → IsUpright old new row column → row < height_of old → MeetsLines old point scale → surplus (row_at new other) (columns_of old - 1) point scale ≡ surplus (row_at old other) (columns_of old - 1) point scale
upright_surplus old new row column other point scale h lt met = elim (cases_eq other row) [
  | inl same ↦ subst (λ k. surplus (row_at new k) (columns_of old - 1) point scale ≡ surplus (row_at old k) (columns_of old - 1) point scale) (sym same)
      (surplus_is_0 (row_at old row) (row_at new row) (columns_of old - 1) point scale h.here (met row lt) ∙ sym (met row lt))
  | inr apart ↦ ap (λ r. surplus r (columns_of old - 1) point scale) (h.others other apart)
]

-- .. and each number that is 0
pub upright_zero : (old new : List FracRow) (row column other k : ℕ) → IsUpright old new row column → number_at old other k ≡ pos 0 → number_at new other k ≡ pos 0
upright_zero old new row column other k h e = elim (each_same_or_turned old new row column other h) [
  | inl same ↦ ap (λ r. number_of r k) same ∙ e
  | inr around ↦ ap (λ r. number_of r k) around ∙ number_of-turned_row (row_at old other) k ∙ ap neg_ℤ e
]
