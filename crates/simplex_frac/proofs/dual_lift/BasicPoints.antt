-- The basic point of a last table, and the parts of it that columns have.
use Rattle.std.proofs.Common.{◌≡◌, ◌≢◌, ℕ, zero, suc, ◌*◌, ◌/◌, ◌<◌, ◌≤◌, cond, if◌then◌else◌, ◌==◌, List, get_or, pos, ◌<ℤ◌, unsigned_abs, refl, sym, ◌∙◌, ap, subst, inl, inr, arith}
use Prim.Native.Nat.{◌∣◌}
use native.Mathlib.Nat.{dvd-mul_left, dvd-mul_right_of_dvd, mul-div_cancel'}
use mathlib.Core.Bool.{false≢true}
use Rattle.std.proofs.lemmas.Bool.{cases_lt}
use Rattle.std.proofs.lemmas.Bool.Decides.{nat_tests}
use Rattle.sums.proofs.Naturals.{positive_times, same_number}
use Rattle.sums.proofs.Sizes.{size_above}
use Rattle.sums.proofs.Tests.{by_test}
use Rattle.frac_row.specs.Outgrown.{IsWithin}
use Rattle.frac_row.specs.declared.row.FracRow.{FracRow}
use Rattle.row_store.specs.Table.{height_of, right_side, row_at}
use Rattle.simplex_frac.specs.dual_lift.Parts.{HaveParts, part_below, part_of}
use Rattle.simplex_frac.specs.dual_lift.Scales.{lowest_den}
use Rattle.simplex_frac.proofs.dual_lift.LeastScales.{HaveDens, fewer_dens, part_is}

-- ---- the parts of a column
-- each line has a basic column of its own
pub record HaveColumns (basis : List ℕ) (n : ℕ) : Type 0 where
  pub differ : (i j : ℕ) → i < n → j < n → get_or basis i 0 ≡ get_or basis j 0 → i ≡ j

pub part_there : (table : List FracRow) (basis : List ℕ) (scale n line : ℕ) → HaveColumns basis n → line < n → part_below table basis scale n (get_or basis line 0) ≡ part_of table scale line
part_there table basis scale zero line own below = absurd (omega arith)
part_there table basis scale (suc n) line own below = by_test (get_or basis n 0 == get_or basis line 0)
    (λ e.
    let same : get_or basis n 0 ≡ get_or basis line 0 = grind (arith, nat_tests) in
    let at : n ≡ line = own.differ n line (omega arith) below same in
    ap (λ b. cond b (part_of table scale n) (part_below table basis scale n (get_or basis line 0))) e ∙ ap (part_of table scale) at)
    (λ e.
    ap (λ b. cond b (part_of table scale n) (part_below table basis scale n (get_or basis line 0))) e
    ∙ part_there table basis scale n line (record { differ = λ i j less there. own.differ i j (omega arith) (omega arith) })
    (elim (cases_lt line n) [ inl before ↦ before | inr last ↦ let at : n ≡ line = omega arith in absurd (false≢true (sym e ∙ ap (λ l. get_or basis l 0 == get_or basis line 0) at ∙ same_number (get_or basis line 0))) ]))

pub no_part : (table : List FracRow) (basis : List ℕ) (scale n column : ℕ) → ((line : ℕ) → line < n → get_or basis line 0 ≢ column) → part_below table basis scale n column ≡ 0
no_part table basis scale zero column other = refl
no_part table basis scale (suc n) column other = by_test (get_or basis n 0 == column)
    (λ e. let same : get_or basis n 0 ≡ column = grind (arith, nat_tests) in absurd (other n (omega arith) same))
    (λ e. ap (λ b. cond b (part_of table scale n) (part_below table basis scale n column)) e ∙ no_part table basis scale n column (λ line below. other line (omega arith)))

-- .. and none is outgrown
pub few_parts : (table : List FracRow) (basis : List ℕ) (columns scale : ℕ) → HaveParts table basis columns scale → (n column : ℕ) → n ≤ height_of table → column < columns → IsWithin (pos (part_below table basis scale n column))
few_parts table basis columns scale parts zero column within below = omega arith
few_parts table basis columns scale parts (suc n) column within below = by_test (get_or basis n 0 == column)
    (λ e. let same : get_or basis n 0 ≡ column = grind (arith, nat_tests) in
    subst (λ c. IsWithin (pos (cond c (part_of table scale n) (part_below table basis scale n column)))) (sym e) (parts.few n (omega arith) (omega (arith, same, below))))
    (λ e. subst (λ c. IsWithin (pos (cond c (part_of table scale n) (part_below table basis scale n column)))) (sym e) (few_parts table basis columns scale parts n column (omega arith) below))

-- ---- a multiple of all denominators
pub dens_below : List FracRow → ℕ → ℕ
dens_below table zero = 1
dens_below table (suc n) = dens_below table n * unsigned_abs (row_at table n).den

pub dens_positive : (table : List FracRow) (n : ℕ) → HaveDens table n → 0 < dens_below table n
unfolding dens_below
dens_positive table zero dens = omega arith
dens_positive table (suc n) dens = positive_times (dens_below table n) (unsigned_abs (row_at table n).den) (dens_positive table n (fewer_dens table n dens)) (size_above (row_at table n).den (dens.each n (omega arith)))

pub den_divides : (table : List FracRow) (n line : ℕ) → line < n → unsigned_abs (row_at table line).den ∣ dens_below table n
unfolding dens_below
den_divides table zero line below = absurd (omega arith)
den_divides table (suc n) line below = elim (cases_lt line n) [
  | inl before ↦ dvd-mul_right_of_dvd _ (den_divides table n line before) (unsigned_abs (row_at table n).den)
  | inr last ↦
      let same : n ≡ line = omega arith in
      subst (λ k. unsigned_abs (row_at table k).den ∣ dens_below table n * unsigned_abs (row_at table n).den) same (dvd-mul_left (unsigned_abs (row_at table n).den) (dens_below table n))
]

-- ---- the point
-- what a line gives to its basic column, and what the last line gives to a column
pub raw_of : List FracRow → ℕ → ℕ → ℕ → ℕ
raw_of table scale dens line = unsigned_abs (right_side table line) * scale * (dens / unsigned_abs (row_at table line).den)

pub point_below : List FracRow → List ℕ → ℕ → ℕ → ℕ → ℕ → ℕ
point_below table basis scale dens zero column = 0
point_below table basis scale dens (suc line) column = if get_or basis line 0 == column then raw_of table scale dens line else point_below table basis scale dens line column

pub point_there : (table : List FracRow) (basis : List ℕ) (scale dens n line : ℕ) → HaveColumns basis n → line < n → point_below table basis scale dens n (get_or basis line 0) ≡ raw_of table scale dens line
unfolding point_below
point_there table basis scale dens zero line own below = absurd (omega arith)
point_there table basis scale dens (suc n) line own below = by_test (get_or basis n 0 == get_or basis line 0)
    (λ e.
    let same : get_or basis n 0 ≡ get_or basis line 0 = grind (arith, nat_tests) in
    let at : n ≡ line = own.differ n line (omega arith) below same in
    ap (λ b. cond b (raw_of table scale dens n) (point_below table basis scale dens n (get_or basis line 0))) e ∙ ap (raw_of table scale dens) at)
    (λ e.
    ap (λ b. cond b (raw_of table scale dens n) (point_below table basis scale dens n (get_or basis line 0))) e
    ∙ point_there table basis scale dens n line (record { differ = λ i j less there. own.differ i j (omega arith) (omega arith) })
    (elim (cases_lt line n) [ inl before ↦ before | inr last ↦ let at : n ≡ line = omega arith in absurd (false≢true (sym e ∙ ap (λ l. get_or basis l 0 == get_or basis line 0) at ∙ same_number (get_or basis line 0))) ]))

pub no_point : (table : List FracRow) (basis : List ℕ) (scale dens n column : ℕ) → ((line : ℕ) → line < n → get_or basis line 0 ≢ column) → point_below table basis scale dens n column ≡ 0
unfolding point_below
no_point table basis scale dens zero column other = refl
no_point table basis scale dens (suc n) column other = by_test (get_or basis n 0 == column)
    (λ e. let same : get_or basis n 0 ≡ column = grind (arith, nat_tests) in absurd (other n (omega arith) same))
    (λ e. ap (λ b. cond b (raw_of table scale dens n) (point_below table basis scale dens n column)) e ∙ no_point table basis scale dens n column (λ line below. other line (omega arith)))

pub raw_is : (table : List FracRow) (scale dens line : ℕ) → unsigned_abs (row_at table line).den ∣ dens → raw_of table scale dens line * unsigned_abs (row_at table line).den ≡ unsigned_abs (right_side table line) * (dens * scale)
unfolding raw_of
raw_is table scale dens line divides = product (unsigned_abs (right_side table line)) scale (dens / unsigned_abs (row_at table line).den) (unsigned_abs (row_at table line).den) dens (mul-div_cancel' (unsigned_abs (row_at table line).den) divides)
  where
    product : (r s q d D : ℕ) → d * q ≡ D → r * s * q * d ≡ r * (D * s)
    product r s q d D e = omega arith ∙ ap (λ n. r * (n * s)) e

-- a line of one of the first columns gives so many times its parts
raw_parts : (table : List FracRow) (scale dens line : ℕ) → pos 0 <ℤ (row_at table line).den → lowest_den table line ∣ scale → unsigned_abs (row_at table line).den ∣ dens → raw_of table scale dens line ≡ dens * part_of table scale line
unfolding raw_of
raw_parts table scale dens line some has divides =
    product (unsigned_abs (right_side table line)) scale (dens / unsigned_abs (row_at table line).den) (unsigned_abs (row_at table line).den) dens (part_of table scale line)
    (mul-div_cancel' (unsigned_abs (row_at table line).den) divides) (part_is table scale line some has)
  where
    product : (r s q d D w : ℕ) → d * q ≡ D → w * d ≡ r * s → r * s * q ≡ D * w
    product r s q d D w e f = ap (λ n. n * q) (sym f) ∙ omega arith ∙ ap (λ n. n * w) e

pub point_parts : (table : List FracRow) (basis : List ℕ) (columns scale dens m n column : ℕ) → HaveDens table m → ((line : ℕ) → line < m → get_or basis line 0 < columns → lowest_den table line ∣ scale) → ((line : ℕ) → line < m → unsigned_abs (row_at table line).den ∣ dens)
    → column < columns → n ≤ m → point_below table basis scale dens n column ≡ dens * part_below table basis scale n column
unfolding point_below
point_parts table basis columns scale dens m zero column some has divides real within = omega arith
point_parts table basis columns scale dens m (suc n) column some has divides real within = by_test (get_or basis n 0 == column)
    (λ e.
    let same : get_or basis n 0 ≡ column = grind (arith, nat_tests) in
    ap (λ b. cond b (raw_of table scale dens n) (point_below table basis scale dens n column)) e
    ∙ raw_parts table scale dens n (some.each n (omega arith)) (has n (omega arith) (omega (arith, same, real))) (divides n (omega arith))
    ∙ ap (λ b. dens * cond b (part_of table scale n) (part_below table basis scale n column)) (sym e))
    (λ e.
    ap (λ b. cond b (raw_of table scale dens n) (point_below table basis scale dens n column)) e
    ∙ point_parts table basis columns scale dens m n column some has divides real (omega arith)
    ∙ ap (λ b. dens * cond b (part_of table scale n) (part_below table basis scale n column)) (sym e))
