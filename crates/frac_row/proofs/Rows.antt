-- Laws of rows.
use Rattle.std.specs.Prelude.{◌*ℤ◌, All}
use Prim.Native.Nat.{◌∣◌}
use lib.IntN.{*ℤ-zero}
use Rattle.sums.proofs.Divisors.{gcd_below_first, gcd_below_each, gcd_at_most, gcd_positive}
use Rattle.sums.proofs.Division.{*ℤ-int_div, size-int_div, positive_factor}
use Rattle.std.proofs.Common.{inl, inr, ◌≡◌, ℕ, zero, suc, ◌-◌, ◌^◌, ◌<◌, ◌≤◌, ℤ, pos, negsuc, ◌<ℤ◌, List, unsigned_abs, int_div, refl, sym, ◌∙◌, ap, arith}
use Rattle.std.proofs.lemmas.Int.{ints}
use Rattle.std.proofs.lemmas.List.{ext_get_or, get_or_past, get_or_default}
use Rattle.std.proofs.lemmas.Bool.{cases_lt}
use native.Mathlib.Nat.{div-one}
use Rattle.sums.proofs.Sizes.{size_above}
use Rattle.frac_row.specs.Outgrown.{IsWithin}
use Rattle.sums.specs.Places.{list_below}
use Rattle.sums.specs.Divisors.{gcd_below}
use Rattle.sums.proofs.Places.{length-list_below, get_or-list_below}
use Rattle.frac_row.specs.declared.row.FracRow.{FracRow}
use Rattle.frac_row.specs.Row.{number_of, width_of, IsRow, common_divisor, divided, reduced}

gcd_below_range : (m d : ℕ) (f : ℕ → ℕ) (n : ℕ) → d ≤ m → 0 < d → ((k : ℕ) → f k ≤ m) → (gcd_below d f n ≤ m) × (0 < gcd_below d f n)
gcd_below_range m d f zero le some small = (le, some)
gcd_below_range m d f (suc n) le some small =
    let before : (gcd_below d f n ≤ m) × (0 < gcd_below d f n) = gcd_below_range m d f n le some small in
    (gcd_at_most (gcd_below d f n) (f n) m before.0 (small n), gcd_positive (gcd_below d f n) (f n) (omega (arith, before.1)))

-- the common divisor of a row is above 0 and within the limit
pub common_divisor_range : (row : FracRow) → IsRow row → (common_divisor row ≤ 2 ^ 127 - 1) × (0 < common_divisor row)
unfolding common_divisor
common_divisor_range row h =
    gcd_below_range (2 ^ 127 - 1) (unsigned_abs row.den) (λ column. unsigned_abs (number_of row column)) (width_of row) h.den_within (size_above row.den h.positive) h.within

int_div-one : (n : ℤ) → int_div n (pos 1) ≡ n
int_div-one (pos n) = ap pos (div-one n)
int_div-one (negsuc n) = ap (λ k. lib.IntN.neg_ℤ (pos k)) (div-one (suc n))

pub same_row : (xs ys : List ℤ) (d e : ℤ) → xs ≡ ys → d ≡ e → ◌≡◌ {A = FracRow} (record { numbers = xs; den = d }) (record { numbers = ys; den = e })
same_row xs ys d e p q = rw (p, q) refl

-- to divide by 1 changes nothing
pub divided-one : (row : FracRow) → divided row 1 ≡ row
unfolding divided
divided-one row =
    same_row (list_below (λ column. int_div (number_of row column) (pos 1)) (width_of row)) row.numbers (int_div row.den (pos 1)) row.den
    (ext_get_or (pos 0) _ _ (length-list_below _ (width_of row)) (λ i h. get_or-list_below _ (width_of row) i (pos 0) (rw length-list_below at h) ∙ int_div-one (number_of row i)))
    (int_div-one row.den)

-- numbers and denominator over the common divisor make the row in lowest terms
pub reduced_by : (row : FracRow) (numbers : List ℤ) (den x y : ℤ) → x ≡ pos (common_divisor row) → y ≡ x → numbers ≡ list_below (λ column. int_div (number_of row column) y) (width_of row) → den ≡ int_div row.den y → ◌≡◌ {A = FracRow} (record { numbers = numbers; den = den }) (reduced row)
unfolding reduced divided
reduced_by row numbers den x y is same p q =
    let over : ℤ → FracRow = λ d. record { numbers = list_below (λ column. int_div (number_of row column) d) (width_of row); den = int_div row.den d } in
    same_row numbers _ den _ p q ∙ ap over (same ∙ is)

-- a row whose common divisor is 1 is in lowest terms
pub reduced-one : (row : FracRow) (x : ℤ) → x ≡ pos (common_divisor row) → x ≡ pos 1 → row ≡ reduced row
unfolding reduced
reduced-one row x is one =
    let same : common_divisor row ≡ 1 = omega (arith, ints) in sym (ap (divided row) same ∙ divided-one row)

-- a row, by its numbers one by one
pub row_from : (row : FracRow) → All IsWithin row.numbers → IsWithin row.den → pos 0 <ℤ row.den → IsRow row
row_from row numbers den positive = record {
  within = λ k. elim (cases_lt k (width_of row)) [ inl lt ↦ numbers k (pos 0) lt | inr ge ↦ rw (get_or_past row.numbers k (pos 0) ge) (omega arith) ];
  den_within = den;
  positive = positive;
}

pub all_within : (row : FracRow) → IsRow row → All IsWithin row.numbers
all_within row h k d lt = rw (get_or_default row.numbers k d (pos 0) lt) (h.within k)

-- ---- rows in lowest terms
divides_den : (row : FracRow) → common_divisor row ∣ unsigned_abs row.den
unfolding common_divisor
divides_den row = gcd_below_first (unsigned_abs row.den) (λ column. unsigned_abs (number_of row column)) (width_of row)

divides_number : (row : FracRow) (k : ℕ) → k < width_of row → common_divisor row ∣ unsigned_abs (number_of row k)
unfolding common_divisor
divides_number row k lt = gcd_below_each (unsigned_abs row.den) (λ column. unsigned_abs (number_of row column)) (width_of row) k lt

pub width_of-reduced : (row : FracRow) → width_of (reduced row) ≡ width_of row
unfolding reduced divided
width_of-reduced row = length-list_below _ (width_of row)

pub number_of-reduced : (row : FracRow) (k : ℕ) → k < width_of row → number_of (reduced row) k ≡ int_div (number_of row k) (pos (common_divisor row))
unfolding reduced divided
number_of-reduced row k lt = get_or-list_below _ (width_of row) k (pos 0) lt

number_of-past : (row : FracRow) (k : ℕ) → width_of row ≤ k → number_of row k ≡ pos 0
number_of-past row k ge = get_or_past row.numbers k (pos 0) ge

-- each number is the common divisor times the number in lowest terms
pub number_times : (row : FracRow) (k : ℕ) → pos (common_divisor row) *ℤ number_of (reduced row) k ≡ number_of row k
number_times row k =
    elim (cases_lt k (width_of row)) [
      | inl lt ↦ ap (λ x. pos (common_divisor row) *ℤ x) (number_of-reduced row k lt) ∙ *ℤ-int_div (number_of row k) (common_divisor row) (divides_number row k lt)
      | inr ge ↦ ap (λ x. pos (common_divisor row) *ℤ x) (number_of-past (reduced row) k (rw width_of-reduced ge)) ∙ *ℤ-zero (pos (common_divisor row)) ∙ sym (number_of-past row k ge)
    ]

pub den_times : (row : FracRow) → pos (common_divisor row) *ℤ (reduced row).den ≡ row.den
unfolding reduced divided
den_times row = *ℤ-int_div row.den (common_divisor row) (divides_den row)

size-number_of-reduced : (row : FracRow) (k : ℕ) → unsigned_abs (number_of (reduced row) k) ≤ unsigned_abs (number_of row k)
size-number_of-reduced row k =
    elim (cases_lt k (width_of row)) [
      | inl lt ↦ rw (number_of-reduced row k lt) (size-int_div (number_of row k) (common_divisor row))
      | inr ge ↦ rw (number_of-past (reduced row) k (rw width_of-reduced ge)) (omega arith)
    ]

size-den-reduced : (row : FracRow) → unsigned_abs ((reduced row).den) ≤ unsigned_abs row.den
unfolding reduced divided
size-den-reduced row = size-int_div row.den (common_divisor row)

pub reduced_is_row : (row : FracRow) → IsRow row → IsRow (reduced row)
reduced_is_row row h = record {
  within = λ k. let le : unsigned_abs (number_of (reduced row) k) ≤ unsigned_abs (number_of row k) = size-number_of-reduced row k in omega (arith, h.within k);
  den_within = let le : unsigned_abs ((reduced row).den) ≤ unsigned_abs row.den = size-den-reduced row in omega (arith, h.den_within);
  positive = positive_factor (common_divisor row) ((reduced row).den) (rw (den_times row) h.positive);
}

gcd_below_positive : (d : ℕ) (f : ℕ → ℕ) (n : ℕ) → 0 < d → 0 < gcd_below d f n
gcd_below_positive d f zero some = some
gcd_below_positive d f (suc n) some = gcd_positive (gcd_below d f n) (f n) (omega (arith, gcd_below_positive d f n some))

pub common_divisor_positive : (row : FracRow) → pos 0 <ℤ row.den → 0 < common_divisor row
unfolding common_divisor
common_divisor_positive row h = gcd_below_positive (unsigned_abs row.den) (λ column. unsigned_abs (number_of row column)) (width_of row) (size_above row.den h)
