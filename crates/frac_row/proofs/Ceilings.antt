-- When a quotient is a ceiling.
use Rattle.std.proofs.Common.{◌≡◌, ◌<◌, ◌^◌, zero, suc, ℤ, pos, negsuc, ◌+ℤ◌, ◌-ℤ◌, ◌*ℤ◌, ◌<ℤ◌, ◌≤ℤ◌, unsigned_abs, arith}
use Rattle.std.proofs.lemmas.Int.{ints}
use Rattle.sums.proofs.Integers.{+ℤ-*ℤ, -ℤ-*ℤ, one-*ℤ}
use Rattle.sums.proofs.Signs.{lesser_multiple}
use Rattle.frac_row.specs.Ratio.{IsCeiling}

-- one more than a quotient rounded towards 0, where there is a positive rest
pub ceiling_above : (n d q r x : ℤ) → pos 0 <ℤ d → (q *ℤ d) +ℤ r ≡ n → unsigned_abs r < unsigned_abs d → pos 0 <ℤ r → x ≡ q +ℤ pos 1 → IsCeiling n d x
ceiling_above n d q r x above e small more same = record {
  enough = enough_at x same;
  least = least_at x same;
}
  where
    enough_at : (x : ℤ) → x ≡ q +ℤ pos 1 → n ≤ℤ (x *ℤ d)
    enough_at x same = rw same (omega (arith, ints, +ℤ-*ℤ q (pos 1) d, one-*ℤ d))

    least_at : (x : ℤ) → x ≡ q +ℤ pos 1 → ((x -ℤ pos 1) *ℤ d) <ℤ n
    least_at x same = let back : x -ℤ pos 1 ≡ q = omega (arith, ints) in rw back (omega (arith, ints))

-- a quotient rounded towards 0, where there is none
pub ceiling_here : (n d q r x : ℤ) → pos 0 <ℤ d → (q *ℤ d) +ℤ r ≡ n → unsigned_abs r < unsigned_abs d → r ≤ℤ pos 0 → x ≡ q → IsCeiling n d x
ceiling_here n d q r x above e small none same = record {
  enough = rw same (omega (arith, ints));
  least = rw same (omega (arith, ints, -ℤ-*ℤ q (pos 1) d, one-*ℤ d));
}

-- a ratio is rounded up to one number
pub same_ceiling : (n d x y : ℤ) → pos 1 ≤ℤ d → IsCeiling n d x → IsCeiling n d y → x ≤ℤ y
same_ceiling n d x y some first second =
    let below : (x -ℤ pos 1) <ℤ y = lesser_multiple d (x -ℤ pos 1) y some (omega (arith, ints, first.least, second.enough)) in
    omega (arith, ints, below)

-- a quotient that leaves a positive rest is at most half of the number
pub half_at_most : (n d q r : ℤ) → pos 0 <ℤ d → (q *ℤ d) +ℤ r ≡ n → unsigned_abs r < unsigned_abs d → pos 0 <ℤ r → n ≤ℤ pos (2 ^ 127) → q ≤ℤ pos (2 ^ 126)
half_at_most n d (negsuc k) r above e small more le = omega (arith, ints)
half_at_most n (pos zero) (pos k) r above e small more le = absurd (omega (arith, ints))
half_at_most n (pos (suc zero)) (pos k) r above e small more le = absurd (omega (arith, ints))
half_at_most n (pos (suc (suc d))) (pos k) r above e small more le = omega (arith, ints)
half_at_most n (negsuc d) (pos k) r above e small more le = absurd (omega (arith, ints))
