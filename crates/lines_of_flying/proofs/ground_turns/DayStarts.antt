-- Day starts in a wait that goes round: there are as many as ends of days at which the aircraft waits.
use Rattle.std.proofs.Common.{◌≡◌, ℕ, zero, suc, ◌+◌, ◌-◌, ◌*◌, ◌/◌, ◌%◌, ◌<◌, ◌≤◌, min, Bool, nat_lt, nat_le, sym, ◌∙◌, ap, inl, inr, arith}
use Rattle.std.proofs.Math.Nat.{mul_comm, mul-le-mul_left, mul-le-mul_right}
use Rattle.std.proofs.lemmas.Nat.{div-add-mod', div-mul-add, div_below, mod_below}
use Rattle.std.proofs.lemmas.Bool.{cases_lt}
use Rattle.std.proofs.lemmas.Bool.Decides.{nat_tests}
use Rattle.sums.specs.Below.{sum_below, count_below}
use Rattle.sums.proofs.Blocks.{one_block_more}
use Rattle.sums.proofs.Sums.{sum_below-agree, sum_below-add}
use Rattle.lines_of_flying.proofs.ground_turns.Rounds.{bit, moment_law, until_later, until_next}

-- the last minute of a day, days of any length counted from 0
abbrev pub end_of : ℕ → ℕ → ℕ
end_of d j = suc j * d - 1

-- a minute of day q comes by the end of day j exactly where q is at most j
by_end : (d q r j : ℕ) → r < d → nat_le (d * q + r) (end_of d j) ≡ nat_le q j
by_end d q r j within = elim (cases_lt j q) [
  | inl before ↦
      let rows : d * suc j ≤ d * q = mul-le-mul_left d before in
      let turned : suc j * d ≡ d * suc j = mul_comm (suc j) d in
      grind (arith, nat_tests)
  | inr after ↦
      let rows : d * suc q ≤ d * suc j = mul-le-mul_left d (raised q j after) in
      let one : d * suc q ≡ d * q + d = more d q in
      let turned : suc j * d ≡ d * suc j = mul_comm (suc j) d in
      grind (arith, nat_tests)
]
  where
    raised : (q j : ℕ) → q ≤ j → suc q ≤ suc j
    raised q j h = omega arith

    more : (d q : ℕ) → d * suc q ≡ d * q + d
    more d q = grind arith

-- the ends of days that come at or after day q
from_day : (q n : ℕ) → count_below (λ j. nat_le q j) n + min n q ≡ n
from_day q zero = omega arith
from_day q (suc n) = let before = from_day q n in grind (arith, nat_tests)

ends_after : (d x n : ℕ) → 0 < d → x < n * d → count_below (λ j. nat_le x (end_of d j)) n + x / d ≡ n
ends_after d x n some within =
    let split : d * (x / d) + x % d ≡ x = ap (λ k. k + x % d) (mul_comm d (x / d)) ∙ div-add-mod' x d in
    let same = sum_below-agree (λ j. bit (nat_le x (end_of d j))) (λ j. bit (nat_le (x / d) j)) n
    (record { each = λ j lt. ap (λ k. bit (nat_le k (end_of d j))) (sym split) ∙ ap bit (by_end d (x / d) (x % d) j (mod_below x d some)) }) in
    let few : x / d < n = div_below x d n some within in
    omega (arith, same, from_day (x / d) n, few)

-- periods more
pub div-more : (x d n : ℕ) → 0 < d → (x + n * d) / d ≡ x / d + n
div-more x d n some = ap (λ k. k / d) (turned x d n) ∙ div-mul-add (x / d + n) d (x % d) (mod_below x d some)
  where
    parts : (q r d n : ℕ) → q * d + r + n * d ≡ (q + n) * d + r
    parts q r d n = grind arith

    turned : (x d n : ℕ) → x + n * d ≡ (x / d + n) * d + x % d
    turned x d n = ap (λ k. k + n * d) (sym (div-add-mod' x d)) ∙ parts (x / d) (x % d) d n

repeated : (b : Bool) (n : ℕ) → sum_below (λ j. bit b) n ≡ n * bit b
repeated b zero = omega arith
repeated b (suc n) = let before = repeated b n in let one : suc n * bit b ≡ n * bit b + bit b = one_block_more n (bit b) in omega (arith, before, one)

-- the wait ends so many periods and so many minutes after its period's start
pub wait_end : (w r d : ℕ) → r < w → d < w → r + (d + w - r) % w ≡ d + bit (nat_lt d r) * w
wait_end w r d ready departs = elim (cases_lt d r) [
  | inl next ↦ rw (until_next w r d next ready) (grind (arith, nat_tests))
  | inr later ↦ rw (until_later w r d later departs) (grind (arith, nat_tests))
]

-- in a period w of n days
pub day_starts : (day n w r d : ℕ) → 0 < day → w ≡ n * day → r < w → d < w
    → (r + (d + w - r) % w) / day - r / day ≡ count_below (λ j. nat_lt ((end_of day j + w - r) % w) ((d + w - r) % w)) n
day_starts day n w r d some whole ready departs =
    let waits = λ (j : ℕ). bit (nat_lt ((end_of day j + w - r) % w) ((d + w - r) % w)) in
    let same = sum_below-agree (λ j. waits j + bit (nat_le d (end_of day j))) (λ j. bit (nat_le r (end_of day j)) + bit (nat_lt d r)) n
    (record { each = λ j lt. moment_law w r d (end_of day j) ready departs (within j lt) }) in
    let left = sum_below-add waits (λ j. bit (nat_le d (end_of day j))) n in
    let right = sum_below-add (λ j. bit (nat_le r (end_of day j))) (λ j. bit (nat_lt d r)) n in
    let end : (r + (d + w - r) % w) / day ≡ d / day + bit (nat_lt d r) * n =
    ap (λ k. k / day) (wait_end w r d ready departs ∙ ap (λ k. d + bit (nat_lt d r) * k) whole ∙ ap (λ k. d + k) (grouped (bit (nat_lt d r)) n day))
    ∙ div-more d day (bit (nat_lt d r) * n) some in
    let turned : n * bit (nat_lt d r) ≡ bit (nat_lt d r) * n = mul_comm n (bit (nat_lt d r)) in
    let least = ends_after day r n some (rw (sym whole) ready) in
    let most = ends_after day d n some (rw (sym whole) departs) in
    omega (arith, same, left, right, end, turned, least, most, repeated (nat_lt d r) n)
  where
    grouped : (a b c : ℕ) → a * (b * c) ≡ a * b * c
    grouped a b c = grind arith

    within : (j : ℕ) → j < n → end_of day j < w
    within j lt =
        let rows : suc j * day ≤ n * day = mul-le-mul_right day lt in
        omega arith
