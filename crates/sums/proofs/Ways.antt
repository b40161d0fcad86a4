-- The laws of how many ways there are to choose.
use Rattle.std.proofs.Common.{◌≡◌, ℕ, zero, suc, ◌+◌, ◌-◌, ◌*◌, ◌/◌, ◌%◌, ◌<◌, ◌≤◌, min, max, refl, sym, ◌∙◌, ap, subst, inl, inr, arith, add-one}
use Rattle.std.proofs.lemmas.Bool.{cases_lt}
use Rattle.std.proofs.Math.Nat.{mul-div_cancel}
use Rattle.sums.specs.Ways.{ways_to_choose}
use Rattle.sums.proofs.Naturals.{cancel_le, plus_suc}

pub ways_none_chosen : (n : ℕ) → ways_to_choose n 0 ≡ 1
unfolding ways_to_choose
ways_none_chosen n = refl

pub ways_next : (n k : ℕ) → ways_to_choose (suc n) (suc k) ≡ ways_to_choose n k + ways_to_choose n (suc k)
unfolding ways_to_choose
ways_next n k = refl

-- no way to choose more than there are
pub ways_too_many : (n k : ℕ) → n < k → ways_to_choose n k ≡ 0
unfolding ways_to_choose
ways_too_many zero zero more = absurd (omega arith)
ways_too_many zero (suc k) more = refl
ways_too_many (suc n) zero more = absurd (omega arith)
ways_too_many (suc n) (suc k) more = omega (arith, ways_too_many n k (omega arith), ways_too_many n (suc k) (omega arith))

-- one way to choose all
pub ways_all : (n : ℕ) → ways_to_choose n n ≡ 1
unfolding ways_to_choose
ways_all zero = refl
ways_all (suc n) = omega (arith, ways_all n, ways_too_many n (suc n) (omega arith))

-- no fewer of one more
pub ways_more : (n k : ℕ) → ways_to_choose n k ≤ ways_to_choose (suc n) k
unfolding ways_to_choose
ways_more n zero = omega arith
ways_more n (suc k) = omega arith

-- as many ways to choose some as to choose the others
pub ways_of_others : (n a b : ℕ) → n ≡ a + b → ways_to_choose n a ≡ ways_to_choose n b
unfolding ways_to_choose
ways_of_others zero zero zero e = refl
ways_of_others zero zero (suc b) e = absurd (omega arith)
ways_of_others zero (suc a) b e = absurd (omega arith)
ways_of_others (suc n) zero zero e = refl
ways_of_others (suc n) zero (suc b) e =
    omega (arith, ways_of_others n 0 b (omega arith), ways_too_many n (suc b) (omega arith))
ways_of_others (suc n) (suc a) zero e =
    omega (arith, ways_of_others n a 0 (omega arith), ways_too_many n (suc a) (omega arith))
ways_of_others (suc n) (suc a) (suc b) e =
    omega (arith, ways_of_others n a (suc b) (omega arith), ways_of_others n (suc a) b (omega arith))

-- one more of one more
pub ways_times : (n k : ℕ) → suc k * ways_to_choose (suc n) (suc k) ≡ suc n * ways_to_choose n k
unfolding ways_to_choose
ways_times zero zero = refl
ways_times zero (suc k) = omega arith
ways_times (suc n) zero = omega (arith, ways_times n zero)
ways_times (suc n) (suc k) = omega (arith, ways_times n (suc k), ways_times n k)

-- ---- one more after another
-- the quotient of a product that a number divides, from that of one factor and its rest
quotient_of_product : (i f count x q r : ℕ) → 0 < i → i * x ≡ f * count → count ≡ i * q + r → x ≡ q * f + (r * f) / i
quotient_of_product i f count x q r some e parts =
    let split : i * x ≡ f * (i * q + r) = e ∙ ap (λ c. f * c) parts in
    let within : q * f ≤ x = cancel_le i (q * f) x some (omega arith) in
    let other : ℕ = x - q * f in
    let sum : x ≡ q * f + other = omega arith in
    let left : other * i ≡ r * f = omega (arith, ap (λ n. i * n) sum) in
    let quotient : (r * f) / i ≡ other = ap (λ n. n / i) (sym left) ∙ mul-div_cancel other some in
    omega arith

-- one more chosen of one more, by the quotient and the rest
pub ways_step : (others chosen count : ℕ) → count ≡ ways_to_choose (others + chosen) chosen
    → ways_to_choose (others + chosen + 1) (chosen + 1) ≡ count / (chosen + 1) * (others + (chosen + 1)) + count % (chosen + 1) * (others + (chosen + 1)) / (chosen + 1)
ways_step others chosen count e =
    quotient_of_product (chosen + 1) (others + (chosen + 1)) count (ways_to_choose (others + chosen + 1) (chosen + 1)) (count / (chosen + 1)) (count % (chosen + 1)) (omega arith)
    (as_next (others + chosen) chosen (others + (chosen + 1)) (omega arith) ∙ ap (λ n. (others + (chosen + 1)) * n) (sym e)) (omega arith)
  where
    as_next : (n k m : ℕ) → m ≡ n + 1 → (k + 1) * ways_to_choose (n + 1) (k + 1) ≡ m * ways_to_choose n k
    as_next n k m f = rw (f, add-one n, add-one k) (ways_times n k)

-- no fewer, the more are chosen beside so many others
pub ways_rise : (others few more : ℕ) → few ≤ more → ways_to_choose (others + few) few ≤ ways_to_choose (others + more) more
ways_rise others few zero le = let e : few ≡ 0 = omega arith in subst (λ k. ways_to_choose (others + k) k ≤ ways_to_choose (others + 0) 0) (sym e) (omega arith)
ways_rise others few (suc more) le = elim (cases_lt few (suc more)) [
  | inl lt ↦ let before : ways_to_choose (others + few) few ≤ ways_to_choose (others + more) more = ways_rise others few more (omega arith) in
      rw plus_suc (omega (arith, ways_next (others + more) more))
  | inr ge ↦ let e : few ≡ suc more = omega arith in subst (λ k. ways_to_choose (others + k) k ≤ ways_to_choose (others + suc more) (suc more)) (sym e) (omega arith)
]

-- the lesser of two parts is chosen as often as either
pub ways_of_lesser : (a b : ℕ) → ways_to_choose (max a b + min a b) (min a b) ≡ ways_to_choose (b + a) a
ways_of_lesser a b = elim (cases_lt a b) [
  | inl lt ↦ let least : min a b ≡ a = omega arith in let most : max a b ≡ b = omega arith in rw (least, most) refl
  | inr ge ↦ let least : min a b ≡ b = omega arith in let most : max a b ≡ a = omega arith in
      rw (least, most) (ap (λ n. ways_to_choose n b) (order a b) ∙ sym (ways_of_others (b + a) a b (order b a)))
]
  where
    order : (a b : ℕ) → a + b ≡ b + a
    order a b = omega arith
