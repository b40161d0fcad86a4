-- Sums that go round and begin later, for the crates above.
use Rattle.std.proofs.Common.{◌≡◌, ℕ, zero, suc, ◌+◌, ◌%◌, zero-add, sym, ◌∙◌, ap, arith}
use Rattle.std.proofs.Math.Nat.{add-mod_left, mod-eq_of_lt}
use Rattle.sums.specs.Below.{sum_below}
use Rattle.sums.proofs.Naturals.{plus_0, suc_moved}
use Rattle.sums.proofs.Sums.{sum_below-agree}

-- the first term, and those behind it
pub shifted : (h : ℕ → ℕ) (n : ℕ) → sum_below h (suc n) ≡ h 0 + sum_below (λ k. h (suc k)) n
shifted h zero = omega arith
shifted h (suc n) = omega (arith, shifted h n)

turned_one : (h : ℕ → ℕ) (n : ℕ) → h n ≡ h 0 → sum_below (λ k. h (suc k)) n ≡ sum_below h n
turned_one h n e = omega (arith, shifted h n, e)

pub turned : (g : ℕ → ℕ) (n j : ℕ) → sum_below (λ k. g ((k + j) % n)) n ≡ sum_below g n
turned g n zero = sum_below-agree (λ k. g ((k + 0) % n)) g n (record { each = λ k lt. ap g (ap (λ i. i % n) (plus_0 k) ∙ mod-eq_of_lt lt) })
turned g n (suc j) =
    sum_below-agree (λ k. g ((k + suc j) % n)) (λ k. g ((suc k + j) % n)) n (record { each = λ k lt. ap (λ i. g (i % n)) (sym (suc_moved k j)) })
    ∙ turned_one (λ k. g ((k + j) % n)) n (ap g (add-mod_left n j ∙ ap (λ i. i % n) (sym (zero-add j)))) ∙ turned g n j
