-- Sums over numbers that stand at places, taken place by place.
use Rattle.std.proofs.Common.{◌≡◌, ℕ, zero, suc, ◌+◌, ◌*◌, ◌<◌, Bool, true, false, if◌then◌else◌, ◌==◌, refl, sym, ◌∙◌, ap, arith}
use Rattle.std.proofs.lemmas.Bool.Decides.{nat_tests}
use Rattle.sums.specs.Below.{sum_below, count_below}
use Rattle.sums.proofs.Sums.{sum_below-agree, sum_below-add, sum_below-one, sum_below-zero}

-- a number's share at a place
share : (place here : ℕ) (g : ℕ → ℕ) → (if place == here then 1 else 0) * g here ≡ (if place == here then g place else 0)
share place here g = by_test (place == here) (λ e. ap g (same e))
  where
    same : (place == here) ≡ true → here ≡ place
    same e = grind (arith, nat_tests)

    by_test : (b : Bool) → (b ≡ true → g here ≡ g place) → (if b then 1 else 0) * g here ≡ (if b then g place else 0)
    by_test true h = let e = h refl in omega (arith, e)
    by_test false h = omega arith

split_more : (a b c : ℕ) → (a + b) * c ≡ a * c + b * c
split_more a b c = grind arith

-- a sum over numbers by their places is a sum over the places, each as often as a number stands there
pub by_places : (place g : ℕ → ℕ) (places count : ℕ) → ((k : ℕ) → k < count → place k < places)
    → sum_below (λ k. g (place k)) count ≡ sum_below (λ s. count_below (λ k. place k == s) count * g s) places
by_places place g places zero within =
    sym (sum_below-agree (λ s. 0 * g s) (λ s. 0) places (record { each = λ s below. omega arith }) ∙ sum_below-zero places)
by_places place g places (suc n) within =
    let before = by_places place g places n (λ k lt. within k (omega arith)) in
    let last : sum_below (λ s. (if place n == s then 1 else 0) * g s) places ≡ g (place n) =
    sum_below-agree (λ s. (if place n == s then 1 else 0) * g s) (λ s. if place n == s then g (place n) else 0) places (record { each = λ s below. share (place n) s g })
    ∙ sum_below-one (place n) (g (place n)) places (within n (omega arith)) in
    let parts = sum_below-add (λ s. count_below (λ k. place k == s) n * g s) (λ s. (if place n == s then 1 else 0) * g s) places in
    let whole = sum_below-agree (λ s. count_below (λ k. place k == s) (suc n) * g s)
    (λ s. count_below (λ k. place k == s) n * g s + (if place n == s then 1 else 0) * g s) places
    (record { each = λ s below. split_more (count_below (λ k. place k == s) n) (if place n == s then 1 else 0) (g s) }) in
    omega (arith, before, last, parts, whole)
