-- Sums over blocks of equal length, one after another, and over a list that is appended to another.
use Rattle.std.proofs.Common.{◌≡◌, ℕ, zero, suc, ◌+◌, ◌*◌, ◌<◌, List, ◌++◌, length, slice_index_or, ℤ, ◌+ℤ◌, ◌∙◌, ap, arith, length-append}
use Rattle.std.proofs.lemmas.Int.{ints}
use Rattle.std.proofs.lemmas.Grind.{common_steps}
use Rattle.sums.specs.Below.{sum_below, sum_below_ℤ}
use Rattle.sums.proofs.Naturals.{plus_0, plus_suc}
use Rattle.sums.proofs.Sums.{sum_below-agree}
use Rattle.sums.proofs.WholeSums.{sum_below_ℤ-same}
use Rattle.sums.proofs.WholeTerms.{sum_below_ℤ-stretches}

-- ---- a sum in two parts
pub sum_below-more : (f : ℕ → ℕ) (m n : ℕ) → sum_below f (m + n) ≡ sum_below f m + sum_below (λ k. f (m + k)) n
sum_below-more f m zero = ap (sum_below f) (plus_0 m) ∙ omega arith
sum_below-more f m (suc n) = ap (sum_below f) (plus_suc m n) ∙ omega (arith, sum_below-more f m n)

-- ---- blocks of k numbers: the number i of block b is b * k + i
pub no_block : (k : ℕ) → 0 * k ≡ 0
no_block k = omega arith

pub one_block_more : (n k : ℕ) → suc n * k ≡ n * k + k
one_block_more n k = omega arith

pub blocks : (f : ℕ → ℕ) (n k : ℕ) → sum_below f (n * k) ≡ sum_below (λ b. sum_below (λ i. f (b * k + i)) k) n
blocks f zero k = ap (sum_below f) (no_block k)
blocks f (suc n) k = ap (sum_below f) (one_block_more n k) ∙ omega (arith, sum_below-more f (n * k) k, blocks f n k)

pub blocks_ℤ : (f : ℕ → ℤ) (n k : ℕ) → sum_below_ℤ f (n * k) ≡ sum_below_ℤ (λ b. sum_below_ℤ (λ i. f (b * k + i)) k) n
blocks_ℤ f zero k = ap (sum_below_ℤ f) (no_block k)
blocks_ℤ f (suc n) k = ap (sum_below_ℤ f) (one_block_more n k) ∙ omega (arith, ints, sum_below_ℤ-stretches f (n * k) k, blocks_ℤ f n k)

-- ---- a list that is appended to another
pub in_front : {X : Type 0} (xs ys : List X) (d : X) (k : ℕ) → k < length xs → slice_index_or (xs ++ ys) k d ≡ slice_index_or xs k d
in_front xs ys d k below = grind (arith, common_steps)

pub behind : {X : Type 0} (xs ys : List X) (d : X) (k : ℕ) → slice_index_or (xs ++ ys) (length xs + k) d ≡ slice_index_or ys k d
behind xs ys d k = grind (arith, common_steps)

-- what the entries of both come to
pub appended : {X : Type 0} (f : X → ℕ) (d : X) (xs ys : List X)
    → sum_below (λ k. f (slice_index_or (xs ++ ys) k d)) (length (xs ++ ys)) ≡ sum_below (λ k. f (slice_index_or xs k d)) (length xs) + sum_below (λ k. f (slice_index_or ys k d)) (length ys)
appended f d xs ys =
    ap (sum_below (λ k. f (slice_index_or (xs ++ ys) k d))) (length-append xs ys)
    ∙ sum_below-more (λ k. f (slice_index_or (xs ++ ys) k d)) (length xs) (length ys)
    ∙ ap (λ n. n + sum_below (λ k. f (slice_index_or (xs ++ ys) (length xs + k) d)) (length ys))
    (sum_below-agree (λ k. f (slice_index_or (xs ++ ys) k d)) (λ k. f (slice_index_or xs k d)) (length xs) (record { each = λ k below. ap f (in_front xs ys d k below) }))
    ∙ ap (λ n. sum_below (λ k. f (slice_index_or xs k d)) (length xs) + n)
    (sum_below-agree (λ k. f (slice_index_or (xs ++ ys) (length xs + k) d)) (λ k. f (slice_index_or ys k d)) (length ys) (record { each = λ k below. ap f (behind xs ys d k) }))

pub appended_ℤ : {X : Type 0} (f : X → ℤ) (d : X) (xs ys : List X)
    → sum_below_ℤ (λ k. f (slice_index_or (xs ++ ys) k d)) (length (xs ++ ys)) ≡ sum_below_ℤ (λ k. f (slice_index_or xs k d)) (length xs) +ℤ sum_below_ℤ (λ k. f (slice_index_or ys k d)) (length ys)
appended_ℤ f d xs ys =
    ap (sum_below_ℤ (λ k. f (slice_index_or (xs ++ ys) k d))) (length-append xs ys)
    ∙ sum_below_ℤ-stretches (λ k. f (slice_index_or (xs ++ ys) k d)) (length xs) (length ys)
    ∙ ap (λ n. n +ℤ sum_below_ℤ (λ k. f (slice_index_or (xs ++ ys) (length xs + k) d)) (length ys))
    (sum_below_ℤ-same (λ k. f (slice_index_or (xs ++ ys) k d)) (λ k. f (slice_index_or xs k d)) (length xs) (λ k below. ap f (in_front xs ys d k below)))
    ∙ ap (λ n. sum_below_ℤ (λ k. f (slice_index_or xs k d)) (length xs) +ℤ n)
    (sum_below_ℤ-same (λ k. f (slice_index_or (xs ++ ys) (length xs + k) d)) (λ k. f (slice_index_or ys k d)) (length ys) (λ k below. ap f (behind xs ys d k)))
