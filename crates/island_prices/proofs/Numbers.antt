-- What arithmetic on signed numbers of 128 bits gives on the way to prices that are paid back, where sizes are known.
use Rattle.std.proofs.Common.{◌≡◌, ℕ, ◌+◌, ◌≤◌, ℤ, ◌+ℤ◌, ◌-ℤ◌, add-one, refl, ◌∙◌, ap, arith}
use Rattle.std.specs.Int.{int_max}
use Rattle.std.proofs.lemmas.Int.{ints}
use Rattle.dual_bound.specs.Sizes.{IsUpTo}
use Rattle.dual_bound.proofs.Numbers.{added, held, is_held, many}
use Rattle.island_prices.specs.Rounds.{greatest_below}

pub both_added : (m n : ℕ) (a b x y : ℤ) → IsUpTo m a → IsUpTo n b → m + n ≤ many → a ≡ x → b ≡ y → held (held a +ℤ held b) ≡ x +ℤ y
both_added m n a b x y small_a small_b few p q = ap (λ z. held (z +ℤ held b)) (is_held m a small_a (omega arith)) ∙ added m n a b x y small_a small_b few p q

-- the greatest, one more
pub greater_of : (f : ℕ → ℤ) (n : ℕ) (most_so_far next : ℤ) → most_so_far ≡ greatest_below f n → next ≡ f n → int_max most_so_far next ≡ greatest_below f (n + 1)
greater_of f n a b p q = rw (add-one n, p, q) refl

-- a difference of three
pub three_taken : (a b c x y z : ℤ) → IsUpTo 1 a → IsUpTo 1 b → IsUpTo 1 c → a ≡ x → b ≡ y → c ≡ z → held (held (held a -ℤ held b) -ℤ held c) ≡ x -ℤ y -ℤ z
three_taken a b c x y z small_a small_b small_c p q r =
    ap (λ u. held (held (u -ℤ held b) -ℤ held c)) (is_held 1 a small_a (omega arith))
    ∙ ap (λ u. held (held (a -ℤ u) -ℤ held c)) (is_held 1 b small_b (omega arith))
    ∙ ap (λ u. held (held (a -ℤ b) -ℤ u)) (is_held 1 c small_c (omega arith))
    ∙ ap (λ u. held (u -ℤ c)) (is_held 2 (a -ℤ b) (record { no_less = omega (arith, ints); no_more = omega (arith, ints) }) (omega arith))
    ∙ is_held 3 (a -ℤ b -ℤ c) (record { no_less = omega (arith, ints); no_more = omega (arith, ints) }) (omega arith)
    ∙ ap (λ u. u -ℤ b -ℤ c) p ∙ ap (λ u. x -ℤ u -ℤ c) q ∙ ap (λ u. x -ℤ y -ℤ u) r
