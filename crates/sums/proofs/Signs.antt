-- The signs of products of whole numbers.
use Rattle.std.proofs.Common.{ℤ, pos, ◌-ℤ◌, ◌*ℤ◌, ◌<ℤ◌, ◌≤ℤ◌, arith}
use Rattle.std.proofs.lemmas.Int.{ints, by_lt_z}
use lib.IntN.{neg_ℤ, *ℤ-zero, *ℤ_comm}
use Rattle.sums.proofs.Integers.{*ℤ--ℤ, *ℤ-neg_ℤ, positive_product}
use Rattle.sums.proofs.Orders.{factor_le}
use Rattle.sums.proofs.Sizes.{above_is_some}

pub product_at_least_0 : (a b : ℤ) → pos 0 ≤ℤ a → pos 0 ≤ℤ b → pos 0 ≤ℤ (a *ℤ b)
product_at_least_0 a b p q = omega (arith, ints, factor_le a (pos 0) b p q, *ℤ-zero a)

-- a positive number times one below 0
pub product_below_0 : (a b : ℤ) → pos 0 <ℤ a → b <ℤ pos 0 → (a *ℤ b) <ℤ pos 0
product_below_0 a b p q = omega (arith, ints, positive_product a (neg_ℤ b) p (omega (arith, ints)), *ℤ-neg_ℤ a b)

-- a positive factor keeps the other's sign
pub factor_at_least_0 : (a b : ℤ) → pos 0 <ℤ a → pos 0 ≤ℤ (a *ℤ b) → pos 0 ≤ℤ b
factor_at_least_0 a b p h = by_lt_z b (pos 0) (λ lt. absurd (clash (a *ℤ b) (product_below_0 a b p lt) h)) (λ le. le)
  where
    clash : (x : ℤ) → x <ℤ pos 0 → pos 0 ≤ℤ x → ⊥
    clash x p q = omega (arith, ints)

pub factor_below_0 : (a b : ℤ) → pos 0 <ℤ a → (a *ℤ b) <ℤ pos 0 → b <ℤ pos 0
factor_below_0 a b p h = by_lt_z b (pos 0) (λ lt. lt) (λ ge. absurd (clash (a *ℤ b) h (product_at_least_0 a b (above_is_some a p) ge)))
  where
    clash : (x : ℤ) → x <ℤ pos 0 → pos 0 ≤ℤ x → ⊥
    clash x p q = omega (arith, ints)

-- a positive factor can be taken away from an order
pub factor_le_cancel : (c a b : ℤ) → pos 0 <ℤ c → (c *ℤ a) ≤ℤ (c *ℤ b) → a ≤ℤ b
factor_le_cancel c a b p h =
    let less : pos 0 ≤ℤ (b -ℤ a) = factor_at_least_0 c (b -ℤ a) p (omega (arith, ints, *ℤ--ℤ c b a)) in
    omega (arith, ints)

-- products with the same positive factor have the order of the others
pub lesser_multiple : (d x y : ℤ) → pos 1 ≤ℤ d → (x *ℤ d) <ℤ (y *ℤ d) → x <ℤ y
lesser_multiple d x y some h = by_lt_z x y (λ lt. lt) (λ ge. absurd (omega (arith, ints, h, factor_le d y x (omega (arith, ints, some)) ge, *ℤ_comm x d, *ℤ_comm y d)))
