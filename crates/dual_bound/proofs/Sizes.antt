-- Sizes of products on the way to a worth.
use Rattle.std.proofs.Common.{ℕ, ◌*◌, ◌^◌, ◌≤◌, ℤ, pos, negsuc, neg_ℤ, ◌*ℤ◌, ◌≤ℤ◌, arith}
use Rattle.std.proofs.lemmas.Int.{ints}
use Rattle.std.proofs.Math.Nat.{mul-le-mul_right}
use lib.IntN.{*ℤ_comm}
use Rattle.sums.proofs.Integers.{*ℤ-neg_ℤ}
use Rattle.sums.proofs.Orders.{times_le}
use Rattle.fleet_model.specs.Limits.{IsCost}
use Rattle.dual_bound.specs.Prices.{max_price, max_scale}
use Rattle.dual_bound.specs.Sizes.{IsUpTo}

-- a count times a number between two bounds
between : (n most : ℕ) (z : ℤ) → neg_ℤ (pos most) ≤ℤ z → z ≤ℤ pos most → (neg_ℤ (pos (n * most)) ≤ℤ (pos n *ℤ z)) × ((pos n *ℤ z) ≤ℤ pos (n * most))
between n most z low high =
    (omega (arith, ints, times_le n (neg_ℤ (pos most)) z low, *ℤ-neg_ℤ (pos n) (pos most)), omega (arith, ints, times_le n z (pos most) high))

-- so many times a number
pub up_to_times : (z : ℤ) (n most : ℕ) → IsUpTo 1 z → n ≤ most → IsUpTo most (z *ℤ pos n)
up_to_times z n most small few =
    let ends = between n (1 * max_price) z small.no_less small.no_more in
    let wide : n * (1 * max_price) ≤ most * max_price = mul-le-mul_right (1 * max_price) few in
    record {
      no_less = omega (arith, ints, ends.0, wide, *ℤ_comm z (pos n));
      no_more = omega (arith, ints, ends.1, wide, *ℤ_comm z (pos n));
    }

-- a cost alone
pub cost_size : (c : ℤ) → IsCost c → IsUpTo 1 c
cost_size c cost = record { no_less = omega (arith, ints, cost.no_less, cost.no_more); no_more = omega (arith, ints, cost.no_less, cost.no_more) }

-- a scale times a cost
pub scaled : (s c : ℤ) → pos 1 ≤ℤ s → s ≤ℤ pos max_scale → IsCost c → IsUpTo 3 (s *ℤ c)
scaled (negsuc n) c some within small = absurd (omega (arith, ints))
scaled (pos n) c some within small =
    let ends = between n (3 * 10 ^ 12) c small.no_less small.no_more in
    let few : n ≤ max_scale = omega (arith, ints) in
    let wide : n * (3 * 10 ^ 12) ≤ max_scale * (3 * 10 ^ 12) = mul-le-mul_right (3 * 10 ^ 12) few in
    record {
      no_less = omega (arith, ints, ends.0, wide);
      no_more = omega (arith, ints, ends.1, wide);
    }
