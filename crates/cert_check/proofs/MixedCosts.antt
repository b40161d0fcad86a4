-- What a pair costs by its weight, in 128 bits.
use Rattle.std.proofs.Common.{◌≡◌, ◌*◌, ◌^◌, ◌≤◌, ℤ, pos, negsuc, neg_ℤ, ◌*ℤ◌, unsigned_abs, sym, ◌∙◌, ap, subst, arith}
use Rattle.std.proofs.lemmas.Int.{ints}
use Rattle.std.proofs.Math.Nat.{mul-le-mul_right}
use Rattle.sums.proofs.Integers.{*ℤ-neg_ℤ}
use Rattle.sums.proofs.Orders.{times_le}
use Rattle.sums.proofs.Sizes.{size_is}
use Rattle.fleet_model.specs.Limits.{IsCost}
use Rattle.dual_bound.specs.Prices.{max_scale}
use Rattle.dual_bound.specs.Sizes.{IsUpTo}
use Rattle.dual_bound.proofs.Numbers.{held, is_held}
use Rattle.dual_bound.proofs.Sizes.{cost_size}
use Rattle.cert_check.specs.MixedRules.{IsSmallWeight}

-- a weight times a cost
weight_times : (w c : ℤ) → IsSmallWeight w → IsCost c → IsUpTo 3 (w *ℤ c)
weight_times (negsuc n) c small cost = absurd (omega (arith, ints, small.some))
weight_times (pos n) c small cost =
    let low = times_le n (neg_ℤ (pos (3 * 10 ^ 12))) c cost.no_less in
    let high = times_le n c (pos (3 * 10 ^ 12)) cost.no_more in
    let few : n ≤ max_scale = omega (arith, ints, small.small) in
    let wide : n * (3 * 10 ^ 12) ≤ max_scale * (3 * 10 ^ 12) = mul-le-mul_right (3 * 10 ^ 12) few in
    record {
      no_less = omega (arith, ints, low, wide, *ℤ-neg_ℤ (pos n) (pos (3 * 10 ^ 12)));
      no_more = omega (arith, ints, high, wide);
    }

small_up_to : (w : ℤ) → IsSmallWeight w → IsUpTo 1 w
small_up_to w small = record { no_less = omega (arith, ints, small.some, small.small); no_more = omega (arith, ints, small.some, small.small) }

is_product : (w c : ℤ) → IsSmallWeight w → IsCost c → held (held w *ℤ held c) ≡ w *ℤ c
is_product w c small cost =
    ap (λ z. held (z *ℤ held c)) (is_held 1 w (small_up_to w small) (omega arith)) ∙ ap (λ z. held (w *ℤ z)) (is_held 1 c (cost_size c cost) (omega arith))
    ∙ is_held 3 (w *ℤ c) (weight_times w c small cost) (omega arith)

pub weighed : (w weight c units : ℤ) → w ≡ weight → IsSmallWeight w → c ≡ units → IsCost c → held (held w *ℤ held c) ≡ pos (unsigned_abs weight) *ℤ units
weighed w weight c units p small q cost =
    is_product w c small cost ∙ ap (λ z. z *ℤ c) (sym (size_is w small.some)) ∙ ap (λ z. pos (unsigned_abs z) *ℤ c) p ∙ ap (λ z. pos (unsigned_abs weight) *ℤ z) q

pub weighed_small : (w c : ℤ) → IsSmallWeight w → IsCost c → IsUpTo 3 (held (held w *ℤ held c))
weighed_small w c small cost = subst (λ z. IsUpTo 3 z) (sym (is_product w c small cost)) (weight_times w c small cost)
