-- Pairs of numbers of which the first counts before the second: how they rise, and what their products and sums are.
use Rattle.std.proofs.Common.{◌≡◌, ℕ, ◌<◌, ℤ, pos, ◌*ℤ◌, ◌<ℤ◌, ◌≤ℤ◌, sym, ◌∙◌, ap, subst, arith}
use Rattle.std.specs.Prelude.{neg_ℤ}
use Rattle.std.proofs.lemmas.Int.{ints, by_lt_z}
use lib.IntN.{*ℤ_comm, *ℤ-zero, zero-*ℤ}
use Rattle.sums.specs.Below.{sum_below_ℤ}
use Rattle.sums.proofs.Integers.{*ℤ_assoc, *ℤ_left_comm, *ℤ_cancel, neg_ℤ-*ℤ, *ℤ-neg_ℤ, zero_factor}
use Rattle.sums.proofs.Signs.{product_at_least_0, product_below_0, factor_at_least_0, factor_below_0}
use Rattle.sums.proofs.Sizes.{above_is_some, opposite_some, opposite_above}
use Rattle.sums.proofs.WholeTerms.{at_least_0, each_is_0}
use Rattle.simplex_frac.proofs.OnePivot.{NoLess, Rises}
use Rattle.simplex_frac.proofs.TurnCauses.{Improves, ImprovesNot}

-- equal ratios, so many times each, are equal
pub equal_values : (x x' d d' v v' scale : ℤ) → pos 0 <ℤ d → pos 0 <ℤ d' → x *ℤ d ≡ v *ℤ scale → x' *ℤ d' ≡ v' *ℤ scale → v *ℤ d' ≡ v' *ℤ d → x ≡ x'
equal_values x x' d d' v v' scale above also e f same =
    *ℤ_cancel d x x' above (*ℤ_cancel d' (d *ℤ x) (d *ℤ x') also
    (ap (λ z. d' *ℤ z) (*ℤ_comm d x ∙ e) ∙ turned d' v ∙ ap (λ z. z *ℤ scale) same ∙ sym (turned d v') ∙ ap (λ z. d *ℤ z) (sym f ∙ *ℤ_comm x' d') ∙ *ℤ_left_comm d d' x'))
  where
    turned : (a b : ℤ) → a *ℤ (b *ℤ scale) ≡ (b *ℤ a) *ℤ scale
    turned a b = sym (*ℤ_assoc a b scale) ∙ ap (λ z. z *ℤ scale) (*ℤ_comm a b)

-- a pair that rises between two equal pairs has no step
pub stands : (a b x y x' y' c d step : ℤ) → NoLess a b x y → Rises x y x' y' step → NoLess x' y' c d → a ≡ c → b ≡ d → step ≡ pos 0
stands a b x y x' y' c d step p r q e f = r.strict first (second (p.second first_before) (r.no_less.second first) (q.second last))
  where
    between : (a x x' c : ℤ) → a ≤ℤ x → x ≤ℤ x' → x' ≤ℤ c → a ≡ c → (a ≡ x) × (x ≡ x') × (x' ≡ c)
    between a x x' c p q r e = (omega (arith, ints), omega (arith, ints), omega (arith, ints))

    chain : (a ≡ x) × (x ≡ x') × (x' ≡ c)
    chain = between a x x' c p.first r.no_less.first q.first e

    first_before : a ≡ x
    first_before = chain.0

    first : x ≡ x'
    first = chain.1

    last : x' ≡ c
    last = chain.2

    second : b ≤ℤ y → y ≤ℤ y' → y' ≤ℤ d → y ≡ y'
    second p q r = (between b y y' d p q r f).1

-- pairs that are not below 0, so many times each
pub times_some : (p q d : ℤ) → ImprovesNot p q → pos 0 ≤ℤ d → ImprovesNot (p *ℤ d) (q *ℤ d)
times_some p q d h some = record {
  phase = product_at_least_0 p d h.phase some;
  cost = λ none. by_lt_z (pos 0) d
      (λ above. product_at_least_0 q d (h.cost (zero_factor d p above (*ℤ_comm d p ∙ none))) some)
      (λ below. nothing (q *ℤ d) (ap (λ z. q *ℤ z) (zero d some below) ∙ *ℤ-zero q));
}
  where
    zero : (d : ℤ) → pos 0 ≤ℤ d → d ≤ℤ pos 0 → d ≡ pos 0
    zero d p q = omega (arith, ints)

    nothing : (z : ℤ) → z ≡ pos 0 → pos 0 ≤ℤ z
    nothing z e = omega (arith, ints)

pub times_none : (p q d : ℤ) → p ≡ pos 0 → q ≡ pos 0 → ImprovesNot (p *ℤ d) (q *ℤ d)
times_none p q d e f = record { phase = nothing _ (ap (λ z. z *ℤ d) e ∙ zero-*ℤ d); cost = λ _. nothing _ (ap (λ z. z *ℤ d) f ∙ zero-*ℤ d) }
  where
    nothing : (z : ℤ) → z ≡ pos 0 → pos 0 ≤ℤ z
    nothing z e = omega (arith, ints)

pub times_zero : (p q d : ℤ) → d ≡ pos 0 → ImprovesNot (p *ℤ d) (q *ℤ d)
times_zero p q d e = record { phase = nothing _ (ap (λ z. p *ℤ z) e ∙ *ℤ-zero p); cost = λ _. nothing _ (ap (λ z. q *ℤ z) e ∙ *ℤ-zero q) }
  where
    nothing : (z : ℤ) → z ≡ pos 0 → pos 0 ≤ℤ z
    nothing z e = omega (arith, ints)

-- a pair below 0 times a number below 0
pub times_below : (p q d : ℤ) → Improves p q → d <ℤ pos 0 → ImprovesNot (p *ℤ d) (q *ℤ d)
times_below p q d h below = record {
  phase = subst (λ z. pos 0 ≤ℤ z) (both p) (product_at_least_0 (neg_ℤ p) (neg_ℤ d) (opposite_some p h.phase) (above_is_some _ (opposite_above d below)));
  cost = λ none. subst (λ z. pos 0 ≤ℤ z) (both q) (product_at_least_0 (neg_ℤ q) (neg_ℤ d) (opposite_some q (no_more q (h.cost (at_zero none)))) (above_is_some _ (opposite_above d below)));
}
  where
    both : (a : ℤ) → neg_ℤ a *ℤ neg_ℤ d ≡ a *ℤ d
    both a = neg_ℤ-*ℤ a (neg_ℤ d) ∙ ap neg_ℤ (*ℤ-neg_ℤ a d) ∙ twice (a *ℤ d)
      where
        twice : (z : ℤ) → neg_ℤ (neg_ℤ z) ≡ z
        twice z = omega (arith, ints)

    no_more : (q : ℤ) → q <ℤ pos 0 → q ≤ℤ pos 0
    no_more q p = omega (arith, ints)

    at_zero : p *ℤ d ≡ pos 0 → p ≡ pos 0
    at_zero none = zero_factor (neg_ℤ d) p (opposite_above d below) (neg_ℤ-*ℤ d p ∙ ap neg_ℤ (*ℤ_comm d p ∙ none))

-- a sum of pairs that are not below 0
pub sums_not_below : (f g : ℕ → ℤ) (n : ℕ) → ((c : ℕ) → c < n → ImprovesNot (f c) (g c)) → ImprovesNot (sum_below_ℤ f n) (sum_below_ℤ g n)
sums_not_below f g n h = record {
  phase = at_least_0 f n (λ c lt. (h c lt).phase);
  cost = λ none. at_least_0 g n (λ c lt. (h c lt).cost (each_is_0 f n c (λ k below. (h k below).phase) none lt));
}

-- one pair that is below 0, and another that is not, over positive numbers
pub clash : (r s p q d e d' e' scale x y : ℤ) → pos 0 <ℤ scale → pos 0 <ℤ d → pos 0 <ℤ e → pos 0 <ℤ d' → pos 0 <ℤ e' → Improves p q → scale *ℤ p ≡ r *ℤ d → scale *ℤ q ≡ s *ℤ e → x ≡ r *ℤ d' → y ≡ s *ℤ e' → ImprovesNot x y → ⊥
clash r s p q d e d' e' scale x y above ad ae ad' ae' h first second third fourth k = no_more s below (cost_some (phase_zero))
  where
    no_more : (s : ℤ) → s <ℤ pos 0 → pos 0 ≤ℤ s → ⊥
    no_more s p q = omega (arith, ints)

    some_phase : pos 0 ≤ℤ r
    some_phase = factor_at_least_0 d' r ad' (subst (λ z. pos 0 ≤ℤ z) (third ∙ *ℤ_comm r d') k.phase)

    no_phase : pos 0 ≤ℤ neg_ℤ r
    no_phase =
        factor_at_least_0 d (neg_ℤ r) ad (subst (λ z. pos 0 ≤ℤ z) (*ℤ-neg_ℤ scale p ∙ ap neg_ℤ (first ∙ *ℤ_comm r d) ∙ sym (*ℤ-neg_ℤ d r))
        (product_at_least_0 scale (neg_ℤ p) (above_is_some scale above) (opposite_some p h.phase)))

    phase_zero : r ≡ pos 0
    phase_zero = zero r some_phase no_phase
      where
        zero : (r : ℤ) → pos 0 ≤ℤ r → pos 0 ≤ℤ neg_ℤ r → r ≡ pos 0
        zero r p q = omega (arith, ints)

    below : s <ℤ pos 0
    below =
        factor_below_0 e s ae (subst (λ z. z <ℤ pos 0) (second ∙ *ℤ_comm s e)
        (product_below_0 scale q above (h.cost (zero_factor scale p above (first ∙ ap (λ z. z *ℤ d) phase_zero ∙ zero-*ℤ d)))))

    cost_some : r ≡ pos 0 → pos 0 ≤ℤ s
    cost_some none = factor_at_least_0 e' s ae' (subst (λ z. pos 0 ≤ℤ z) (fourth ∙ *ℤ_comm s e') (k.cost (third ∙ ap (λ z. z *ℤ d') none ∙ zero-*ℤ d')))
