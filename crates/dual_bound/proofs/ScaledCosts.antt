-- What 128 bits hold of a cost over a scale, and what a pair is worth by prices that are all 0.
use Rattle.std.proofs.Common.{◌≡◌, ℕ, ◌<◌, ◌≤◌, ℤ, pos, ◌+ℤ◌, ◌-ℤ◌, ◌*ℤ◌, sym, ◌∙◌, ap, subst, arith}
use Rattle.std.proofs.lemmas.Int.{ints}
use mir.Syntax.{w128}
use mir.Val.{SFits}
use lib.IntN.{zero-*ℤ}
use Rattle.sums.proofs.Integers.{one-*ℤ}
use Rattle.fleet_model.specs.declared.parts.Pair.{Pair}
use Rattle.fleet_model.specs.declared.tables.Tables.{Tables}
use Rattle.fleet_model.specs.Limits.{IsCost}
use Rattle.fleet_model.specs.Schedule.{IsPair, fleet_by, fleets_in, leg_of}
use Rattle.fleet_model.specs.Times.{departure, laps_of, ready_minute}
use Rattle.dual_bound.specs.declared.prices.Prices.{Prices}
use Rattle.dual_bound.specs.Prices.{IsScale, price_of, rent_of}
use Rattle.dual_bound.specs.Rising.{IsUnpricedFleet}
use Rattle.dual_bound.specs.Sizes.{IsUpTo}
use Rattle.dual_bound.specs.Worth.{cost_units, pair_worth, where_flown}
use Rattle.dual_bound.proofs.Charges.{flown}
use Rattle.dual_bound.proofs.Numbers.{fits, held, is_held, many}
use Rattle.dual_bound.proofs.Sizes.{cost_size, scaled}

pub zero_size : IsUpTo 3 (pos 0)
zero_size = record { no_less = omega (arith, ints); no_more = omega (arith, ints) }

pub not_at_all : (k : ℕ) (s c : ℤ) → k ≡ 0 → pos 0 ≡ pos k *ℤ s *ℤ c
not_at_all k s c none = sym (ap (λ n. pos n *ℤ s *ℤ c) none ∙ ap (λ z. z *ℤ c) (zero-*ℤ s) ∙ zero-*ℤ c)

-- ---- once
scale_size : (s : ℤ) → IsScale s → IsUpTo 1 s
scale_size s scale = record { no_less = omega (arith, ints); no_more = omega (arith, ints) }

product_size : (s c : ℤ) → IsScale s → IsCost c → IsUpTo 3 (s *ℤ c)
product_size s c scale cost = scaled s c scale.some scale.within cost

factors_held : (s c : ℤ) → IsScale s → IsCost c → held s *ℤ held c ≡ s *ℤ c
factors_held s c scale cost = ap (λ z. z *ℤ held c) (is_held 1 s (scale_size s scale) (omega arith)) ∙ ap (λ z. s *ℤ z) (is_held 1 c (cost_size c cost) (omega arith))

pub product_fits : (s c : ℤ) → IsScale s → IsCost c → SFits w128 (held s *ℤ held c)
product_fits s c scale cost = subst (λ z. SFits w128 z) (sym (factors_held s c scale cost)) (fits 3 (s *ℤ c) (product_size s c scale cost) (omega arith))

product_held : (s c : ℤ) → IsScale s → IsCost c → held (held s *ℤ held c) ≡ s *ℤ c
product_held s c scale cost = ap held (factors_held s c scale cost) ∙ is_held 3 (s *ℤ c) (product_size s c scale cost) (omega arith)

pub product_up_to : (s c : ℤ) → IsScale s → IsCost c → IsUpTo 3 (held (held s *ℤ held c))
product_up_to s c scale cost = subst (λ z. IsUpTo 3 z) (sym (product_held s c scale cost)) (product_size s c scale cost)

pub once : (k : ℕ) (s c units : ℤ) → k ≤ 1 → (k ≡ 0 → ⊥) → IsScale s → IsCost c → c ≡ units → held (held s *ℤ held c) ≡ pos k *ℤ s *ℤ units
once k s c units few some scale cost is =
    product_held s c scale cost ∙ ap (λ z. s *ℤ z) is ∙ sym (ap (λ z. z *ℤ units) (ap (λ n. pos n *ℤ s) (just_one k few some) ∙ one-*ℤ s))
  where
    just_one : (k : ℕ) → k ≤ 1 → (k ≡ 0 → ⊥) → k ≡ 1
    just_one k few some = omega arith

-- ---- the worth of a pair, which isn't more than of a cost, two prices and two rents
pub worth_held : (n : ℕ) (z w : ℤ) → IsUpTo n z → n ≤ many → z ≡ w → held z ≡ w
worth_held n z w small few is = is_held n z small few ∙ is

pub pair_held : (z : ℤ) → IsUpTo 7 z → IsUpTo 7 (held z)
pair_held z small = subst (λ y. IsUpTo 7 y) (sym (is_held 7 z small (omega arith))) small

pub cost_as_pair : (z : ℤ) → IsUpTo 3 z → IsUpTo 7 (held z)
cost_as_pair z small = pair_held z (record { no_less = omega (arith, ints); no_more = omega (arith, ints) })

-- the cost alone, where aircraft add nothing
cost_alone : (t : Tables) (prices : Prices) (k : ℕ) (p : Pair) (s z fall rent : ℤ) → fall ≡ pos 0 → rent ≡ pos 0 → s ≡ prices.scale → z ≡ pos k *ℤ s *ℤ cost_units t p → IsUpTo 3 z
    → held z ≡ (pos k *ℤ prices.scale *ℤ cost_units t p) +ℤ fall +ℤ rent
cost_alone t prices k p s z fall rent e g scale is small =
    worth_held 3 z _ small (omega arith) (is ∙ ap (λ y. pos k *ℤ y *ℤ cost_units t p) scale) ∙ added (pos k *ℤ prices.scale *ℤ cost_units t p) fall rent e g
  where
    added : (cost fall rent : ℤ) → fall ≡ pos 0 → rent ≡ pos 0 → cost ≡ cost +ℤ fall +ℤ rent
    added cost fall rent e g = omega (arith, ints, e, g)

-- .. since rent and prices are 0 of its fleet
pub idle_worth : (t : Tables) (prices : Prices) (k : ℕ) (p : Pair) (f : ℕ) (s z : ℤ) → IsPair t p → f ≡ fleet_by t p → f < fleets_in t → IsUnpricedFleet prices f → s ≡ prices.scale → z ≡ pos k *ℤ s *ℤ cost_units t p → IsUpTo 3 z → held z ≡ pair_worth t prices k p
idle_worth t prices k p f s z pair by known none scale is small =
    let flies : fleet_by t p < fleets_in t = subst (λ n. n < fleets_in t) by known in
    let idle : IsUnpricedFleet prices (fleet_by t p) = subst (IsUnpricedFleet prices) by none in
    cost_alone t prices k p s z _ _
    (flown t p _ pair flies ∙ less _ _ (idle.each (leg_of t p.leg).from (departure t p)) (idle.each (leg_of t p.leg).to (ready_minute t p)))
    (flown t p _ pair flies ∙ ap (λ y. y *ℤ pos (laps_of t p)) idle.rent ∙ zero-*ℤ (pos (laps_of t p))) scale is small
  where
    less : (from to : ℤ) → from ≡ pos 0 → to ≡ pos 0 → from -ℤ to ≡ pos 0
    less from to e g = omega (arith, ints, e, g)

-- what a flown pair costs by prices
pub priced_worth : (t : Tables) (prices : Prices) (k : ℕ) (p : Pair) (f : ℕ) (z : ℤ) → IsPair t p → f ≡ fleet_by t p → f < fleets_in t
    → z ≡ (pos k *ℤ prices.scale *ℤ cost_units t p)
    +ℤ (price_of prices f (leg_of t p.leg).from (departure t p) -ℤ price_of prices f (leg_of t p.leg).to (ready_minute t p)) +ℤ (rent_of prices f *ℤ pos (laps_of t p))
    → z ≡ pair_worth t prices k p
priced_worth t prices k p f z pair by known is =
    let flies : fleet_by t p < fleets_in t = subst (λ n. n < fleets_in t) by known in
    is
    ∙ ap (λ n. (pos k *ℤ prices.scale *ℤ cost_units t p)
    +ℤ (price_of prices n (leg_of t p.leg).from (departure t p) -ℤ price_of prices n (leg_of t p.leg).to (ready_minute t p)) +ℤ (rent_of prices n *ℤ pos (laps_of t p))) by
    ∙ ap (λ y. (pos k *ℤ prices.scale *ℤ cost_units t p) +ℤ y +ℤ (rent_of prices (fleet_by t p) *ℤ pos (laps_of t p))) (sym (flown t p _ pair flies))
    ∙ ap (λ y. (pos k *ℤ prices.scale *ℤ cost_units t p)
    +ℤ where_flown t p (price_of prices (fleet_by t p) (leg_of t p.leg).from (departure t p) -ℤ price_of prices (fleet_by t p) (leg_of t p.leg).to (ready_minute t p)) +ℤ y) (sym (flown t p _ pair flies))
