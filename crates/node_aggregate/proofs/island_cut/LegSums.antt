-- Sums over legs, fleets and stations, in plain numbers.
use Rattle.std.proofs.Common.{◌≡◌, ◌≢◌, ℕ, zero, suc, ◌+◌, ◌*◌, ◌<◌, ◌≤◌, ◌⊎◌, Bool, true, false, if◌then◌else◌, ◌==◌, ◌&&◌, refl, ◌∙◌, ap, inl, inr, arith}
use Rattle.std.proofs.Math.Nat.{mul-le-mul_left, mul-suc, mul_comm}
use Rattle.std.proofs.lemmas.Bool.{cases_lt}
use Rattle.sums.specs.Below.{sum_below, max_below}
use Rattle.sums.proofs.Maxima.{max_below-suc, max_below-zero}
use Rattle.sums.proofs.Naturals.{by_number, times_below}
use Rattle.sums.proofs.Sums.{sum_below-add, sum_below-agree, sum_below-at, sum_below-le, sum_below-swap}

-- the greatest term is one of them, or 0
pub max_at : (f : ℕ → ℕ) (n : ℕ) → (max_below f n ≡ 0) ⊎ ((k : ℕ) × (k < n) × (f k ≡ max_below f n))
max_at f zero = inl (max_below-zero f)
max_at f (suc n) = elim (cases_lt (max_below f n) (f n)) [
  | inl less ↦ inr (n, omega arith, omega (arith, max_below-suc f n, less))
  | inr no_less ↦
      let same : max_below f (suc n) ≡ max_below f n = omega (arith, max_below-suc f n, no_less) in
      elim (max_at f n) [
        | inl none ↦ inl (omega (arith, same, none))
        | inr found ↦ inr (found.0, omega (arith, found.1), omega (arith, same, found.2))
      ]
]

-- terms that are each no less than others, and have no greater sum, are the same
pub same_terms : (f g : ℕ → ℕ) (n : ℕ) → ((k : ℕ) → k < n → g k ≤ f k) → sum_below f n ≤ sum_below g n → (k : ℕ) → k < n → f k ≡ g k
same_terms f g zero more less k below = absurd (omega arith)
same_terms f g (suc n) more less k below =
    let front = sum_below-le g f n (record { each = λ j before. more j (omega arith) }) in
    let last = more n (omega arith) in
    elim (cases_lt k n) [
      | inl before ↦ same_terms f g n (λ j within. more j (omega arith)) (omega (arith, less, last)) k before
      | inr after ↦ let here : k ≡ n = omega arith in rw here (omega (arith, less, front, last))
    ]

-- what is counted at the places, one by one, is counted once for each leg, at its own place
pub own_places : (place : ℕ → ℕ) (g : ℕ → ℕ → ℕ) (places legs : ℕ) → ((l : ℕ) → l < legs → place l < places)
    → sum_below (λ s. sum_below (λ l. if place l == s then g l s else 0) legs) places ≡ sum_below (λ l. g l (place l)) legs
own_places place g places legs known =
    sum_below-swap (λ s l. if place l == s then g l s else 0) legs places
    ∙ sum_below-agree (λ l. sum_below (λ s. if place l == s then g l s else 0) places) (λ l. g l (place l)) legs
    (record { each = λ l below. sum_below-at (place l) places (g l) (known l below) })

-- what holds of each pair by its weight, where each leg's weights sum to the scale, holds of the sums
module _ (legs fleets scale : ℕ) (w a b : ℕ → ℕ → ℕ) (x y : ℕ → ℕ)
    (each : (l f : ℕ) → l < legs → f < fleets → a l f + x l * w l f ≤ b l f + y l * w l f)
    (cover : (l : ℕ) → l < legs → sum_below (w l) fleets ≡ scale) where
  weighed : (c l : ℕ) → l < legs → sum_below (λ f. c * w l f) fleets ≡ c * scale
  weighed c l below = times_below c (λ f. c * w l f) (w l) fleets (λ f known. refl) ∙ ap (λ n. c * n) (cover l below)

  one_leg : (l : ℕ) → l < legs → sum_below (a l) fleets + x l * scale ≤ sum_below (b l) fleets + y l * scale
  one_leg l below = omega (
    arith,
    sum_below-le (λ f. a l f + x l * w l f) (λ f. b l f + y l * w l f) fleets (record { each = λ f known. each l f below known }),
    sum_below-add (a l) (λ f. x l * w l f) fleets,
    sum_below-add (b l) (λ f. y l * w l f) fleets,
    weighed (x l) l below,
    weighed (y l) l below,
  )

  scaled : (z : ℕ → ℕ) → sum_below (λ l. z l * scale) legs ≡ scale * sum_below z legs
  scaled z = times_below scale (λ l. z l * scale) z legs (λ l below. mul_comm (z l) scale)

  pub over_fleets : sum_below (λ f. sum_below (λ l. a l f) legs) fleets + scale * sum_below x legs ≤ sum_below (λ f. sum_below (λ l. b l f) legs) fleets + scale * sum_below y legs
  over_fleets = omega (
    arith,
    sum_below-le (λ l. sum_below (a l) fleets + x l * scale) (λ l. sum_below (b l) fleets + y l * scale) legs (record { each = one_leg }),
    sum_below-add (λ l. sum_below (a l) fleets) (λ l. x l * scale) legs,
    sum_below-add (λ l. sum_below (b l) fleets) (λ l. y l * scale) legs,
    scaled x,
    scaled y,
    sum_below-swap a fleets legs,
    sum_below-swap b fleets legs,
  )

-- ---- one pair, by where its leg comes, whether it is ready, and its weight
weighed_case : (a c : Bool) (w slow quick : ℕ) → quick + (if a then 1 else 0) ≤ slow + (if c then 1 else 0)
    → (if a then w else 0) + quick * w ≤ w * slow + (if c then 1 else 0) * w
weighed_case true true w slow quick order = let row : w * quick ≤ w * slow = mul-le-mul_left w (omega (arith, order)) in omega (arith, row, mul_comm quick w)
weighed_case true false w slow quick order = let row : w * suc quick ≤ w * slow = mul-le-mul_left w (omega (arith, order)) in omega (arith, row, mul-suc w quick, mul_comm quick w)
weighed_case false true w slow quick order = let row : w * quick ≤ w * suc slow = mul-le-mul_left w (omega (arith, order)) in omega (arith, row, mul-suc w slow, mul_comm quick w)
weighed_case false false w slow quick order = let row : w * quick ≤ w * slow = mul-le-mul_left w (omega (arith, order)) in omega (arith, row, mul_comm quick w)

no_weight : (a c : Bool) (slow quick : ℕ) → (if a then 0 else 0) + quick * 0 ≤ 0 * slow + (if c then 1 else 0) * 0
no_weight true true slow quick = omega arith
no_weight true false slow quick = omega arith
no_weight false true slow quick = omega arith
no_weight false false slow quick = omega arith

pub one_pair : (here a c : Bool) (w slow quick : ℕ) → (w ≢ 0 → quick + (if a then 1 else 0) ≤ slow + (if c then 1 else 0))
    → (if here && a then w else 0) + (if here then quick else 0) * w ≤ (if here then w * slow else 0) + (if here && c then 1 else 0) * w
one_pair false a c w slow quick order = omega arith
one_pair true a c w slow quick order = by_number w (λ none. rw none (no_weight a c slow quick)) (λ some. weighed_case a c w slow quick (order some))

pub one_lap : (here : Bool) (w slow quick : ℕ) → (w ≢ 0 → quick ≤ slow) → 0 + (if here then quick else 0) * w ≤ (if here then w * slow else 0) + 0 * w
one_lap false w slow quick order = omega arith
one_lap true w slow quick order = by_number w (λ none. rw none (omega arith)) (λ some. let row : w * quick ≤ w * slow = mul-le-mul_left w (order some) in omega (arith, row, mul_comm quick w))

pub one_departure : (b : Bool) (w : ℕ) → 0 + (if b then 1 else 0) * w ≤ (if b then w else 0) + 0 * w
one_departure true w = omega arith
one_departure false w = omega arith
