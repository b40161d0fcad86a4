-- Products of whole numbers below a bound.
use Rattle.std.proofs.Common.{◌≡◌, ℕ, zero, suc, ◌<◌, ◌==◌, Bool, true, false, if◌then◌else◌, cond, ℤ, pos, ◌*ℤ◌, ◌<ℤ◌, sym, ◌∙◌, ap, inl, inr, arith}
use Rattle.std.proofs.lemmas.Bool.{cases_lt, eq-eqb, ne_eqb, cond-true, cond-false}
use Rattle.std.proofs.lemmas.Int.{ints}
use lib.IntN.{*ℤ_comm}
use Rattle.sums.proofs.Integers.{*ℤ_assoc, positive_product}

-- f 0 times f 1 times .. up to and without f n
unfoldable pub product_below : (ℕ → ℤ) → ℕ → ℤ
product_below f zero = pos 1
product_below f (suc n) = product_below f n *ℤ f n

-- the same without the factor at one place
unfoldable pub product_beside : (ℕ → ℤ) → ℕ → ℕ → ℤ
product_beside f place zero = pos 1
product_beside f place (suc n) = if place == n then product_below f n else product_beside f place n *ℤ f n

pub product_positive : (f : ℕ → ℤ) (n : ℕ) → ((k : ℕ) → k < n → pos 0 <ℤ f k) → pos 0 <ℤ product_below f n
unfolding product_below
product_positive f zero h = omega (arith, ints)
product_positive f (suc n) h = positive_product (product_below f n) (f n) (product_positive f n (λ k lt. h k (omega arith))) (h n (omega arith))

both : (P : ℤ → Type 0) (b : Bool) (x y : ℤ) → P x → P y → P (cond b x y)
both P true x y p q = p
both P false x y p q = q

pub beside_positive : (f : ℕ → ℤ) (place n : ℕ) → ((k : ℕ) → k < n → pos 0 <ℤ f k) → pos 0 <ℤ product_beside f place n
unfolding product_beside
beside_positive f place zero h = omega (arith, ints)
beside_positive f place (suc n) h =
    both (λ x. pos 0 <ℤ x) (place == n) (product_below f n) (product_beside f place n *ℤ f n) (product_positive f n (λ k lt. h k (omega arith)))
    (positive_product (product_beside f place n) (f n) (beside_positive f place n (λ k lt. h k (omega arith))) (h n (omega arith)))

-- times that factor it is the whole product
pub beside_times : (f : ℕ → ℤ) (place n : ℕ) → place < n → product_beside f place n *ℤ f place ≡ product_below f n
unfolding product_beside product_below
beside_times f place zero lt = absurd (omega arith)
beside_times f place (suc n) lt =
    elim (cases_lt place n) [
      | inl less ↦ ap (λ x. x *ℤ f place) (cond-false (place == n) (product_below f n) (product_beside f place n *ℤ f n) (ne_eqb place n (apart place n less)))
          ∙ *ℤ_assoc (product_beside f place n) (f n) (f place) ∙ ap (λ x. product_beside f place n *ℤ x) (*ℤ_comm (f n) (f place))
          ∙ sym (*ℤ_assoc (product_beside f place n) (f place) (f n)) ∙ ap (λ x. x *ℤ f n) (beside_times f place n less)
      | inr ge ↦ let same : place ≡ n = omega arith in
          ap (λ x. x *ℤ f place) (cond-true (place == n) (product_below f n) (product_beside f place n *ℤ f n) (eq-eqb place n same)) ∙ ap (λ i. product_below f n *ℤ f i) same
    ]
  where
    apart : (m n : ℕ) → m < n → m ≡ n → ⊥
    apart m n lt e = omega arith
