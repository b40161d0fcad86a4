-- Laws of the product of whole numbers that std does not have.
use Rattle.std.proofs.Common.{◌≡◌, ℕ, zero, suc, ◌*◌, refl, sym, ◌∙◌, ap, arith}
use Rattle.std.specs.Prelude.{ℤ, pos, negsuc, ◌+ℤ◌, ◌-ℤ◌, ◌*ℤ◌, ◌<ℤ◌}
use Rattle.std.proofs.lemmas.Int.{ints}
use Rattle.sums.proofs.Naturals.{positive_times}
use Rattle.sums.proofs.Sizes.{from_no_difference, pos_above}
use lib.IntN.{pred_ℤ, neg_ℤ, suc_ℤ-*ℤ, pred_ℤ-*ℤ, suc_ℤ-+ℤ, pred_ℤ-+ℤ, +ℤ_idl, zero-*ℤ, *ℤ_comm, +ℤ_invr}

-- the sum of two numbers times a third
pub +ℤ-*ℤ : (a b c : ℤ) → (a +ℤ b) *ℤ c ≡ (a *ℤ c) +ℤ (b *ℤ c)
+ℤ-*ℤ (pos zero) b c =
    ap (λ x. x *ℤ c) (+ℤ_idl b) ∙ sym (+ℤ_idl (b *ℤ c)) ∙ ap (λ x. x +ℤ (b *ℤ c)) (sym (zero-*ℤ c))
+ℤ-*ℤ (pos (suc n)) b c =
    ap (λ x. x *ℤ c) (suc_ℤ-+ℤ (pos n) b) ∙ suc_ℤ-*ℤ (pos n +ℤ b) c ∙ omega (arith, ints, +ℤ-*ℤ (pos n) b c, suc_ℤ-*ℤ (pos n) c)
+ℤ-*ℤ (negsuc zero) b c =
    ap (λ x. x *ℤ c) (pred_ℤ-+ℤ (pos zero) b ∙ ap pred_ℤ (+ℤ_idl b)) ∙ pred_ℤ-*ℤ b c ∙ omega (arith, ints, pred_ℤ-*ℤ (pos zero) c, zero-*ℤ c)
+ℤ-*ℤ (negsuc (suc n)) b c =
    ap (λ x. x *ℤ c) (pred_ℤ-+ℤ (negsuc n) b) ∙ pred_ℤ-*ℤ (negsuc n +ℤ b) c ∙ omega (arith, ints, +ℤ-*ℤ (negsuc n) b c, pred_ℤ-*ℤ (negsuc n) c)

pub *ℤ-+ℤ : (a b c : ℤ) → a *ℤ (b +ℤ c) ≡ (a *ℤ b) +ℤ (a *ℤ c)
*ℤ-+ℤ a b c = *ℤ_comm a (b +ℤ c) ∙ +ℤ-*ℤ b c a ∙ omega (arith, ints, *ℤ_comm a b, *ℤ_comm a c)

-- the opposite of a factor is the opposite of the product
pub neg_ℤ-*ℤ : (a b : ℤ) → neg_ℤ a *ℤ b ≡ neg_ℤ (a *ℤ b)
neg_ℤ-*ℤ a b = omega (arith, ints, sym (+ℤ-*ℤ a (neg_ℤ a) b) ∙ ap (λ x. x *ℤ b) (+ℤ_invr a) ∙ zero-*ℤ b)

pub *ℤ-neg_ℤ : (a b : ℤ) → a *ℤ neg_ℤ b ≡ neg_ℤ (a *ℤ b)
*ℤ-neg_ℤ a b = *ℤ_comm a (neg_ℤ b) ∙ neg_ℤ-*ℤ b a ∙ ap neg_ℤ (*ℤ_comm b a)

pub -ℤ-*ℤ : (a b c : ℤ) → (a -ℤ b) *ℤ c ≡ (a *ℤ c) -ℤ (b *ℤ c)
-ℤ-*ℤ a b c = +ℤ-*ℤ a (neg_ℤ b) c ∙ ap (λ x. (a *ℤ c) +ℤ x) (neg_ℤ-*ℤ b c)

pub *ℤ--ℤ : (a b c : ℤ) → a *ℤ (b -ℤ c) ≡ (a *ℤ b) -ℤ (a *ℤ c)
*ℤ--ℤ a b c = *ℤ-+ℤ a b (neg_ℤ c) ∙ ap (λ x. (a *ℤ b) +ℤ x) (*ℤ-neg_ℤ a c)

minus_one : (a : ℤ) → negsuc zero *ℤ a ≡ neg_ℤ a
minus_one a = pred_ℤ-*ℤ (pos zero) a ∙ omega (arith, ints, zero-*ℤ a)

pub *ℤ_assoc : (a b c : ℤ) → (a *ℤ b) *ℤ c ≡ a *ℤ (b *ℤ c)
*ℤ_assoc (pos zero) b c = ap (λ x. x *ℤ c) (zero-*ℤ b) ∙ zero-*ℤ c ∙ sym (zero-*ℤ (b *ℤ c))
*ℤ_assoc (pos (suc n)) b c =
    ap (λ x. x *ℤ c) (suc_ℤ-*ℤ (pos n) b) ∙ +ℤ-*ℤ (pos n *ℤ b) b c ∙ ap (λ x. x +ℤ (b *ℤ c)) (*ℤ_assoc (pos n) b c) ∙ sym (suc_ℤ-*ℤ (pos n) (b *ℤ c))
*ℤ_assoc (negsuc zero) b c =
    ap (λ x. x *ℤ c) (minus_one b) ∙ neg_ℤ-*ℤ b c ∙ sym (minus_one (b *ℤ c))
*ℤ_assoc (negsuc (suc n)) b c =
    ap (λ x. x *ℤ c) (pred_ℤ-*ℤ (negsuc n) b) ∙ -ℤ-*ℤ (negsuc n *ℤ b) b c ∙ ap (λ x. x -ℤ (b *ℤ c)) (*ℤ_assoc (negsuc n) b c) ∙ sym (pred_ℤ-*ℤ (negsuc n) (b *ℤ c))

pub one-*ℤ : (a : ℤ) → pos 1 *ℤ a ≡ a
one-*ℤ a = suc_ℤ-*ℤ (pos zero) a ∙ omega (arith, ints, zero-*ℤ a)

pub minus_one-*ℤ : (a : ℤ) → neg_ℤ (pos 1) *ℤ a ≡ neg_ℤ a
minus_one-*ℤ a = omega (arith, ints, neg_ℤ-*ℤ (pos 1) a, one-*ℤ a)

-- the product's order of factors
pub *ℤ_left_comm : (a b c : ℤ) → a *ℤ (b *ℤ c) ≡ b *ℤ (a *ℤ c)
*ℤ_left_comm a b c = sym (*ℤ_assoc a b c) ∙ ap (λ x. x *ℤ c) (*ℤ_comm a b) ∙ *ℤ_assoc b a c

pub times_one : (a : ℤ) → a *ℤ pos 1 ≡ a
times_one a = *ℤ_comm a (pos 1) ∙ one-*ℤ a

-- a product of numbers above 0 is above 0
pub positive_product : (a b : ℤ) → pos 0 <ℤ a → pos 0 <ℤ b → pos 0 <ℤ (a *ℤ b)
positive_product (pos a) (pos b) p q = pos_above (a * b) (positive_times a b (omega (arith, ints)) (omega (arith, ints)))
positive_product (pos a) (negsuc b) p q = absurd (omega (arith, ints))
positive_product (negsuc a) b p q = absurd (omega (arith, ints))

no_zero_product : (m n : ℕ) → pos 0 ≡ pos (suc m * suc n) → ⊥
no_zero_product m n e = omega (arith, ints)

-- where a product with a positive number is 0, the other factor is
pub zero_factor : (p a : ℤ) → pos 0 <ℤ p → p *ℤ a ≡ pos 0 → a ≡ pos 0
zero_factor (pos zero) a above e = absurd (omega (arith, ints))
zero_factor (negsuc p) a above e = absurd (omega (arith, ints))
zero_factor (pos (suc p)) (pos zero) above e = refl
zero_factor (pos (suc p)) (pos (suc a)) above e = absurd (no_zero_product p a (sym e))
zero_factor (pos (suc p)) (negsuc a) above e = absurd (no_zero_product p a (omega (arith, ints)))

-- a positive factor can be taken away from an equation
pub *ℤ_cancel : (p a b : ℤ) → pos 0 <ℤ p → p *ℤ a ≡ p *ℤ b → a ≡ b
*ℤ_cancel p a b above e = from_no_difference a b (zero_factor p (a -ℤ b) above (*ℤ--ℤ p a b ∙ omega (arith, ints)))
