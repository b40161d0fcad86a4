-- How often the phase row is added, column by column.
use Rattle.std.proofs.Common.{◌≡◌, ℕ, ◌+◌, max, false, cond, ◌&&◌, ◌||◌, List, ℤ, pos, neg_ℤ, ◌*ℤ◌, ◌<ℤ◌, unsigned_abs, sym, ◌∙◌, ap, add-one, inl, inr, arith}
use Rattle.std.specs.Int.{int_max}
use Rattle.std.specs.Prelude.{int_div}
use Rattle.std.proofs.lemmas.Bool.{cases_lt}
use Rattle.std.proofs.lemmas.Int.{ints}
use Rattle.sums.specs.Below.{max_below}
use Rattle.sums.specs.Divisors.{gcd}
use Rattle.sums.proofs.Integers.{neg_ℤ-*ℤ}
use Rattle.sums.proofs.Maxima.{max_below-suc}
use Rattle.frac_row.specs.Outgrown.{is_outgrown}
use Rattle.frac_row.specs.declared.row.FracRow.{FracRow}
use Rattle.row_store.proofs.SignTests.{negative_tested}
use Rattle.simplex_frac.specs.dual_lift.Duals.{ceiling, cost_den, cost_part, phase_den, phase_part, phases_for}
use Rattle.simplex_frac.specs.dual_lift.TooLarge.{phases_for_outgrown}

size_opposite : (z : ℤ) → unsigned_abs (neg_ℤ z) ≡ unsigned_abs z
size_opposite z = omega (arith, ints)

size_product : (c P : ℤ) → unsigned_abs (neg_ℤ c *ℤ P) ≡ unsigned_abs (c *ℤ P)
size_product c P = ap unsigned_abs (neg_ℤ-*ℤ c P) ∙ size_opposite (c *ℤ P)

pub some_wanted : (c C p P n d r : ℤ) → c <ℤ pos 0 → n ≡ neg_ℤ c *ℤ P → is_outgrown (neg_ℤ c *ℤ P) ≡ false → d ≡ p *ℤ C → is_outgrown (p *ℤ C) ≡ false → r ≡ pos (ceiling (unsigned_abs n) (unsigned_abs d))
    → (phases_for_outgrown c C p P ≡ false) × (r ≡ pos (phases_for c C p P))
some_wanted c C p P n d r h en fn ed fd er = (
  ap (λ b. b && (is_outgrown (neg_ℤ c *ℤ P) || is_outgrown (p *ℤ C))) (negative_tested c h) ∙ ap (λ b. b || is_outgrown (p *ℤ C)) fn ∙ fd,
  er ∙ ap (λ z. pos (ceiling z (unsigned_abs d))) (ap unsigned_abs en ∙ size_product c P) ∙ ap (λ z. pos (ceiling (unsigned_abs (c *ℤ P)) (unsigned_abs z))) ed
      ∙ ap (λ b. pos (cond b (ceiling (unsigned_abs (c *ℤ P)) (unsigned_abs (p *ℤ C))) 0)) (sym (negative_tested c h)),
)

-- one column more
greater_is : (m n : ℕ) → int_max (pos m) (pos n) ≡ pos (max m n)
greater_is m n = elim (cases_lt n m) [ inl less ↦ grind (arith, ints) | inr more ↦ grind (arith, ints) ]

pub most_more : (f : ℕ → ℕ) (k : ℕ) (most wanted : ℤ) → most ≡ pos (max_below f k) → wanted ≡ pos (f k) → int_max most wanted ≡ pos (max_below f (k + 1))
most_more f k most wanted e h = ap (λ z. int_max z wanted) e ∙ ap (λ z. int_max (pos (max_below f k)) z) h ∙ greater_is (max_below f k) (f k) ∙ ap pos (sym (max_below-suc f k) ∙ ap (max_below f) (sym (add-one k)))

-- the parts of the denominators
pub phase_part_is : (table : List FracRow) (P C g part : ℤ) → P ≡ phase_den table → C ≡ cost_den table → g ≡ pos (gcd (unsigned_abs P) (unsigned_abs C)) → part ≡ int_div P g → part ≡ phase_part table
unfolding phase_part
phase_part_is table P C g part e f h is = is ∙ ap (λ z. int_div z g) e ∙ ap (int_div (phase_den table)) (h ∙ ap (λ z. pos (gcd (unsigned_abs z) (unsigned_abs C))) e ∙ ap (λ z. pos (gcd (unsigned_abs (phase_den table)) (unsigned_abs z))) f)

pub cost_part_is : (table : List FracRow) (P C g part : ℤ) → P ≡ phase_den table → C ≡ cost_den table → g ≡ pos (gcd (unsigned_abs P) (unsigned_abs C)) → part ≡ int_div C g → part ≡ cost_part table
unfolding cost_part
cost_part_is table P C g part e f h is = is ∙ ap (λ z. int_div z g) f ∙ ap (int_div (cost_den table)) (h ∙ ap (λ z. pos (gcd (unsigned_abs z) (unsigned_abs C))) e ∙ ap (λ z. pos (gcd (unsigned_abs (phase_den table)) (unsigned_abs z))) f)
