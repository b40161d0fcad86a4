use Rattle.std.proofs.Common.{◌≡◌, ℕ, ◌≤◌, arith, pos, sym, ap, subst}
use Rattle.std.specs.Prelude.{ℤ, ◌<ℤ◌, length}
use Rattle.std.proofs.lemmas.Int.{ints}
use Rattle.sums.specs.Divisors.{gcd_below}
use Rattle.sums.proofs.Divisors.{gcd_below_one}
use Rattle.frac_row.specs.Row.{common_divisor, IsRow}
use Rattle.frac_row.specs.declared.row.FracRow.{FracRow}
use Rattle.frac_row.proofs.Rows.{common_divisor_range}
use Rattle.frac_row.proofs.lowest_terms.divisor_of.Goals as goal

at_end : (d : ℕ) (f : ℕ → ℕ) (x : ℤ) (i n : ℕ) → x ≡ pos (gcd_below d f i) → i ≡ n → x ≡ pos (gcd_below d f n)
at_end d f x i n e same = subst (λ k. x ≡ pos (gcd_below d f k)) same e

ended : (d : ℕ) (f : ℕ → ℕ) (x : ℤ) (i n : ℕ) → x ≡ pos (gcd_below d f i) → x ≡ pos 1 → i ≤ n → pos 1 ≡ pos (gcd_below d f n)
ended d f x i n e one le = let same : gcd_below d f i ≡ 1 = omega (arith, ints) in ap pos (sym (gcd_below_one d f i n same le))

pub returns-then-divisor-eq1-clause-value : goal.returns-then-divisor-eq1-clause-value
unfolding common_divisor
returns-then-divisor-eq1-clause-value c =
    ended _ _ _ c.loop-number.number-index _ c.loop-number.invariant (omega (arith, ints)) (omega (arith, ap length c.as_slice-numbers.ensures))

pub returns-clause-value : goal.returns-clause-value
unfolding common_divisor
returns-clause-value c = at_end _ _ _ c.loop-number.number-index _ c.loop-number.invariant (omega (arith, ap length c.as_slice-numbers.ensures))

pub returns-clause-positive : goal.returns-clause-positive
unfolding common_divisor
returns-clause-positive c =
    above c.args.row.now c.requires _ (at_end _ _ _ c.loop-number.number-index _ c.loop-number.invariant (omega (arith, ap length c.as_slice-numbers.ensures)))
  where
    above : (row : FracRow) → IsRow row → (x : ℤ) → x ≡ pos (common_divisor row) → pos 0 <ℤ x
    above row h x e = omega (arith, ints, (common_divisor_range row h).1)
