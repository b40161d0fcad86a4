use Rattle.std.proofs.Common.{◌≡◌, ℕ, arith, pos, subst}
use Rattle.std.specs.Prelude.{ℤ, ◌<ℤ◌}
use Rattle.std.proofs.lemmas.Int.{ints}
use Rattle.sums.specs.Divisors.{gcd_below}
use Rattle.frac_row.specs.Row.{IsRow, common_divisor}
use Rattle.frac_row.specs.declared.row.FracRow.{FracRow}
use Rattle.frac_row.proofs.Rows.{common_divisor_range}
use Rattle.simplex_frac.proofs.dual_lift.lowest_terms.divisor_of.Goals as goal

at_end : (d : ℕ) (f : ℕ → ℕ) (x : ℤ) (i n : ℕ) → x ≡ pos (gcd_below d f i) → i ≡ n → x ≡ pos (gcd_below d f n)
at_end d f x i n e same = subst (λ k. x ≡ pos (gcd_below d f k)) same e

pub returns-clause-value : goal.returns-clause-value
unfolding common_divisor
returns-clause-value c = at_end _ _ _ c.loop-value.value-index _ c.loop-value.invariant (omega arith)

pub returns-clause-positive : goal.returns-clause-positive
returns-clause-positive c = above _ c.requires _ (returns-clause-value c)
  where
    above : (row : FracRow) → IsRow row → (x : ℤ) → x ≡ pos (common_divisor row) → pos 0 <ℤ x
    above row h x e = omega (arith, ints, (common_divisor_range row h).1)
