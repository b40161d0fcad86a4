use Rattle.std.proofs.Common.{◌≡◌, ℕ, ◌≤◌, arith, ℤ, pos, sym, ap}
use Rattle.std.proofs.lemmas.Int.{ints}
use Rattle.sums.specs.Divisors.{gcd_below}
use Rattle.sums.proofs.Divisors.{gcd_below_one}
use Rattle.frac_row.proofs.sparse_lowest_terms.divisor_of.Goals as goal

ended : (d : ℕ) (f : ℕ → ℕ) (x : ℤ) (i n : ℕ) → x ≡ pos (gcd_below d f i) → x ≡ pos 1 → i ≤ n → pos 1 ≡ pos (gcd_below d f n)
ended d f x i n e one le = let same : gcd_below d f i ≡ 1 = omega (arith, ints) in ap pos (sym (gcd_below_one d f i n same le))

pub returns-then-divisor-eq1 : goal.returns-then-divisor-eq1
returns-then-divisor-eq1 c = ended _ _ _ c.loop-entry.entry-index _ c.loop-entry.invariant (omega (arith, ints)) (omega arith)
