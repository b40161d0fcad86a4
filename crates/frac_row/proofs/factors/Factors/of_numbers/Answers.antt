use Rattle.std.proofs.Common.{◌≡◌, refl, ℤ, pos, ◌<ℤ◌, arith, rules, ◌∙◌, to_z, of_z}
use Rattle.std.specs.Prelude.{int_div, unsigned_abs}
use Rattle.std.proofs.lemmas.Int.{ints, to_z-of_z}
use mir.Val.{SFits}
use mir.Syntax.{w128}
use Rattle.sums.specs.Divisors.{gcd}
use Rattle.sums.proofs.Divisors.{gcd_positive}
use Rattle.frac_row.specs.declared.factors.Factors.{Factors}
use Rattle.frac_row.specs.Combined.{factors_of_numbers}
use Rattle.frac_row.proofs.factors.Factors.of_numbers.Goals as goal

-- the divisor is above 0 where the pivot row's number is
above : (p q g : ℤ) → pos 0 <ℤ p → g ≡ pos (gcd (unsigned_abs p) (unsigned_abs q)) → pos 0 <ℤ g
above p q g h e = omega (arith, ints, gcd_positive (unsigned_abs p) (unsigned_abs q) (omega (arith, ints)))

-- a quotient as the call takes and gives it
quotient : (q n d : ℤ) → SFits w128 q → SFits w128 n → SFits w128 d → q ≡ int_div (to_z w128 (of_z w128 n)) (to_z w128 (of_z w128 d)) → to_z w128 (of_z w128 q) ≡ int_div n d
quotient q n d fq fn fd e = to_z-of_z w128 q fq ∙ (simp to_z-of_z at e)

factors_from : (p q g own pivot : ℤ) → g ≡ pos (gcd (unsigned_abs p) (unsigned_abs q)) → own ≡ int_div p g → pivot ≡ int_div q g → ◌≡◌ {A = Factors} (record { own = own; pivot = pivot }) (factors_of_numbers q p)
factors_from p q g own pivot eg eo es = rw (← eg, ← eo, ← es) refl

pub divide-requires : goal.divide-requires
divide-requires c =
    let fp : SFits w128 c.args.pivot_number.now = search rules in
    let fq : SFits w128 c.args.number.now = search rules in
    let fg : SFits w128 c.gcd-divisor.result = search rules in
    let some : pos 0 <ℤ c.gcd-divisor.result = above c.args.pivot_number.now c.args.number.now c.gcd-divisor.result c.requires.positive (simp to_z-of_z at c.gcd-divisor.ensures) in
    omega (arith, ints)

pub returns : goal.returns
returns c =
    let fp : SFits w128 c.args.pivot_number.now = search rules in
    let fq : SFits w128 c.args.number.now = search rules in
    let fg : SFits w128 c.gcd-divisor.result = search rules in
    let fo : SFits w128 c.divide.result.quotient = search rules in
    let fs : SFits w128 c.divide-2.result.quotient = search rules in
    factors_from _ _ c.gcd-divisor.result _ _ (simp to_z-of_z at c.gcd-divisor.ensures)
    (quotient _ _ _ fo fp fg c.divide.ensures.quotient) (quotient _ _ _ fs fq fg c.divide-2.ensures.quotient)
