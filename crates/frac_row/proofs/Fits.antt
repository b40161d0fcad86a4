-- Products and differences that fit into the numbers of 128 bits.
use Rattle.std.proofs.Common.{◌≡◌, ℤ, ◌-ℤ◌, ◌*ℤ◌, FitsSigned, arith, to_z, of_z}
use Rattle.std.proofs.lemmas.Int.{ints, to_z-of_z}
use mir.Val.{SFits}
use mir.Syntax.{w128}
use Rattle.frac_row.specs.Outgrown.{IsWithin}

pub fits : (z : ℤ) → IsWithin z → SFits w128 z
fits z h = omega (arith, ints)

pub product_fits : (a b : ℤ) → SFits w128 a → SFits w128 b → IsWithin (a *ℤ b) → FitsSigned w128 (to_z w128 (of_z w128 a) *ℤ to_z w128 (of_z w128 b))
product_fits a b fa fb h = simp to_z-of_z (fits (a *ℤ b) h)

pub product_is : (a b : ℤ) → SFits w128 a → SFits w128 b → IsWithin (a *ℤ b) → to_z w128 (of_z w128 (to_z w128 (of_z w128 a) *ℤ to_z w128 (of_z w128 b))) ≡ a *ℤ b
product_is a b fa fb h = let fp : SFits w128 (a *ℤ b) = fits (a *ℤ b) h in simp to_z-of_z

pub difference_is : (a b c d : ℤ) → SFits w128 a → SFits w128 b → SFits w128 c → SFits w128 d → IsWithin (a *ℤ b) → IsWithin (c *ℤ d) → to_z w128 (of_z w128 (to_z w128 (of_z w128 a) *ℤ to_z w128 (of_z w128 b))) -ℤ to_z w128 (of_z w128 (to_z w128 (of_z w128 c) *ℤ to_z w128 (of_z w128 d))) ≡ (a *ℤ b) -ℤ (c *ℤ d)
difference_is a b c d fa fb fc fd p q =
    let fp : SFits w128 (a *ℤ b) = fits (a *ℤ b) p in
    let fq : SFits w128 (c *ℤ d) = fits (c *ℤ d) q in
    simp to_z-of_z
