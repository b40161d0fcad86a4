-- The difference of two numbers that are 0 or 1, as it is held.
use Rattle.std.proofs.Common.{◌≡◌, Bool, true, false, ℤ, ◌-ℤ◌, refl, ◌∙◌, ap, of_z, to_z}
use mir.Syntax.{w128}
use Rattle.lp_rows.specs.Entries.{one_if}

two_held : (a b : Bool) → to_z w128 (of_z w128 (to_z w128 (of_z w128 (one_if a)) -ℤ to_z w128 (of_z w128 (one_if b)))) ≡ one_if a -ℤ one_if b
two_held true true = refl
two_held true false = refl
two_held false true = refl
two_held false false = refl

pub difference : (x y : ℤ) (a b : Bool) → x ≡ one_if a → y ≡ one_if b → to_z w128 (of_z w128 (to_z w128 (of_z w128 x) -ℤ to_z w128 (of_z w128 y))) ≡ one_if a -ℤ one_if b
difference x y a b one other =
    ap (λ z. to_z w128 (of_z w128 (to_z w128 (of_z w128 z) -ℤ to_z w128 (of_z w128 y)))) one
    ∙ ap (λ z. to_z w128 (of_z w128 (to_z w128 (of_z w128 (one_if a)) -ℤ to_z w128 (of_z w128 z)))) other
    ∙ two_held a b
