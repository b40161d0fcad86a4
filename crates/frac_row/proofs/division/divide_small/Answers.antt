use Rattle.std.proofs.Common.{◌≡◌, rules, ℤ, ◌+ℤ◌, ◌*ℤ◌, to_z, of_z, ◌∙◌, ap}
use Rattle.std.proofs.lemmas.Int.{to_z-of_z, quot_rem_is, quot_fits}
use mir.Val.{SFits}
use mir.Syntax.{w64, w128}
use Rattle.frac_row.proofs.division.divide_small.Goals as goal

-- the quotient and the rest as the calls give them
given : (x y q r d n : ℤ) → SFits w128 x → SFits w128 y → x ≡ q → y ≡ r → (q *ℤ d) +ℤ r ≡ n → (to_z w128 (of_z w128 x) *ℤ d) +ℤ to_z w128 (of_z w128 y) ≡ n
given x y q r d n fx fy p s e =
    ap (λ z. (z *ℤ d) +ℤ to_z w128 (of_z w128 y)) (to_z-of_z w128 x fx ∙ p) ∙ ap (λ z. (q *ℤ d) +ℤ z) (to_z-of_z w128 y fy ∙ s) ∙ e

pub returns-clause-exact : goal.returns-clause-exact
returns-clause-exact c =
    let fx : SFits w128 c.into.result = search rules in
    let fy : SFits w128 c.into-2.result = search rules in
    given _ _ _ _ _ _ fx fy c.into.ensures c.into-2.ensures (quot_rem_is w64 c.args.n c.args.d c.ranges.n c.ranges.d (quot_fits w64 c.args.n c.args.d c.ranges.n c.requires))
