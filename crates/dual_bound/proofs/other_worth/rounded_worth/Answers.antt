use Rattle.std.proofs.Common.{arith}
use Rattle.std.proofs.lemmas.Int.{ints, to_z-of_z}
use mir.Syntax.{w128}
use Rattle.dual_bound.proofs.Numbers.{is_held}
use Rattle.dual_bound.proofs.OtherSizes.{ceiling_by}
use Rattle.dual_bound.proofs.other_worth.rounded_worth.Goals as goal

pub returns : goal.returns
returns c =
    let worth = to_z-of_z w128 c.worth_by.result (record { sfits = c.worth_by.type_inv }) in
    let scale = is_held 1 c.args.prices.now.scale (record { no_less = omega (arith, ints, c.requires.proper.scale.some); no_more = omega (arith, ints, c.requires.proper.scale.within) }) (omega arith) in
    rw (to_z-of_z w128 c.ceil_div.result (record { sfits = c.ceil_div.type_inv })) (ceiling_by _ _ _ _ _ _ c.worth_by.ensures (rw (worth, scale) at c.ceil_div.ensures))
