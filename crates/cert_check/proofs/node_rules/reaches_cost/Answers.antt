use mir.Syntax.{w128}
use Rattle.std.proofs.lemmas.Int.{to_z-of_z}
use Rattle.cert_check.proofs.NodeRules.{reached}
use Rattle.cert_check.proofs.node_rules.reaches_cost.Goals as goal

pub returns : goal.returns
returns c =
    reached _ _ _ _ _ _ c.requires.scale.some c.rounded_worth.ensures
    (rw (to_z-of_z w128 c.rounded_worth.result (record { sfits = c.rounded_worth.type_inv })) at c.is_no_more.ensures)
