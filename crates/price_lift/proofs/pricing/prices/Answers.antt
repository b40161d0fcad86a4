use Rattle.std.proofs.Common.{◌∙◌, rules}
use Rattle.std.proofs.lemmas.Int.{to_z-of_z}
use mir.Val.{SFits}
use mir.Syntax.{w128}
use Rattle.price_lift.proofs.MadePrices.{prices_made}
use Rattle.price_lift.proofs.pricing.prices.Goals as goal

pub returns : goal.returns
returns c =
    let f : SFits w128 c.args.duals.now.den = search rules in
    prices_made c.args.tables.now c.args.outline.now c.args.duals.now _ c.as_slice-values.result.now c.node_values-of_nodes.result.now c.from_vec.result c.from_vec-2.result c.from_vec-3.result c.requires.outline (to_z-of_z w128 c.args.duals.now.den f)
    c.as_slice-values.ensures c.node_values-of_nodes.ensures (c.from_vec.ensures ∙ c.in_ok-rents.ensures) (c.from_vec-2.ensures ∙ c.in_ok-steps.ensures) (c.from_vec-3.ensures ∙ c.in_ok-charges.ensures)
