use Rattle.std.proofs.Common.{refl}
use Rattle.lp_rows.specs.declared.kinds.Line.TheVariants.{Balance}
use Rattle.lp_rows.proofs.ListsBehind.{all_values_behind, one_value_behind}
use Rattle.lp_rows.proofs.layout.push_balances.Goals as goal

pub loop-node-preserved : goal.loop-node-preserved
loop-node-preserved c = one_value_behind Balance c.args.nodes.now _ _ _ _ c.loop-node.node-index _ c.loop-node-test.true c.loop-node.invariant c.in_ok-push.ensures.items refl

pub returns : goal.returns
returns c = all_values_behind Balance c.args.nodes.now _ _ c.loop-node.node-index c.loop-node-test.false c.loop-node.invariant
