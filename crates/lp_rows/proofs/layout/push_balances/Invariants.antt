use Rattle.std.proofs.Common.{◌≡◌, ◌++◌, map, take}
use Rattle.lp_rows.specs.declared.kinds.Line.TheVariants.{Balance}
use Rattle.lp_rows.proofs.layout.push_balances.Given as goal

abbrev pub invariant-loop-node : goal.invariant-loop-node
invariant-loop-node l = l.lines.items ≡ l.fn.lines.items ++ map Balance (take l.node-index l.nodes)
