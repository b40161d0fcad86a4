use Rattle.std.proofs.Common.{◌≡◌, ◌++◌, length}
use Rattle.bound_cert.specs.Nodes.{above_of, after_tree, waiting_nodes}
use Rattle.dual_bound.specs.Nodes.{nodes_of}
use Rattle.bound_cert.proofs.tree_reading.with_tree.Given as goal

-- the nodes stay, and so does what stands above the next
abbrev pub invariant-loop-parent : goal.invariant-loop-parent
invariant-loop-parent l = record {
  nodes : waiting_nodes l.waiting.items ++ nodes_of l.whole ≡ waiting_nodes l.initial.waiting.items ++ nodes_of l.initial.whole;
  above : after_tree (above_of l.waiting.items) ≡ after_tree (above_of l.initial.waiting.items);
}

abbrev pub decreases-loop-parent : goal.decreases-loop-parent
decreases-loop-parent l = length l.waiting.items
