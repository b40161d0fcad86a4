use Rattle.std.proofs.Common.{[], length, ◌≡◌}
use Rattle.proof_lines.specs.Known.{naming}
use Rattle.proof_lines.specs.Words.{seen}
use Rattle.bound_cert.specs.Nodes.{above_of, nodes_from, waiting_nodes}
use Rattle.bound_cert.proofs.tree_reading.read_nodes.Given as goal

-- the nodes so far and those of what is left are all
abbrev pub invariant-loop-most : goal.invariant-loop-most
invariant-loop-most l = nodes_from (naming l.grammar) l.most (waiting_nodes l.waiting.items) (above_of l.waiting.items) (seen l.rest) ≡ nodes_from (naming l.grammar) (length l.left) [] [] (seen l.left)

abbrev pub decreases-loop-most : goal.decreases-loop-most
decreases-loop-most l = l.most
