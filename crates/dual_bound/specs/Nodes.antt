-- A tree as its nodes, each before its children.
use Rattle.std.specs.Prelude.{List, [], ◌∷◌, ◌++◌}
use Rattle.dual_bound.specs.declared.nodes.Node.{Node}
use Rattle.dual_bound.specs.declared.nodes.Node.TheVariants as node
use Rattle.dual_bound.specs.declared.trees.Tree.{Tree}
use Rattle.dual_bound.specs.declared.trees.Tree.TheVariants as tree

-- the nodes of a tree, each before its children, and of these those of `yes` first
abbrev pub nodes_of : Tree → List Node
nodes_of (tree.Bare leg) = node.Bare leg ∷ []
nodes_of tree.Sole = node.Sole ∷ []
nodes_of (tree.Refuted prices) = node.Refuted prices ∷ []
nodes_of (tree.Priced prices) = node.Priced prices ∷ []
nodes_of (tree.Open prices why) = node.Open prices why ∷ []
nodes_of (tree.Trim' leg choice p with_pair q without) = node.Trim leg choice ∷ (nodes_of with_pair ++ nodes_of without)
nodes_of (tree.Split' leg choice prices mixed p with_pair q without) = node.Split leg choice prices mixed ∷ (nodes_of with_pair ++ nodes_of without)
