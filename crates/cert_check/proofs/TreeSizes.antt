-- How many nodes a tree has, by which the walk over it ends.
use Rattle.std.proofs.Common.{ℕ, suc, ◌+◌}
use Rattle.dual_bound.specs.declared.trees.Tree.{Tree}
use Rattle.dual_bound.specs.declared.trees.Tree.TheVariants as tree

abbrev pub node_count : Tree → ℕ
node_count (tree.Bare leg) = 1
node_count tree.Sole = 1
node_count (tree.Refuted prices) = 1
node_count (tree.Priced prices) = 1
node_count (tree.Open prices why) = 1
node_count (tree.Trim' leg choice p with_pair q without) = suc (node_count with_pair + node_count without)
node_count (tree.Split' leg choice prices mixed p with_pair q without) = suc (node_count with_pair + node_count without)
