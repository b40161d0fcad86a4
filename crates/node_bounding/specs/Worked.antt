-- Subproblems that were worked: what became of each, without what stands below it.
use Rattle.std.specs.Prelude.{false, List, map, ℤ}
use Rattle.frac_row.specs.Ratio.{IsCeiling}
use Rattle.fleet_model.specs.Kept.{Domains}
use Rattle.fleet_model.specs.declared.tables.Tables.{Tables}
use Rattle.dual_bound.specs.Bound.{part}
use Rattle.dual_bound.specs.Worth.{worth_of}
use Rattle.dual_bound.specs.declared.nodes.Node.{Node}
use Rattle.dual_bound.specs.declared.nodes.Node.TheVariants as node
use Rattle.dual_bound.specs.declared.prices.Prices.{Prices}
use Rattle.dual_bound.specs.declared.trees.Cause.{Cause}
use Rattle.dual_bound.specs.declared.trees.Cause.TheVariants as cause
use Rattle.dual_bound.specs.declared.trees.Tree.{Tree}
use Rattle.dual_bound.specs.declared.trees.Tree.TheVariants as tree
use Rattle.cert_check.specs.Nodes.{Node as TreeNode, nodes_in}

-- a subproblem: the pairs that it keeps, and what became of it
pub record Worked : Type 0 where
  pub keeps : Domains
  pub node : Node

-- the node of a tree itself
abbrev pub own_node : Tree → Node
own_node (tree.Bare leg) = node.Bare leg
own_node tree.Sole = node.Sole
own_node (tree.Refuted prices) = node.Refuted prices
own_node (tree.Priced prices) = node.Priced prices
own_node (tree.Open prices why) = node.Open prices why
own_node (tree.Trim' leg choice p with_pair q without) = node.Trim leg choice
own_node (tree.Split' leg choice prices mixed p with_pair q without) = node.Split leg choice prices mixed

abbrev pub worked_at : TreeNode → Worked
worked_at here = record { keeps = here.keeps; node = own_node here.tree }

-- the subproblems of a tree, in preorder
abbrev pub worked_in : Domains → Tree → List Worked
worked_in keeps tree = map worked_at (nodes_in keeps tree)

-- the subproblems below the trims on top of a tree
abbrev pub searched_in : Domains → Tree → List Worked
searched_in keeps (tree.Trim' leg choice p with_pair q without) = searched_in (part keeps leg choice false) without
searched_in keeps other = worked_in keeps other

-- a subproblem that is open for splits has this rounded worth
abbrev pub IsOpenWorth : Tables → Domains → Prices → Cause → ℤ → Type 0
IsOpenWorth t keeps prices (cause.Nodes mixed) worth = IsCeiling (worth_of t keeps prices 1) prices.scale worth
IsOpenWorth t keeps prices (cause.Pivots made) worth = ⊥
IsOpenWorth t keeps prices (cause.Grew made row column) worth = ⊥
IsOpenWorth t keeps prices (cause.Lift step at) worth = ⊥

-- a leaf that is open for splits, of this rounded worth
abbrev pub IsWaitingWorth : Tables → Domains → Tree → ℤ → Type 0
IsWaitingWorth t keeps (tree.Open prices why) worth = IsOpenWorth t keeps prices why worth
IsWaitingWorth t keeps other worth = ⊥
