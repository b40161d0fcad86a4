-- The splits of a tree whose rounded worth is above a cost.
use Rattle.std.specs.Prelude.{◌≡◌, ℕ, ◌+◌, List, ◌∷◌, ◌++◌, All, length, None, ℤ, ◌<ℤ◌}
use Rattle.frac_row.specs.Ratio.{IsCeiling}
use Rattle.fleet_model.specs.Kept.{Domains}
use Rattle.fleet_model.specs.declared.tables.Tables.{Tables}
use Rattle.dual_bound.specs.Leaves.{held_count}
use Rattle.dual_bound.specs.Worth.{worth_of}
use Rattle.dual_bound.specs.declared.trees.Tree.{Tree}
use Rattle.dual_bound.specs.declared.trees.Tree.TheVariants as tree
use Rattle.cert_check.specs.Nodes.{Node, nodes_in, nodes_of_tree}
use Rattle.cert_check.specs.Rules.{IsSoundBut}
use Rattle.cert_check.specs.declared.rules.Rule.TheVariants as rule

-- all nodes keep all rules but the one on priced leaves, which alone asks for the plan that a tree comes with
pub record AreSoundButPriced (t : Tables) (keeps : Domains) (tree : Tree) : Type 0 where
  pub each : All (IsSoundBut t None rule.Priced) (nodes_in keeps tree)

-- a split of this rounded worth
abbrev pub IsSplitWorth : Tables → Domains → Tree → ℤ → Type 0
IsSplitWorth t keeps (tree.Split' leg choice prices mixed p with_pair q without) worth = IsCeiling (worth_of t keeps prices 1) prices.scale worth
IsSplitWorth t keeps other worth = ⊥

-- a split whose rounded worth is above a cost
pub record IsSplitAbove (t : Tables) (cost : ℤ) (node : Node) : Type 0 where
  pub worth : ℤ
  pub rounded : IsSplitWorth t node.keeps node.tree worth
  pub above : cost <ℤ worth

-- no such split
pub record IsNoneAbove (t : Tables) (cost : ℤ) (node : Node) : Type 0 where
  pub none : ¬ (IsSplitAbove t cost node)

-- no split of a tree is above a cost
abbrev pub NoSplitIsAbove : Tables → ℤ → Tree → Type 0
NoSplitIsAbove t cost tree = All (IsNoneAbove t cost) (nodes_of_tree t tree)

-- the first split above a cost of some nodes, by its place from 0
pub record IsFirstAbove (t : Tables) (cost : ℤ) (nodes : List Node) (place : ℕ) : Type 0 where
  pub before : List Node
  pub node : Node
  pub after : List Node
  pub order : nodes ≡ before ++ node ∷ after
  pub none : All (IsNoneAbove t cost) before
  pub there : place ≡ length before
  pub above : IsSplitAbove t cost node

-- the same by its number, where the first of the nodes has this number
pub record IsAboveAt (t : Tables) (cost : ℤ) (nodes : List Node) (number found : ℕ) : Type 0 where
  pub place : ℕ
  pub first : IsFirstAbove t cost nodes place
  pub found_is : found ≡ held_count (number + place)

-- the number of the first split of a tree that is above a cost
abbrev pub IsFirstSplitAbove : Tables → ℤ → Tree → ℕ → Type 0
IsFirstSplitAbove t cost tree found = IsAboveAt t cost (nodes_of_tree t tree) 1 found
