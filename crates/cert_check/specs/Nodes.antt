-- The nodes of a tree, each with the pairs that its subproblem keeps.
use Rattle.std.specs.Prelude.{Bool, true, false, List, [], ◌∷◌, ◌++◌, Option, Some, None}
use Rattle.fleet_model.specs.Kept.{Domains, all_pairs, kept_by}
use Rattle.fleet_model.specs.declared.parts.Pair.{Pair}
use Rattle.fleet_model.specs.declared.tables.Tables.{Tables}
use Rattle.dual_bound.specs.Bound.{part}
use Rattle.dual_bound.specs.declared.mixed.Mixed.{Mixed}
use Rattle.dual_bound.specs.declared.prices.Prices.{Prices}
use Rattle.dual_bound.specs.declared.trees.Cause.{Cause}
use Rattle.dual_bound.specs.declared.trees.Cause.TheVariants as cause
use Rattle.dual_bound.specs.declared.trees.Tree.{Tree}
use Rattle.dual_bound.specs.declared.trees.Tree.TheVariants as tree

-- a node: the pairs that its subproblem keeps, and the tree below
pub record Node : Type 0 where
  pub keeps : Domains
  pub tree : Tree

-- the nodes of a tree in preorder: first itself, then those of its part with the pair, then those of the other
abbrev pub nodes_in : Domains → Tree → List Node
nodes_in keeps (tree.Trim' leg choice p with_pair q without) =
    record { keeps = keeps; tree = tree.Trim' leg choice p with_pair q without }
    ∷ (nodes_in (part keeps leg choice true) with_pair ++ nodes_in (part keeps leg choice false) without)
nodes_in keeps (tree.Split' leg choice prices mixed p with_pair q without) =
    record { keeps = keeps; tree = tree.Split' leg choice prices mixed p with_pair q without }
    ∷ (nodes_in (part keeps leg choice true) with_pair ++ nodes_in (part keeps leg choice false) without)
nodes_in keeps leaf = record { keeps = keeps; tree = leaf } ∷ []

-- the nodes of a tree over all pairs that may be flown
abbrev pub nodes_of_tree : Tables → Tree → List Node
nodes_of_tree t tree = nodes_in (all_pairs t) tree

-- the nodes below a trim or a split by a pair
abbrev pub nodes_below : Domains → Pair → Tree → Tree → List Node
nodes_below keeps pair with_pair without =
    nodes_in (part keeps pair.leg pair.choice true) with_pair ++ nodes_in (part keeps pair.leg pair.choice false) without

-- the prices of a node that has them
abbrev pub prices_at : Tree → Option Prices
prices_at (tree.Refuted prices) = Some prices
prices_at (tree.Priced prices) = Some prices
prices_at (tree.Open prices why) = Some prices
prices_at (tree.Split' leg choice prices mixed p with_pair q without) = Some prices
prices_at (tree.Bare leg) = None
prices_at tree.Sole = None
prices_at (tree.Trim' leg choice p with_pair q without) = None

-- the fractional assignment of a cause that has one
abbrev pub mixed_of : Cause → Option Mixed
mixed_of (cause.Nodes mixed) = Some mixed
mixed_of (cause.Pivots made) = None
mixed_of (cause.Grew pivots row column) = None
mixed_of (cause.Lift step at) = None

-- the fractional assignment of a node that has one
abbrev pub mixed_at : Tree → Option Mixed
mixed_at (tree.Open prices why) = mixed_of why
mixed_at (tree.Split' leg choice prices mixed p with_pair q without) = Some mixed
mixed_at (tree.Bare leg) = None
mixed_at tree.Sole = None
mixed_at (tree.Refuted prices) = None
mixed_at (tree.Priced prices) = None
mixed_at (tree.Trim' leg choice p with_pair q without) = None

-- the node of a tree in the subproblem that rows keep
abbrev pub node_at : List (List Bool) → Tree → Node
node_at rows tree = record { keeps = kept_by rows; tree = tree }
