-- What reading a node does to the trims and splits that wait for children.
use Rattle.std.specs.Prelude.{◌≡◌, ◌≢◌, Bool, false, List, [], ◌∷◌, ◌++◌, Option, MatchOption}
use Rattle.bound_cert.specs.Nodes.{above_of, after_node, after_tree, inner_node, waiting_nodes}
use Rattle.dual_bound.specs.Nodes.{nodes_of}
use Rattle.bound_cert.specs.declared.nodes.Inner.{Inner}
use Rattle.dual_bound.specs.declared.nodes.Node.{Node}
use Rattle.bound_cert.specs.declared.nodes.Parent.{Parent}
use Rattle.bound_cert.specs.declared.nodes.Place.{Place}
use Rattle.bound_cert.specs.declared.nodes.Place.TheVariants as place
use Rattle.dual_bound.specs.declared.trees.Tree.{Tree}

-- a node is a leaf, or waits for children
pub record IsLeafOf (node : Node) (tree : Tree) : Type 0 where
  pub nodes : nodes_of tree ≡ node ∷ []
  pub after : (above : _) → after_node node above ≡ after_tree above

pub record IsInnerOf (node : Node) (inner : Inner) : Type 0 where
  pub node_is : inner_node inner ≡ node
  pub after : (above : _) → after_node node above ≡ false ∷ above

abbrev pub IsNodePlaced : Node → Place → Type 0
IsNodePlaced node (place.Leaf tree) = IsLeafOf node tree
IsNodePlaced node (place.Inner inner) = IsInnerOf node inner

-- nothing waits any more: the tree is whole
pub record IsTreeWhole (nodes : List Node) (above : List Bool) (tree : Tree) : Type 0 where
  pub all : nodes_of tree ≡ nodes
  pub none : above ≡ []

-- some wait: these nodes stand so far, and this above the next
pub record StillWaits (nodes : List Node) (above : List Bool) (waiting : List Parent) : Type 0 where
  pub nodes_are : waiting_nodes waiting ≡ nodes
  pub above_is : above_of waiting ≡ above
  pub some : above ≢ []

-- a node is put into its place
abbrev pub IsGrownByNode : List Parent → Node → List Parent → Option Tree → Type 0
IsGrownByNode before node waiting result =
    MatchOption result (StillWaits (waiting_nodes before ++ node ∷ []) (after_node node (above_of before)) waiting)
    (IsTreeWhole (waiting_nodes before ++ node ∷ []) (after_node node (above_of before)))

-- a tree is put into its place
abbrev pub IsClosed : List Parent → Tree → List Parent → Option Tree → Type 0
IsClosed before tree waiting result =
    MatchOption result (StillWaits (waiting_nodes before ++ nodes_of tree) (after_tree (above_of before)) waiting)
    (IsTreeWhole (waiting_nodes before ++ nodes_of tree) (after_tree (above_of before)))
