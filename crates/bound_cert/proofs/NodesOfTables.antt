-- A tree is of the tables where its nodes are.
use Rattle.dual_bound.specs.Nodes.{nodes_of}
use Rattle.dual_bound.specs.OfTables.{ArePricesOf, IsCauseOf, IsMixedOf, IsOfTables}
use Rattle.dual_bound.specs.declared.nodes.Node.{Node}
use Rattle.dual_bound.specs.declared.trees.Tree.{Tree}
use Rattle.fleet_model.specs.Schedule.{IsPair, leg_on, legs_in}
use Rattle.fleet_model.specs.declared.tables.Tables.{Tables}
use Rattle.std.proofs.Common.{[], ◌++◌, ◌<◌, ◌∷◌, List}
use Rattle.std.proofs.lemmas.List.Elements.{All-append, All-cons, All-head, All-nil, All-tail}
use Rattle.std.specs.Prelude.{⊤, All}
use Rattle.dual_bound.specs.declared.nodes.Node.TheVariants as node
use Rattle.dual_bound.specs.declared.trees.Tree.TheVariants as tree

-- what a node names without its children is of the tables
abbrev pub IsNodeOf : Tables → Node → Type 0
IsNodeOf t (node.Bare leg) = leg < legs_in t
IsNodeOf t node.Sole = ⊤
IsNodeOf t (node.Refuted prices) = ArePricesOf t prices
IsNodeOf t (node.Priced prices) = ArePricesOf t prices
IsNodeOf t (node.Open prices why) = ArePricesOf t prices × IsCauseOf t why
IsNodeOf t (node.Trim leg choice) = IsPair t (leg_on leg choice)
IsNodeOf t (node.Split leg choice prices mixed) = IsPair t (leg_on leg choice) × ArePricesOf t prices × IsMixedOf t mixed

-- a tree whose nodes are of the tables is
pub left_part : {X : Type 0} (P : X → Type 0) (xs ys : List X) → All P (xs ++ ys) → All P xs
left_part P [] ys all = All-nil P
left_part P (x ∷ xs) ys all = All-cons P x xs (All-head P x (xs ++ ys) all) (left_part P xs ys (All-tail P x (xs ++ ys) all))

pub right_part : {X : Type 0} (P : X → Type 0) (xs ys : List X) → All P (xs ++ ys) → All P ys
right_part P [] ys all = all
right_part P (x ∷ xs) ys all = right_part P xs ys (All-tail P x (xs ++ ys) all)

pub tree_of : (t : Tables) (whole : Tree) → All (IsNodeOf t) (nodes_of whole) → IsOfTables t whole
tree_of t (tree.Bare leg) are = All-head (IsNodeOf t) (node.Bare leg) [] are
tree_of t tree.Sole are = tt
tree_of t (tree.Refuted prices) are = All-head (IsNodeOf t) (node.Refuted prices) [] are
tree_of t (tree.Priced prices) are = All-head (IsNodeOf t) (node.Priced prices) [] are
tree_of t (tree.Open prices why) are = All-head (IsNodeOf t) (node.Open prices why) [] are
tree_of t (tree.Trim' leg choice p with_pair q without) are =
    let nodes = nodes_of with_pair ++ nodes_of without in
    let first = All-head (IsNodeOf t) (node.Trim leg choice) nodes are in
    let others = All-tail (IsNodeOf t) (node.Trim leg choice) nodes are in
    (first, tree_of t with_pair (left_part (IsNodeOf t) (nodes_of with_pair) (nodes_of without) others), tree_of t without (right_part (IsNodeOf t) (nodes_of with_pair) (nodes_of without) others))
tree_of t (tree.Split' leg choice prices mixed p with_pair q without) are =
    let nodes = nodes_of with_pair ++ nodes_of without in
    let first = All-head (IsNodeOf t) (node.Split leg choice prices mixed) nodes are in
    let others = All-tail (IsNodeOf t) (node.Split leg choice prices mixed) nodes are in
    (first.0, first.1, first.2, tree_of t with_pair (left_part (IsNodeOf t) (nodes_of with_pair) (nodes_of without) others), tree_of t without (right_part (IsNodeOf t) (nodes_of with_pair) (nodes_of without) others))

-- .. and its nodes are where it is
one_node : (t : Tables) (n : Node) → IsNodeOf t n → All (IsNodeOf t) (n ∷ [])
one_node t n is = All-cons (IsNodeOf t) n [] is (All-nil (IsNodeOf t))

pub nodes_are : (t : Tables) (whole : Tree) → IsOfTables t whole → All (IsNodeOf t) (nodes_of whole)
nodes_are t (tree.Bare leg) is = one_node t (node.Bare leg) is
nodes_are t tree.Sole is = one_node t node.Sole tt
nodes_are t (tree.Refuted prices) is = one_node t (node.Refuted prices) is
nodes_are t (tree.Priced prices) is = one_node t (node.Priced prices) is
nodes_are t (tree.Open prices why) is = one_node t (node.Open prices why) is
nodes_are t (tree.Trim' leg choice p with_pair q without) is =
    All-cons (IsNodeOf t) (node.Trim leg choice) (nodes_of with_pair ++ nodes_of without) is.0
    (All-append (IsNodeOf t) (nodes_of with_pair) (nodes_of without) (nodes_are t with_pair is.1) (nodes_are t without is.2))
nodes_are t (tree.Split' leg choice prices mixed p with_pair q without) is =
    All-cons (IsNodeOf t) (node.Split leg choice prices mixed) (nodes_of with_pair ++ nodes_of without) (is.0, is.1, is.2)
    (All-append (IsNodeOf t) (nodes_of with_pair) (nodes_of without) (nodes_are t with_pair is.3) (nodes_are t without is.4))
