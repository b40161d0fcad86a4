-- What dropping a tree by a loop counts down.
use Rattle.std.specs.Prelude.{◌≡◌, ℕ, suc, ◌+◌, ◌<◌, Bool, true, false, ⊤}
use Rattle.dual_bound.specs.declared.trees.Tree.{Tree}
use Rattle.dual_bound.specs.declared.trees.Tree.TheVariants as tree

-- the load of a tree: 1 for each node, of which those below `yes` count twice as much as they would by themselves
abbrev pub load_of : Tree → ℕ
load_of (tree.Bare leg) = 1
load_of tree.Sole = 1
load_of (tree.Refuted prices) = 1
load_of (tree.Priced prices) = 1
load_of (tree.Open prices why) = 1
load_of (tree.Trim' leg choice p with_pair q without) = suc (load_of with_pair + load_of with_pair + load_of without)
load_of (tree.Split' leg choice prices mixed p with_pair q without) = suc (load_of with_pair + load_of with_pair + load_of without)

-- the tree is a leaf
abbrev pub IsLeaf : Tree → Type 0
IsLeaf (tree.Bare leg) = ⊤
IsLeaf tree.Sole = ⊤
IsLeaf (tree.Refuted prices) = ⊤
IsLeaf (tree.Priced prices) = ⊤
IsLeaf (tree.Open prices why) = ⊤
IsLeaf (tree.Trim' leg choice p with_pair q without) = ⊥
IsLeaf (tree.Split' leg choice prices mixed p with_pair q without) = ⊥

-- a tree and another have exchanged a part of the first for the second: together they have the same load, and the
-- part had less than its tree
pub record HaveExchanged (whole other new_whole new_other : Tree) : Type 0 where
  pub same : load_of new_whole + load_of new_other ≡ load_of whole + load_of other
  pub part : load_of new_other < load_of whole

-- a leaf has no part, and both stay
pub record IsLeafLeft (whole other new_whole new_other : Tree) : Type 0 where
  pub leaf : IsLeaf new_whole
  pub stays : new_whole ≡ whole
  pub other_stays : new_other ≡ other

abbrev pub Exchanged : Tree → Tree → Tree → Tree → Bool → Type 0
Exchanged whole other new_whole new_other true = HaveExchanged whole other new_whole new_other
Exchanged whole other new_whole new_other false = IsLeafLeft whole other new_whole new_other
