-- How the tree of a search is put together from the list of its subproblems, from the last to the first.
use Rattle.std.specs.Prelude.{Box, ◌≡◌, ◌≢◌, ℕ, suc, ◌<◌, false, Bool, if◌then◌else◌, List, [], ◌∷◌, ◌++◌, length, ⊤, Option, Some, None, ℤ, int_le, zero}
use Rattle.std.specs.List.Sorted.{IsPermutation}
use Rattle.std.specs.declared.alloc.Global.{Global}
use Rattle.sums.specs.Places.{list_below}
use Rattle.fleet_model.specs.Kept.{Domains}
use Rattle.fleet_model.specs.declared.tables.Tables.{Tables}
use Rattle.dual_bound.specs.declared.prices.Prices.{Prices}
use Rattle.dual_bound.specs.declared.trees.Cause.{Cause}
use Rattle.dual_bound.specs.declared.trees.Cause.TheVariants as cause
use Rattle.dual_bound.specs.declared.trees.Tree.{Split, Tree}
use Rattle.dual_bound.specs.declared.trees.Tree.TheVariants as tree
use Rattle.node_bounding.specs.Closing.{closed}
use Rattle.node_bounding.specs.Subproblems.{node_of}
use Rattle.node_bounding.specs.Worked.{Worked, worked_in}
use Rattle.node_bounding.specs.declared.states.Fraction.{Fraction}
use Rattle.node_bounding.specs.declared.states.State.{State}
use Rattle.node_bounding.specs.declared.states.State.TheVariants as state
use Rattle.branch_bound.specs.History.{Chronicle, IsGrownTree, IsLinked, IsNumbered, IsRightAt, IsSingle}
use Rattle.branch_bound.specs.Search.{at}
use Rattle.branch_bound.specs.declared.subproblems.Subproblem.{Subproblem}

-- there is a plan, and a rounded worth reaches its cost
abbrev pub is_closing : Option ℤ → ℤ → Bool
is_closing None worth = false
is_closing (Some cost) worth = int_le cost worth

-- a leaf with prices of this rounded worth, where the plan, if any, has this cost
abbrev pub leaf_by : Option ℤ → ℤ → Prices → Cause → Tree
leaf_by cost worth prices why = if is_closing cost worth then tree.Priced prices else tree.Open prices why

-- the tree of a subproblem that was not split
abbrev pub tree_by : Option ℤ → State → Tree
tree_by cost (state.Leaf leaf) = leaf
tree_by cost (state.Stopped s) = leaf_by cost s.worth s.prices s.why
tree_by cost (state.Waiting f) = leaf_by cost f.worth f.best.prices (cause.Nodes f.best.mixed)
tree_by cost (state.Split f) = leaf_by cost f.worth f.best.prices (cause.Nodes f.best.mixed)

-- a subproblem was split, and this is its tree with those of its parts
pub record IsTreeJoined (f : Fraction) (with_pair without : Tree) (joined : State) : Type 0 where
  pub yes_box : Box Tree Global
  pub no_box : Box Tree Global
  pub is : joined ≡ state.Leaf (Split f.pair.leg f.pair.choice f.best.prices f.best.mixed yes_box no_box)
  pub yes_is : yes_box.value ≡ with_pair
  pub no_is : no_box.value ≡ without

abbrev pub IsJoinedFrom : State → Tree → Tree → State → Type 0
IsJoinedFrom (state.Leaf leaf) with_pair without joined = ⊥
IsJoinedFrom (state.Stopped s) with_pair without joined = ⊥
IsJoinedFrom (state.Waiting f) with_pair without joined = ⊥
IsJoinedFrom (state.Split f) with_pair without joined = IsTreeJoined f with_pair without joined

-- a subproblem was split, or was not
abbrev pub IsSplitState : State → Type 0
IsSplitState (state.Leaf leaf) = ⊥
IsSplitState (state.Stopped s) = ⊥
IsSplitState (state.Waiting f) = ⊥
IsSplitState (state.Split f) = ⊤

-- A list whose last subproblem was taken, and then the one before it: the trees of both are put together in the one that
-- they are parts of.
pub record IsFolded (tree_of : State → Tree) (before after : List Subproblem) (parent : ℕ) (last : State) : Type 0 where
  pub shorter : length before ≡ suc (length after)
  pub whole : State
  pub joined : IsJoinedFrom (at before parent).state (tree_of (at before (length after)).state) (tree_of last) whole
  pub there : at after parent ≡ record { origin = (at before parent).origin; state = whole }
  pub same : (k : ℕ) → k < length after → k ≢ parent → at after k ≡ at before k

-- the subproblems of the trees that stand in the list, each of those that have none yet by itself
abbrev pub gathered_at : Domains → State → List Worked
gathered_at keeps (state.Leaf leaf) = worked_in keeps leaf
gathered_at keeps (state.Stopped s) = record { keeps = keeps; node = node_of (state.Stopped s) } ∷ []
gathered_at keeps (state.Waiting f) = record { keeps = keeps; node = node_of (state.Waiting f) } ∷ []
gathered_at keeps (state.Split f) = record { keeps = keeps; node = node_of (state.Split f) } ∷ []

unfoldable pub gathered : (ℕ → Worked) → List Subproblem → ℕ → List Worked
gathered made all zero = []
gathered made all (suc k) = gathered made all k ++ gathered_at (made k).keeps (at all k).state

-- a list in which the parts of some splits are put together to trees, and taken from its end
pub record AreGathered (t : Tables) (root : Domains) (pivots : Option ℕ) (final : Option ℤ) (count : ℕ) (c : Chronicle) (all : List Subproblem) : Type 0 where
  pub numbered : (k : ℕ) → k < length all → IsNumbered t root all c k
  pub right : (k : ℕ) → k < length all → IsRightAt t pivots final all c k
  pub same : IsPermutation (list_below c.made count) (gathered c.made all (length all))

-- a list whose leaves are of one node each
pub record AreSingle (all : List Subproblem) : Type 0 where
  pub each : (k : ℕ) → k < length all → IsSingle (at all k).state

-- some parts link it
pub record AreSplitsLinked (all : List Subproblem) : Type 0 where
  pub some : 0 < length all
  pub parts : ℕ → ℕ
  pub each : (k : ℕ) → k < length all → IsLinked all parts k

-- a tree over the pairs that are kept, closed where there is a plan
abbrev pub closed_in : Tables → Option ℤ → Domains → Tree → Tree
closed_in t None keeps whole = whole
closed_in t (Some cost) keeps whole = closed t cost keeps whole

-- the tree of the first subproblem, in which each open leaf is closed whose rounded worth reaches the cost of the plan
pub record IsClosedTree (t : Tables) (root : Domains) (pivots : Option ℕ) (cost : Option ℤ) (count : ℕ) (c : Chronicle) (tree : Tree) : Type 0 where
  pub left : Tree
  pub grown : IsGrownTree t root pivots cost count c left
  pub closed : tree ≡ closed_in t cost root left
