-- What a walk over a tree finds of its nodes, one after another.
use Rattle.std.specs.Prelude.{◌≡◌, ◌+◌, Bool, true, false, ◌⊎◌, List, [], ◌∷◌, Option, None, ℤ}
use Rattle.fleet_model.specs.Kept.{Domains}
use Rattle.fleet_model.specs.declared.tables.Tables.{Tables}
use Rattle.dual_bound.specs.Bound.{IsBoundIn, lesser_bound}
use Rattle.dual_bound.specs.Leaves.{held_count}
use Rattle.dual_bound.specs.declared.trees.Tree.{Tree}
use Rattle.dual_bound.specs.declared.trees.Tree.TheVariants as tree
use Rattle.cert_check.specs.Nodes.{Node}
use Rattle.cert_check.specs.declared.reached.Reached.{Reached}

-- a walk ends at a node, by what it finds of it
pub record EndsWalk (finds : Node → Reached → Reached → Bool → Type 0) (node : Node) (before after : Reached) (ended : Bool) : Type 0 where
  pub ends : ended ≡ true
  pub found : finds node before after true

-- it passes a node, and visits the rest from there
pub record WalksOn (finds : Node → Reached → Reached → Bool → Type 0) (node : Node) (rest : Reached → Reached → Bool → Type 0) (before after : Reached) (ended : Bool) : Type 0 where
  pub between : Reached
  pub passed : finds node before between false
  pub visited : rest between after ended

-- nodes are visited one after another, up to the first at which the walk ends; where it ends at none, all are passed
abbrev pub AreWalked : (Node → Reached → Reached → Bool → Type 0) → List Node → Reached → Reached → Bool → Type 0
AreWalked finds [] before after ended = (ended ≡ false) × (after ≡ before)
AreWalked finds (node ∷ rest) before after ended = EndsWalk finds node before after ended ⊎ WalksOn finds node (AreWalked finds rest) before after ended

-- the bound that a node has without its children: that of a leaf
abbrev pub IsOwnBound : Tables → Domains → Tree → Option ℤ → Type 0
IsOwnBound t keeps (tree.Trim' leg choice p with_pair q without) bound = bound ≡ None
IsOwnBound t keeps (tree.Split' leg choice prices mixed p with_pair q without) bound = bound ≡ None
IsOwnBound t keeps leaf bound = IsBoundIn t keeps leaf bound

-- the lesser of the bound so far and that of what is passed
pub record IsLesserSoFar (so_far : Option ℤ) (has : Option ℤ → Type 0) (bound : Option ℤ) : Type 0 where
  pub found : Option ℤ
  pub is : has found
  pub lesser : bound ≡ lesser_bound so_far found

-- a node that is as asked is passed, with the bound that it has of its own
pub record IsPassed (good : Type 0) (has : Option ℤ → Type 0) (before after : Reached) : Type 0 where
  pub is_good : good
  pub follows : after.number ≡ held_count (before.number + 1)
  pub bounded : IsLesserSoFar before.bound has after.bound

-- at one that isn't the walk ends, by its number
pub record EndsByNumber (bad : Type 0) (before after : Reached) : Type 0 where
  pub is_bad : bad
  pub there : after.number ≡ before.number

-- one or the other is found of a node
abbrev pub IsFoundOf : Type 0 → (Option ℤ → Type 0) → Type 0 → Reached → Reached → Bool → Type 0
IsFoundOf good has bad before after false = IsPassed good has before after
IsFoundOf good has bad before after true = EndsByNumber bad before after
