-- What a tree proves of tables with another number of aircraft of one fleet.
use Rattle.std.specs.Prelude.{◌≡◌, ℕ, ◌+◌, List, ◌∷◌, ◌++◌, All, length, ⊤, Option, Some, None, ℤ}
use Rattle.fleet_model.specs.declared.tables.Tables.{Tables}
use Rattle.fleet_model.specs.OtherSizes.{IsOtherSize}
use Rattle.fleet_model.specs.Schedule.{fleet_of}
use Rattle.dual_bound.specs.Bound.{IsBound, IsInfeasible, IsLowerBound}
use Rattle.dual_bound.specs.Leaves.{held_count}
use Rattle.dual_bound.specs.declared.trees.Tree.{Tree}
use Rattle.cert_check.specs.Nodes.{Node, nodes_of_tree}
use Rattle.cert_check.specs.Rules.{IsRefutedAt}
use Rattle.cert_check.specs.Verdicts.{HoldsWith}
use Rattle.cert_check.specs.declared.what_if.WhatIf.{WhatIf}
use Rattle.cert_check.specs.declared.what_if.WhatIf.TheVariants as what

-- a node stands: a refuted leaf is refuted by these tables too
abbrev pub Stands : Tables → Node → Type 0
Stands u node = IsRefutedAt u node.keeps node.tree

-- the first of some nodes that has fallen, by its place from 0
pub record IsFirstFallen (u : Tables) (nodes : List Node) (place : ℕ) : Type 0 where
  pub before : List Node
  pub node : Node
  pub after : List Node
  pub order : nodes ≡ before ++ node ∷ after
  pub stand : All (Stands u) before
  pub there : place ≡ length before
  pub fallen : ¬ (Stands u node)

-- the same by its number, where the first of the nodes has this number
pub record IsFallenAt (u : Tables) (nodes : List Node) (number found : ℕ) : Type 0 where
  pub place : ℕ
  pub first : IsFirstFallen u nodes place
  pub found_is : found ≡ held_count (number + place)

-- all nodes of a tree stand, and this is its bound
pub record StandsWith (u : Tables) (tree : Tree) (bound : Option ℤ) : Type 0 where
  pub stand : All (Stands u) (nodes_of_tree u tree)
  pub bounded : IsBound u tree bound

-- what is answered of a tree
abbrev pub IsAskedOfTree : Tables → Tree → WhatIf → Type 0
IsAskedOfTree u tree (what.Fallen node) = IsFallenAt u (nodes_of_tree u tree) 1 node
IsAskedOfTree u tree what.NoPlan = StandsWith u tree None
IsAskedOfTree u tree (what.Bound bound) = StandsWith u tree (Some bound)

-- what an answer says of all assignments: none is legal, or each legal one costs at least so much
abbrev pub IsProofOf : Tables → WhatIf → Type 0
IsProofOf u (what.Fallen node) = ⊤
IsProofOf u what.NoPlan = IsInfeasible u
IsProofOf u (what.Bound bound) = IsLowerBound u bound

-- the answer where all nodes stand and a tree has this bound
abbrev pub answer_of : Option ℤ → WhatIf
answer_of None = what.NoPlan
answer_of (Some bound) = what.Bound bound

-- asked by a fleet's own number of aircraft, a tree that holds has the bound with which it holds
abbrev pub OwnNumberIsChecked : Type 0
OwnNumberIsChecked = (t : Tables) (cost bound : Option ℤ) (fleet : ℕ) (tree : Tree) (answer : WhatIf) → HoldsWith t cost tree bound
    → ((u : Tables) → IsOtherSize t fleet (fleet_of t fleet).aircraft u → IsAskedOfTree u tree answer) → answer ≡ answer_of bound
