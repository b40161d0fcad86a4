-- What the checker says of a tree, and what it then shows of all legal assignments.
use Rattle.std.specs.Prelude.{◌≡◌, ℕ, ◌+◌, All, ⊤, Option, MatchOption, ℤ}
use Rattle.fleet_model.specs.Kept.{Domains, all_pairs}
use Rattle.fleet_model.specs.declared.tables.Tables.{Tables}
use Rattle.dual_bound.specs.Bound.{IsBound, IsInfeasible, IsLowerBound}
use Rattle.dual_bound.specs.Leaves.{held_count}
use Rattle.dual_bound.specs.declared.trees.Tree.{Tree}
use Rattle.cert_check.specs.Nodes.{nodes_in, nodes_of_tree}
use Rattle.cert_check.specs.Rules.{IsFirstBroken, IsSound, rule_number}
use Rattle.cert_check.specs.declared.checked.Checked.{Checked}
use Rattle.cert_check.specs.declared.checked.Checked.TheVariants as checked
use Rattle.cert_check.specs.declared.rules.Rule.{Rule}

-- all nodes keep all rules
abbrev pub AreSound : Tables → Option ℤ → Domains → Tree → Type 0
AreSound t cost keeps tree = All (IsSound t cost) (nodes_in keeps tree)

-- a tree that holds, and its bound
pub record HoldsWith (t : Tables) (cost : Option ℤ) (tree : Tree) (bound : Option ℤ) : Type 0 where
  pub sound : AreSound t cost (all_pairs t) tree
  pub bounded : IsBound t tree bound

-- the number of the first broken node of a tree, and of the first rule that it breaks
pub record BreaksAt (t : Tables) (cost : Option ℤ) (tree : Tree) (node number : ℕ) : Type 0 where
  pub place : ℕ
  pub rule : Rule
  pub first : IsFirstBroken t cost (nodes_of_tree t tree) place rule
  pub node_is : node ≡ held_count (1 + place)
  pub rule_is : number ≡ rule_number rule

-- what the checker says of a tree that comes with a plan of this cost, or with none
abbrev pub IsChecked : Tables → Option ℤ → Tree → Checked → Type 0
IsChecked t cost tree (checked.Holds bound) = HoldsWith t cost tree bound
IsChecked t cost tree (checked.Broken node rule) = BreaksAt t cost tree node rule

-- what a bound says of all legal assignments: each costs at least so much, and with no bound there is none
abbrev pub BoundsAll : Tables → Option ℤ → Type 0
BoundsAll t bound = MatchOption bound (IsInfeasible t) (IsLowerBound t)

-- where a tree holds, its bound says so
abbrev pub IsProof : Tables → Checked → Type 0
IsProof t (checked.Holds bound) = BoundsAll t bound
IsProof t (checked.Broken node rule) = ⊤
