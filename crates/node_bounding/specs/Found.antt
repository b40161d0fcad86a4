-- Where the plan of a solution was found, and what it says of the leaves of the tree.
use Rattle.std.specs.Prelude.{◌≡◌, ℕ, List, ⊤, Option, IfSome, IsSomeAnd, ℤ, ◌≤ℤ◌, ◌<ℤ◌}
use Rattle.frac_row.specs.Ratio.{IsCeiling}
use Rattle.fleet_model.specs.Kept.{Domains, IsKeptAssignment}
use Rattle.fleet_model.specs.Legal.{IsLegal, total_cost}
use Rattle.fleet_model.specs.declared.tables.Tables.{Tables}
use Rattle.dual_bound.specs.Worth.{worth_of}
use Rattle.dual_bound.specs.declared.prices.Prices.{Prices}
use Rattle.dual_bound.specs.declared.trees.Cause.{Cause}
use Rattle.dual_bound.specs.declared.trees.Tree.TheVariants as tree
use Rattle.dual_bound.specs.declared.nodes.Node.{Node as Leaf}
use Rattle.dual_bound.specs.declared.nodes.Node.TheVariants as leaf
use Rattle.cert_check.specs.Nodes.{Node}
use Rattle.node_bounding.specs.Worked.{Worked, worked_at}

-- a leaf at which a plan of this cost is found: its subproblem's one assignment, or prices that are worth just that
abbrev pub EndsAt : Tables → Domains → ℤ → Leaf → Type 0
EndsAt t keeps cost (leaf.Bare leg) = ⊥
EndsAt t keeps cost leaf.Sole = ⊤
EndsAt t keeps cost (leaf.Refuted prices) = ⊥
EndsAt t keeps cost (leaf.Priced prices) = IsCeiling (worth_of t keeps prices 1) prices.scale cost
EndsAt t keeps cost (leaf.Open prices why) = ⊥
EndsAt t keeps cost (leaf.Trim leg choice) = ⊥
EndsAt t keeps cost (leaf.Split leg choice prices mixed) = ⊥

-- a plan lies in a subproblem, and is found there
pub record IsEndOf (t : Tables) (plan : List ℕ) (cost : ℤ) (here : Worked) : Type 0 where
  pub kept : IsKeptAssignment t here.keeps plan
  pub ends : EndsAt t here.keeps cost here.node

-- a plan is found at a node of a tree
pub record IsFoundAt (t : Tables) (plan : List ℕ) (cost : ℤ) (node : Node) : Type 0 where
  pub here : IsEndOf t plan cost (worked_at node)

-- where the one assignment of a sole leaf is legal, there is a plan that costs no more
pub record AnswersSole (t : Tables) (cost : Option ℤ) (node : Node) : Type 0 where
  pub answers : node.tree ≡ tree.Sole → (a : List ℕ) → IsKeptAssignment t node.keeps a → IsLegal t a → IsSomeAnd cost (λ c. c ≤ℤ total_cost t a)

-- the rounded worth of prices is below a cost
pub record FallsShort (t : Tables) (keeps : Domains) (prices : Prices) (cost : ℤ) : Type 0 where
  pub least : ℤ
  pub rounded : IsCeiling (worth_of t keeps prices 1) prices.scale least
  pub short : least <ℤ cost

-- where there is a plan, the rounded worth of an open leaf is below its cost
pub record LeavesGap (t : Tables) (cost : Option ℤ) (node : Node) : Type 0 where
  pub gap : (prices : Prices) (why : Cause) → node.tree ≡ tree.Open prices why → IfSome cost (FallsShort t node.keeps prices)
