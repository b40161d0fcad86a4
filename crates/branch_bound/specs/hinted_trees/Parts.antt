-- What is tested of a tree that was found in any way, part by part.
use Rattle.std.specs.Prelude.{◌≡◌, ℕ, ◌≤◌, Bool, true, false, if◌then◌else◌, All, Option, Some, None, IfSome, IsSomeAnd, ℤ, ◌≤ℤ◌, ◌<ℤ◌, int_lt}
use Rattle.std.specs.Ordering.{int_eq}
use Rattle.fleet_model.specs.Kept.{Domains}
use Rattle.fleet_model.specs.declared.tables.Tables.{Tables}
use Rattle.plan_judge.specs.declared.legal_plans.LegalPlan.{LegalPlan}
use Rattle.dual_bound.specs.Leaves.{has_open, open_grew, open_pivots, splits_in}
use Rattle.dual_bound.specs.OfTables.{IsOfTables}
use Rattle.dual_bound.specs.WrittenOrder.{InWrittenOrder, IsShallow}
use Rattle.dual_bound.specs.declared.solved.Solved.{Solved}
use Rattle.dual_bound.specs.declared.solved.Solved.TheVariants as solved
use Rattle.dual_bound.specs.declared.trees.Tree.{Tree}
use Rattle.cert_check.specs.Nodes.{Node, nodes_in}
use Rattle.cert_check.specs.declared.reached.Reached.{Reached}
use Rattle.node_bounding.specs.Found.{AnswersSole, LeavesGap}

-- a tree as a reader gives it: of the tables, in written order, and no deeper than it takes
pub record IsTreeWritten (t : Tables) (tree : Tree) : Type 0 where
  pub of_tables : IsOfTables t tree
  pub in_order : InWrittenOrder t tree
  pub shallow : IsShallow tree

-- ---- splits

-- a tree has at most so many splits, and just so many where a leaf is open, which is then open for splits
pub record SpendsSplits (nodes : ℕ) (tree : Tree) : Type 0 where
  pub few_splits : splits_in tree ≤ nodes
  pub all_spent : has_open tree ≡ true → splits_in tree ≡ nodes
  pub no_pivots : open_pivots tree ≡ 0
  pub none_grew : open_grew tree ≡ 0

-- ---- leaves

-- there is a cost that is no more than a bound, where there is a bound
pub record IsCovered (cost bound : Option ℤ) : Type 0 where
  pub covers : IfSome bound (λ b. IsSomeAnd cost (λ c. c ≤ℤ b))

-- there is a bound that is below a cost, where there is a cost
pub record FallsBelow (cost bound : Option ℤ) : Type 0 where
  pub falls : IfSome cost (λ c. IsSomeAnd bound (λ b. b <ℤ c))

-- a node is answered by the cost of the plan, if any: a sole leaf holds no cheaper one, and an open leaf doesn't reach it
pub record IsNodeAnswered (t : Tables) (cost : Option ℤ) (node : Node) : Type 0 where
  pub sole : AnswersSole t cost node
  pub gap : LeavesGap t cost node

-- all nodes of a tree are
pub record AreAnswered (t : Tables) (cost : Option ℤ) (keeps : Domains) (tree : Tree) : Type 0 where
  pub each : All (IsNodeAnswered t cost) (nodes_in keeps tree)

-- what a walk finds of a node: it is answered, or the walk ends there
abbrev pub IsToldAnswered : Tables → Option ℤ → Node → Reached → Reached → Bool → Type 0
IsToldAnswered t cost node before after false = IsNodeAnswered t cost node
IsToldAnswered t cost node before after true = ¬ (IsNodeAnswered t cost node)

-- ---- a plan, a bound and a tree together

-- with a plan the bound is its cost where no leaf is open, and less where one is
abbrev pub go_together : Bool → ℤ → ℤ → Bool
go_together true bound cost = int_lt bound cost
go_together false bound cost = int_eq bound cost

abbrev pub solved_by_plan : LegalPlan → ℤ → Tree → Option Solved
solved_by_plan plan bound tree = if go_together (has_open tree) bound plan.cost then Some (solved.Planned plan.assignment plan.cost bound tree) else None

-- without one there is a bound just where a leaf is open
abbrev pub unplanned : Option ℤ → Tree → Option Solved
unplanned (Some bound) tree = if has_open tree then Some (solved.Unsettled bound tree) else None
unplanned None tree = if has_open tree then None else Some (solved.Infeasible tree)

-- the solution of a plan, if any, of a bound, if any, and of a tree, where they go together
abbrev pub settled : Option LegalPlan → Option ℤ → Tree → Option Solved
settled (Some plan) (Some bound) tree = solved_by_plan plan bound tree
settled (Some plan) None tree = None
settled None bound tree = unplanned bound tree
