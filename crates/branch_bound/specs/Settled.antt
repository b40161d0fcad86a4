-- What is known of a closed tree and of the cheapest plan, when the search is over.
use Rattle.std.specs.Prelude.{◌≡◌, ℕ, List, All, Option, Some, None, IfSome}
use Rattle.fleet_model.specs.Kept.{all_pairs}
use Rattle.fleet_model.specs.declared.tables.Tables.{Tables}
use Rattle.plan_judge.specs.LegalPlans.{IsLegalPlan}
use Rattle.plan_judge.specs.declared.legal_plans.LegalPlan.{LegalPlan}
use Rattle.dual_bound.specs.OfTables.{IsOfTables}
use Rattle.dual_bound.specs.declared.trees.Tree.{Tree}
use Rattle.cert_check.specs.Nodes.{nodes_of_tree}
use Rattle.cert_check.specs.Verdicts.{AreSound}
use Rattle.presolve.specs.Removals.{AreRefuted, AreRemovals, first_place, kept_after}
use Rattle.presolve.specs.declared.trims.Trim.{Trim as Removal}
use Rattle.node_bounding.specs.Closing.{closed_by}
use Rattle.node_bounding.specs.Found.{AnswersSole, LeavesGap}
use Rattle.branch_bound.specs.History.{SearchComesTo}
use Rattle.node_bounding.specs.Trims.{AreBelow}
use Rattle.node_bounding.specs.Subproblems.{cost_of_plan}
use Rattle.dual_bound.specs.declared.solved.Solved.{Solved}
use Rattle.dual_bound.specs.declared.solved.Solved.TheVariants as solved

-- the plan of a solution, where it has one
abbrev pub plan_of : Solved → Option LegalPlan
plan_of (solved.Planned plan cost bound tree) = Some (record { assignment = plan; cost = cost })
plan_of (solved.Infeasible tree) = None
plan_of (solved.Unsettled bound tree) = None

-- a tree that comes with a plan or with none, and says all that can be said of it
pub record IsProvedBy (t : Tables) (best : Option LegalPlan) (tree : Tree) : Type 0 where
  pub plan : IfSome best (IsLegalPlan t)
  pub known : IsOfTables t tree
  pub sound : AreSound t (cost_of_plan best) (all_pairs t) tree
  pub soles : All (AnswersSole t (cost_of_plan best)) (nodes_of_tree t tree)
  pub gaps : All (LeavesGap t (cost_of_plan best)) (nodes_of_tree t tree)

-- The tree of all pairs as it would be with no open leaf closed, and the cheapest plan: below the removals it is that of a
-- search with at most so many splits, and so many pivots for each subproblem.
pub record IsAllFound (t : Tables) (nodes : ℕ) (pivots : Option ℕ) (best : Option LegalPlan) (whole : Tree) : Type 0 where
  pub removals : List Removal
  pub given : AreRemovals t (all_pairs t) first_place removals
  pub rest : Tree
  pub below : AreBelow removals rest whole
  pub refuted : AreRefuted t (all_pairs t) removals
  pub comes : SearchComesTo t nodes pivots (kept_after (all_pairs t) removals) best rest

-- the tree of all pairs, with each open leaf closed whose rounded worth reaches the cost of the cheapest plan
pub record IsAllClosed (t : Tables) (nodes : ℕ) (pivots : Option ℕ) (best : Option LegalPlan) (tree : Tree) : Type 0 where
  pub left : Tree
  pub found : IsAllFound t nodes pivots best left
  pub closed : tree ≡ closed_by t (cost_of_plan best) left
