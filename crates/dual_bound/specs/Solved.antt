-- What the solver answers on tables: a plan with a bound, that there is none, or a bound alone; each with the tree of
-- subproblems that proves it.
use Rattle.std.specs.Prelude.{Option, Some, None, ℤ, ⊤}
use Rattle.fleet_model.specs.Legal.{IsAssignment}
use Rattle.fleet_model.specs.declared.tables.Tables.{Tables}
use Rattle.dual_bound.specs.declared.trees.Tree.{Tree}
use Rattle.dual_bound.specs.declared.solved.Solved.{Solved}
use Rattle.dual_bound.specs.declared.solved.Solved.TheVariants as solved

-- the tree of a solution
abbrev pub tree_of : Solved → Tree
tree_of (solved.Planned plan cost bound tree) = tree
tree_of (solved.Infeasible tree) = tree
tree_of (solved.Unsettled bound tree) = tree

-- the cost of a solution's plan, where it has one
abbrev pub plan_cost : Solved → Option ℤ
plan_cost (solved.Planned plan cost bound tree) = Some cost
plan_cost (solved.Infeasible tree) = None
plan_cost (solved.Unsettled bound tree) = None

-- a plan of the solution has a known fleet for each leg
abbrev pub PlanFits : Tables → Solved → Type 0
PlanFits t (solved.Planned plan cost bound tree) = IsAssignment t plan
PlanFits t (solved.Infeasible tree) = ⊤
PlanFits t (solved.Unsettled bound tree) = ⊤
