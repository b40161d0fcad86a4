-- Plans, and what is known of a subproblem.
use Rattle.std.specs.Prelude.{◌≡◌, ℕ, ◌≤◌, All, ⊤, Option, Some, None, IfSome, IsSomeAnd, ℤ, ◌≤ℤ◌, ◌<ℤ◌}
use Rattle.frac_row.specs.Ratio.{IsCeiling}
use Rattle.fleet_model.specs.Kept.{Domains}
use Rattle.fleet_model.specs.LeftOut.{steps_left}
use Rattle.fleet_model.specs.declared.tables.Tables.{Tables}
use Rattle.plan_judge.specs.declared.legal_plans.LegalPlan.{LegalPlan}
use Rattle.dual_bound.specs.Leaves.{depth_of}
use Rattle.dual_bound.specs.OfTables.{IsOfTables}
use Rattle.dual_bound.specs.Worth.{worth_of}
use Rattle.dual_bound.specs.WrittenOrder.{InWrittenOrder}
use Rattle.dual_bound.specs.declared.nodes.Node.{Node}
use Rattle.dual_bound.specs.declared.nodes.Node.TheVariants as node
use Rattle.dual_bound.specs.declared.prices.Prices.{Prices}
use Rattle.dual_bound.specs.declared.trees.Cause.TheVariants as cause
use Rattle.dual_bound.specs.declared.trees.Tree.{Tree}
use Rattle.dual_bound.specs.declared.trees.Tree.TheVariants as tree
use Rattle.cert_check.specs.Nodes.{nodes_in}
use Rattle.cert_check.specs.Verdicts.{AreSound}
use Rattle.node_bounding.specs.Causes.{AreCaused}
use Rattle.node_bounding.specs.Found.{AnswersSole}
use Rattle.node_bounding.specs.Runs.{IsSearched}
use Rattle.node_bounding.specs.Splits.{IsSplit}
use Rattle.node_bounding.specs.Trims.{AreSearched}
use Rattle.node_bounding.specs.Worked.{own_node}
use Rattle.node_bounding.specs.declared.states.Fraction.{Fraction}
use Rattle.node_bounding.specs.declared.states.State.{State}
use Rattle.node_bounding.specs.declared.states.State.TheVariants as state
use Rattle.node_bounding.specs.declared.states.Stopped.{Stopped}

-- the cost of a plan that may not be there
abbrev pub cost_of_plan : Option LegalPlan → Option ℤ
cost_of_plan None = None
cost_of_plan (Some plan) = Some plan.cost

-- a later cost is no more than an earlier one; once there is a plan, there stays one
abbrev pub IsNoMore : Option ℤ → Option ℤ → Type 0
IsNoMore None later = ⊤
IsNoMore (Some cost) later = IsSomeAnd later (λ c. c ≤ℤ cost)

-- there is a later cost, and it is strictly less than an earlier one, if there was one
abbrev pub IsLess : Option ℤ → Option ℤ → Type 0
IsLess earlier later = IsSomeAnd later (λ c. IfSome earlier (λ e. c <ℤ e))

-- the node that a subproblem is in the tree, as it stands
abbrev pub node_of : State → Node
node_of (state.Leaf leaf) = own_node leaf
node_of (state.Stopped s) = node.Open s.prices s.why
node_of (state.Waiting f) = node.Open f.best.prices (cause.Nodes f.best.mixed)
node_of (state.Split f) = node.Split f.pair.leg f.pair.choice f.best.prices f.best.mixed

-- a subproblem that may be split, with the rounded worth of its prices
pub record IsFractional (t : Tables) (keeps : Domains) (f : Fraction) : Type 0 where
  pub split : IsSplit t keeps f.pair f.best
  pub rounded : IsCeiling (worth_of t keeps f.best.prices 1) f.best.prices.scale f.worth

-- the rounded worth of the prices of a subproblem that stays open
pub record IsStoppedAt (t : Tables) (keeps : Domains) (s : Stopped) : Type 0 where
  pub rounded : IsCeiling (worth_of t keeps s.prices 1) s.prices.scale s.worth

-- the tree of a part of a search, over the pairs that its subproblem keeps, where the plan in the end has this cost;
-- `above` are the prices of the nearest split
pub record IsPart (t : Tables) (pivots : Option ℕ) (final : Option ℤ) (keeps : Domains) (above : Prices) (tree : Tree) : Type 0 where
  pub of_tables : IsOfTables t tree
  pub in_order : InWrittenOrder t tree
  pub shallow : depth_of tree ≤ steps_left t keeps
  pub sound : AreSound t final keeps tree
  pub soles : All (AnswersSole t final) (nodes_in keeps tree)
  pub caused : AreCaused t pivots keeps above tree

-- what is known of a subproblem
abbrev pub IsRightState : Tables → Option ℕ → Option ℤ → Domains → Prices → State → Type 0
IsRightState t pivots final keeps above (state.Leaf leaf) = IsPart t pivots final keeps above leaf × AreSearched t keeps leaf
IsRightState t pivots final keeps above (state.Stopped s) = IsPart t pivots final keeps above (tree.Open s.prices s.why) × IsSearched t keeps × IsStoppedAt t keeps s
IsRightState t pivots final keeps above (state.Waiting f) = IsFractional t keeps f
IsRightState t pivots final keeps above (state.Split f) = IsFractional t keeps f
