-- What becomes of a subproblem that is made.
use Rattle.std.specs.Prelude.{◌≡◌, ℕ, ◌⊎◌, List, ⊤, Option, IfSome, IsSomeAnd, ℤ}
use Rattle.frac_row.specs.Ratio.{IsCeiling}
use Rattle.fleet_model.specs.Kept.{Domains, IsKeptAssignment}
use Rattle.fleet_model.specs.Legal.{IsLegal, total_cost}
use Rattle.fleet_model.specs.declared.tables.Tables.{Tables}
use Rattle.plan_judge.specs.LegalPlans.{IsLegalPlan}
use Rattle.plan_judge.specs.declared.legal_plans.LegalPlan.{LegalPlan}
use Rattle.dual_bound.specs.Bound.{lesser_bound}
use Rattle.dual_bound.specs.Worth.{worth_of}
use Rattle.dual_bound.specs.declared.nodes.Node.{Node}
use Rattle.dual_bound.specs.declared.prices.Prices.{Prices}
use Rattle.dual_bound.specs.declared.trees.Cause.{Cause}
use Rattle.dual_bound.specs.declared.trees.Cause.TheVariants as cause
use Rattle.dual_bound.specs.declared.trees.Tree.{Tree}
use Rattle.dual_bound.specs.declared.trees.Tree.TheVariants as tree
use Rattle.node_bounding.specs.Found.{IsEndOf}
use Rattle.node_bounding.specs.Made.{IsMadeAs}
use Rattle.node_bounding.specs.Offers.{IsOffered}
use Rattle.node_bounding.specs.Subproblems.{IsLess, IsNoMore, IsRightState, IsStoppedAt, cost_of_plan, node_of}
use Rattle.node_bounding.specs.declared.states.State.{State}
use Rattle.node_bounding.specs.declared.states.State.TheVariants as state

-- why a run gave no prices
abbrev pub IsStoppedBy : Cause → Type 0
IsStoppedBy (cause.Nodes mixed) = ⊥
IsStoppedBy (cause.Pivots made) = ⊤
IsStoppedBy (cause.Grew made row column) = ⊤
IsStoppedBy (cause.Lift step at) = ⊤

-- a leaf that isn't open
abbrev pub IsDoneLeaf : Tree → Type 0
IsDoneLeaf (tree.Bare leg) = ⊤
IsDoneLeaf tree.Sole = ⊤
IsDoneLeaf (tree.Refuted prices) = ⊤
IsDoneLeaf (tree.Priced prices) = ⊤
IsDoneLeaf (tree.Open prices why) = ⊥
IsDoneLeaf (tree.Trim' leg choice p with_pair q without) = ⊥
IsDoneLeaf (tree.Split' leg choice prices mixed p with_pair q without) = ⊥

-- a subproblem that was just made is a leaf, stays open, or waits to be split
abbrev pub IsFresh : State → Type 0
IsFresh (state.Leaf leaf) = IsDoneLeaf leaf
IsFresh (state.Stopped s) = IsStoppedBy s.why
IsFresh (state.Waiting f) = ⊤
IsFresh (state.Split f) = ⊥

-- the cheapest plan, if any, is found in a subproblem
abbrev pub IsFoundHere : Tables → Domains → Node → Option LegalPlan → Type 0
IsFoundHere t keeps node best = IsSomeAnd best (λ plan. IsEndOf t plan.assignment plan.cost (record { keeps = keeps; node = node }))

-- A subproblem was made, with so many pivots allowed, whose nearest split above has these prices. Before and after it
-- this is the cheapest plan, which another one replaces only where it is strictly cheaper.
pub record IsExamined (t : Tables) (pivots : Option ℕ) (before after : Option LegalPlan) (keeps : Domains) (above : Prices) (made : State) : Type 0 where
  pub found : Option ℤ
  pub fresh : IsFresh made
  pub plan : IfSome after (IsLegalPlan t)
  pub cheapest : cost_of_plan after ≡ lesser_bound (cost_of_plan before) found
  pub is : IsMadeAs t (cost_of_plan before) keeps (node_of made) found
  pub right : (final : Option ℤ) → IsNoMore (cost_of_plan after) final → IsRightState t pivots final keeps above made
  pub place : (after ≡ before) ⊎ IsFoundHere t keeps (node_of made) after
  pub replaced : (after ≡ before) ⊎ IsLess (cost_of_plan before) (cost_of_plan after)

-- The same of a subproblem whose best fractional assignment is known, and prices that are worth as much: for any pivots,
-- whatever the prices above.
abbrev pub IsBounded : Tables → Option LegalPlan → Option LegalPlan → Domains → State → Type 0
IsBounded t before after keeps made = (pivots : Option ℕ) (above : Prices) → IsExamined t pivots before after keeps above made

-- a subproblem stays open with these prices, and this is why
abbrev pub IsStoppedWith : Tables → Domains → Prices → Cause → State → Type 0
IsStoppedWith t keeps prices why (state.Leaf leaf) = ⊥
IsStoppedWith t keeps prices why (state.Stopped s) = (s.prices ≡ prices) × (s.why ≡ why) × IsStoppedAt t keeps s
IsStoppedWith t keeps prices why (state.Waiting f) = ⊥
IsStoppedWith t keeps prices why (state.Split f) = ⊥

-- a legal assignment of kept pairs that costs what prices are worth was offered
pub record IsWholeOffered (t : Tables) (keeps : Domains) (prices : Prices) (before after : Option LegalPlan) : Type 0 where
  pub plan : List ℕ
  pub kept : IsKeptAssignment t keeps plan
  pub legal : IsLegal t plan
  pub worth : IsCeiling (worth_of t keeps prices 1) prices.scale (total_cost t plan)
  pub offered : IsOffered t plan before after
