-- Assignments that are offered: where one is legal and cheaper than the cheapest plan, it takes its place.
use Rattle.std.specs.Prelude.{◌≡◌, ℕ, ◌⊎◌, List, Option, Some, None, IfSome, IsSomeAnd, ℤ, ◌<ℤ◌}
use Rattle.fleet_model.specs.Kept.{Domains, IsKeptAssignment, IsSole}
use Rattle.fleet_model.specs.Legal.{IsLegal, total_cost}
use Rattle.fleet_model.specs.declared.tables.Tables.{Tables}
use Rattle.plan_judge.specs.LegalPlans.{IsLegalPlan}
use Rattle.plan_judge.specs.declared.legal_plans.LegalPlan.{LegalPlan}
use Rattle.dual_bound.specs.Bound.{lesser_bound}
use Rattle.node_bounding.specs.Subproblems.{cost_of_plan}

-- a plan is this assignment
pub record IsPlanOf (t : Tables) (a : List ℕ) (plan : LegalPlan) : Type 0 where
  pub assignment : plan.assignment ≡ a
  pub exact : plan.cost ≡ total_cost t a

-- this assignment was taken, which is strictly cheaper than the cheapest plan before, if there was one
pub record IsTaken (t : Tables) (a : List ℕ) (before after : Option LegalPlan) : Type 0 where
  pub plan : IsSomeAnd after (IsPlanOf t a)
  pub cheaper : IfSome (cost_of_plan before) (λ c. total_cost t a <ℤ c)

-- An assignment was offered, which counts where it is legal; `found` is what it then costs. The cheapest plan is that
-- from before, or this assignment.
pub record IsOffered (t : Tables) (a : List ℕ) (before after : Option LegalPlan) : Type 0 where
  pub found : Option ℤ
  pub legal : IsLegal t a → found ≡ Some (total_cost t a)
  pub illegal : ¬ (IsLegal t a) → found ≡ None
  pub plan : IfSome after (IsLegalPlan t)
  pub cheapest : cost_of_plan after ≡ lesser_bound (cost_of_plan before) found
  pub taken : (after ≡ before) ⊎ IsTaken t a before after

-- each leg keeps one choice, and that assignment was offered
pub record IsSoleOffered (t : Tables) (keeps : Domains) (before after : Option LegalPlan) : Type 0 where
  pub sole : IsSole t keeps
  pub plan : List ℕ
  pub kept : IsKeptAssignment t keeps plan
  pub offered : IsOffered t plan before after

-- some leg does not keep just one choice, and nothing was offered
pub record IsNoSole (t : Tables) (keeps : Domains) (before after : Option LegalPlan) : Type 0 where
  pub not_sole : ¬ (IsSole t keeps)
  pub same : after ≡ before
