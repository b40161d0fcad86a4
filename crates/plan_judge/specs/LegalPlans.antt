-- Legal assignments, each with what it costs.
use Rattle.std.specs.Prelude.{◌≡◌}
use Rattle.fleet_model.specs.Legal.{IsLegal, total_cost}
use Rattle.fleet_model.specs.declared.tables.Tables.{Tables}
use Rattle.plan_judge.specs.declared.legal_plans.LegalPlan.{LegalPlan}

-- a plan is legal, and its cost exact
pub record IsLegalPlan (t : Tables) (plan : LegalPlan) : Type 0 where
  pub legal : IsLegal t plan.assignment
  pub exact : plan.cost ≡ total_cost t plan.assignment
