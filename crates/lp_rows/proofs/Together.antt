-- All that is so of the lines of a subproblem.
use Rattle.fleet_model.specs.Kept.{Domains}
use Rattle.fleet_model.specs.declared.tables.Tables.{Tables}
use Rattle.row_store.specs.declared.problem.Rows.{Rows}
use Rattle.lp_rows.proofs.Counted.{rows_are_counted}
use Rattle.lp_rows.proofs.PlansToPoints.{plans_are_points}
use Rattle.lp_rows.proofs.PointsToPlans.{points_are_plans, points_cost_as_plans}
use Rattle.lp_rows.specs.Layout.{Starts}
use Rattle.lp_rows.specs.Points.{AreLinesOf}
use Rattle.lp_rows.specs.Program.{AreRows}

pub are_lines : (t : Tables) (keeps : Domains) (starts : Starts) (rows : Rows) → AreRows t keeps starts rows → AreLinesOf t keeps rows
are_lines t keeps starts rows lines = record {
  starts = starts;
  lines = lines;
  counted = rows_are_counted t keeps starts rows lines;
  points_are_plans = λ scale x meets. points_are_plans t keeps starts rows scale x lines meets;
  plans_are_points = λ scale w plan. plans_are_points t keeps starts rows scale w lines plan;
  costs_are_same = λ x. points_cost_as_plans t keeps starts rows x lines;
}
