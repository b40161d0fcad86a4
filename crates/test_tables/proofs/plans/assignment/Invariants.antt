use Rattle.std.proofs.Common.{◌≡◌, ◌<◌, ℕ, length}
use Rattle.fleet_model.specs.Counts.{choice_at}
use Rattle.fleet_model.specs.Schedule.{fleets_in}
use Rattle.test_tables.proofs.plans.assignment.Given as goal

abbrev pub invariant-loop-fleet : goal.invariant-loop-fleet
invariant-loop-fleet l = record {
  flown : length l.plan ≡ l.fleet-index;
  known : (k : ℕ) → k < length l.plan → choice_at l.plan k < fleets_in l.tables;
}
