use Rattle.std.proofs.Common.{◌≡◌, ℕ, ◌<◌, length}
use Rattle.fleet_model.specs.Counts.{choice_at}
use Rattle.fleet_model.specs.Schedule.{fleets_in}
use Rattle.node_aggregate.specs.island_cut.Spare.{IsQuickest}
use Rattle.node_aggregate.proofs.island_cut.joined.quickest.Given as goal

abbrev pub invariant-loop-leg : goal.invariant-loop-leg
invariant-loop-leg l = record {
  each_leg : length l.plan ≡ l.leg;
  each : (k : ℕ) → k < l.leg → IsQuickest l.tables k (fleets_in l.tables) (choice_at l.plan k);
}
