use Rattle.std.proofs.Common.{◌≡◌, ◌≤◌}
use Rattle.fleet_model.specs.Schedule.{legs_in}
use Rattle.lines_of_flying.proofs.FreeNeed.{greatest_excess}
use Rattle.lines_of_flying.proofs.needs.need.Given as goal

abbrev pub invariant-loop-leg : goal.invariant-loop-leg
invariant-loop-leg l = record {
  found : l.most ≡ greatest_excess l.ground.tables.now l.ground.plan.now l.ground.fleet l.ground.pairs.now l.station l.leg;
  few : l.most ≤ legs_in l.ground.tables.now;
}
