use Rattle.std.proofs.Common.{◌≡◌, ◌*◌, ◌≤◌}
use Rattle.sums.specs.Below.{sum_below}
use Rattle.fleet_model.specs.Schedule.{day_end}
use Rattle.fleet_model.specs.Use.{stand_of}
use Rattle.fleet_model.specs.declared.limits.TheConstants.{MAX_DEPARTURES}
use Rattle.dual_bound.specs.Fractions.{parts_in}
use Rattle.dual_bound.specs.Prices.{max_scale}
use Rattle.cert_check.proofs.mixed_room.parked.Given as goal

abbrev pub invariant-loop-fleet : goal.invariant-loop-fleet
invariant-loop-fleet l = record {
  added : l.sum ≡ sum_below (λ f. stand_of l.tables (parts_in l.mixed) f l.station (day_end l.day)) l.fleet;
  few : l.sum ≤ 2 * max_scale * MAX_DEPARTURES * l.fleet;
}
