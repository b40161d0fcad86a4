use Rattle.std.proofs.Common.{◌≡◌, ◌≤◌, ◌*◌}
use Rattle.sums.specs.Below.{sum_below}
use Rattle.fleet_model.specs.declared.limits.TheConstants.{MAX_DEPARTURES}
use Rattle.stand_counts.specs.Flights.{need_by}
use Rattle.stand_counts.specs.declared.flights.TheConstants.{MAX_WEIGHT}
use Rattle.stand_counts.proofs.using.needed.Given as goal

abbrev pub invariant-loop-station : goal.invariant-loop-station
invariant-loop-station g l = record {
  added : l.sum ≡ sum_below (need_by l.tables (g.F.Flights.flights l.tables l.flights)) l.station;
  few : l.sum ≤ g.F.Flights.most * (g.F.Flights.flights l.tables l.flights).count * l.station;
  small : l.sum ≤ MAX_WEIGHT * MAX_DEPARTURES * l.station;
}
