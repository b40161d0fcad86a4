use Rattle.std.proofs.Common.{◌≡◌, ◌≤◌, ◌*◌}
use Rattle.fleet_model.specs.declared.limits.TheConstants.{MAX_DEPARTURES}
use Rattle.stand_counts.proofs.NeedFound.{greatest_excess}
use Rattle.stand_counts.specs.declared.flights.TheConstants.{MAX_WEIGHT}
use Rattle.stand_counts.proofs.counting.need.Given as goal

abbrev pub invariant-loop-place : goal.invariant-loop-place
invariant-loop-place g l = record {
  found : l.most ≡ greatest_excess l.tables (g.F.Flights.flights l.tables l.flights) l.station l.place;
  few : l.most ≤ g.F.Flights.most * (g.F.Flights.flights l.tables l.flights).count;
  small : l.most ≤ MAX_WEIGHT * MAX_DEPARTURES;
}
