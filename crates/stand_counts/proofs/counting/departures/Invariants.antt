use Rattle.std.proofs.Common.{◌≡◌, ◌≤◌, ◌*◌}
use Rattle.sums.specs.Below.{sum_below}
use Rattle.stand_counts.specs.Flights.{leaving_by}
use Rattle.stand_counts.specs.declared.flights.TheConstants.{MAX_WEIGHT}
use Rattle.stand_counts.proofs.counting.departures.Given as goal

abbrev pub invariant-loop-place : goal.invariant-loop-place
invariant-loop-place g l = record {
  added : l.sum ≡ sum_below (leaving_by l.tables (g.F.Flights.flights l.tables l.flights) l.station l.minute) l.place;
  few : l.sum ≤ g.F.Flights.most * l.place;
  small : l.sum ≤ MAX_WEIGHT * l.place;
}
