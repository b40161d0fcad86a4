use Rattle.std.proofs.Common.{◌≡◌, ◌≤◌, ◌*◌}
use Rattle.sums.specs.Below.{sum_below}
use Rattle.stand_counts.specs.Flights.{laps_at_by}
use Rattle.stand_counts.specs.declared.flights.TheConstants.{MAX_WEIGHT}
use Rattle.stand_counts.proofs.using.lapping.Given as goal

abbrev pub invariant-loop-place : goal.invariant-loop-place
invariant-loop-place g l = record {
  added : l.sum ≡ sum_below (laps_at_by l.tables (g.F.Flights.flights l.tables l.flights)) l.place;
  few : l.sum ≤ g.F.Flights.most * 2 * l.place;
  small : l.sum ≤ MAX_WEIGHT * 2 * l.place;
}
