use Rattle.std.proofs.Common.{◌<◌}
use Rattle.node_aggregate.specs.island_cut.Zeros.{MoveOutside}
use Rattle.node_aggregate.proofs.island_cut.zeros.next_event.Given as goal

abbrev pub invariant-loop-place : goal.invariant-loop-place
invariant-loop-place g l = record {
  later : l.minute < l.next;
  outside : MoveOutside l.tables (g.F.Flights.flights l.tables l.flights) l.station l.minute l.next l.place;
}
