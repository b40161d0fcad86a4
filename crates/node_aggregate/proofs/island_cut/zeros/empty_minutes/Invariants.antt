use Rattle.node_aggregate.specs.island_cut.Zeros.{none_left}
use Rattle.node_aggregate.proofs.island_cut.QuietMinutes.{IsWalked}
use Rattle.node_aggregate.proofs.island_cut.zeros.empty_minutes.Given as goal

abbrev pub invariant-loop-minute : goal.invariant-loop-minute
invariant-loop-minute g l = IsWalked (none_left l.tables (g.F.Flights.flights l.tables l.flights) l.station) l.minutes.items l.minute l.next l.zero
