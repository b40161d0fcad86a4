use Rattle.std.proofs.Common.{◌≡◌}
use Rattle.sums.specs.Places.{list_below}
use Rattle.table_maker.specs.Trips.{state_before, trip_drawn}
use Rattle.table_maker.proofs.trips.round_trips.Given as goal

abbrev pub invariant-loop-trip : goal.invariant-loop-trip
invariant-loop-trip l = (l.made.items ≡ list_below (trip_drawn l.number l.spokes) l._trip) × (l.draws ≡ state_before l.number l._trip)
