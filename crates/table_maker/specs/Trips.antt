-- Round trips from the hub to a spoke and back, as they are drawn.
use Rattle.std.specs.Prelude.{ℕ, zero, suc, ◌+◌, ◌*◌, ◌/◌, List, [], ◌∷◌, slice_index_or}
use Rattle.sums.specs.Places.{list_below}
use Rattle.table_maker.specs.Draws.{drawn, state_after}
use Rattle.table_maker.specs.declared.trips.RoundTrip.{RoundTrip}

-- how many spokes the hub has for so many round trips
abbrev pub spokes_for : ℕ → ℕ
spokes_for trips = 1 + trips / 10

-- the round trip that nine draws give: its spoke, the minutes of its departure, of a flight and of the stay, the costs of
-- both flights by both fleets, and what it is worth to go on to the next round trip in the same aircraft
abbrev pub round_trip : ℕ → ℕ → RoundTrip
round_trip spokes state = record {
  spoke = drawn state 0 spokes;
  departs = 5 * drawn state 1 288;
  block = 60 + 5 * drawn state 2 25;
  stay = 60 + 5 * drawn state 3 13;
  costs = (1000 + drawn state 4 500) ∷ (1000 + drawn state 5 500) ∷ (1000 + drawn state 6 500) ∷ (1000 + drawn state 7 500) ∷ [];
  value = drawn state 8 100;
}

-- the state before a round trip, by its number
unfoldable pub state_before : ℕ → ℕ → ℕ
state_before number zero = number
state_before number (suc trip) = state_after (state_before number trip) 9

-- a round trip, by its number
abbrev pub trip_drawn : ℕ → ℕ → ℕ → RoundTrip
trip_drawn number spokes trip = round_trip spokes (state_before number trip)

-- so many round trips; the last one's value is of no pair, and nothing is drawn after it
abbrev pub trips_drawn : ℕ → ℕ → List RoundTrip
trips_drawn number trips = list_below (trip_drawn number (spokes_for trips)) trips

-- a round trip of a list
abbrev pub no_trip : RoundTrip
no_trip = record { spoke = 0; departs = 0; block = 0; stay = 0; costs = []; value = 0 }

abbrev pub trip_of : List RoundTrip → ℕ → RoundTrip
trip_of trips trip = slice_index_or trips trip no_trip
