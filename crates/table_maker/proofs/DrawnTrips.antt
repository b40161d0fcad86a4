-- Drawn round trips lie in the ranges of their draws.
use Rattle.std.proofs.Common.{◌≡◌, ℕ, zero, suc, ◌<◌, ◌≤◌, [], ◌∷◌, length, slice_index, arith, rules}
use Rattle.sums.proofs.Places.{get_or-list_below, length-list_below}
use Rattle.table_maker.specs.Draws.{number_below}
use Rattle.table_maker.specs.Trips.{no_trip, round_trip, spokes_for, state_before, trip_drawn, trips_drawn}
use Rattle.table_maker.proofs.MadeEntries.{AreTrips, IsRoundTrip}

drawn_below : (state bound : ℕ) → 0 < bound → number_below state bound < bound
drawn_below state bound some = search rules

one_of_four : (a b c d : ℕ) → a < 1500 → b < 1500 → c < 1500 → d < 1500 → (k : ℕ) → slice_index (a ∷ b ∷ c ∷ d ∷ []) k < 1500
one_of_four a b c d p q r s zero = p
one_of_four a b c d p q r s (suc zero) = q
one_of_four a b c d p q r s (suc (suc zero)) = r
one_of_four a b c d p q r s (suc (suc (suc zero))) = s
one_of_four a b c d p q r s (suc (suc (suc (suc k)))) = omega arith

trip_fits : (spokes state : ℕ) → 0 < spokes → IsRoundTrip spokes (round_trip spokes state)
trip_fits spokes state some = record {
  there = drawn_below _ spokes some;
  departs_fit = omega arith;
  block_least = omega arith;
  block_most = omega arith;
  stay_least = omega arith;
  stay_most = omega arith;
  costs_fit = one_of_four _ _ _ _ (omega arith) (omega arith) (omega arith) (omega arith);
  value_fits = omega arith;
}

pub trips_fit : (number count : ℕ) → count ≤ 500 → AreTrips (trips_drawn number count)
trips_fit number count few =
    let trip_at = trip_drawn number (spokes_for count) in
    let long : length (trips_drawn number count) ≡ count = length-list_below trip_at count in
    record {
      few = omega (arith, long);
      each = λ i below.
          let within : i < count = omega (arith, long, below) in
          rw (long, get_or-list_below trip_at count i no_trip within) (trip_fits (spokes_for count) (state_before number i) (omega arith));
    }
