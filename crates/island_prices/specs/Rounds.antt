-- Rounds, in which rents and prices grow so that no price rises at a moment.
use Rattle.std.specs.Prelude.{◌≡◌, ℕ, zero, suc, ◌<◌, ◌≤◌, ◌==◌, ◌&&◌, nat_le, nat_lt, Bool, if◌then◌else◌, List, [], length, filter, slice_index_or, ℤ, pos, int_lt}
use Rattle.std.specs.Int.{int_max}
use Rattle.sums.specs.Below.{max_below, sum_below_ℤ}
use Rattle.sums.specs.Places.{list_below}
use Rattle.fleet_model.specs.Schedule.{period_of, stations_in}
use Rattle.fleet_model.specs.Period.{minutes_of}
use Rattle.fleet_model.specs.declared.tables.Tables.{Tables}
use Rattle.dual_bound.specs.Sizes.{IsUpTo}
use Rattle.island_prices.specs.Rises.{rise_in}
use Rattle.island_prices.specs.declared.rises.Rise.{Rise}
use Rattle.island_prices.specs.declared.rounds.Rounds.{Rounds}

-- the greatest of f 0, f 1, .. up to and without f n, and 0 where none is above it
abbrev pub greatest_below : (ℕ → ℤ) → ℕ → ℤ
greatest_below f zero = pos 0
greatest_below f (suc n) = int_max (greatest_below f n) (f n)

-- a rise's amount, where it went to a moment of a station
abbrev pub rise_where : List Rise → ℕ → ℕ → ℕ → ℤ
rise_where rises s m i = if ((rise_in rises i).station == s) && ((rise_in rises i).moment == m) then (rise_in rises i).amount else pos 0

-- the greatest rise of any fleet that went to a moment of a station
unfoldable pub greatest_rise : List Rise → ℕ → ℕ → ℤ
greatest_rise rises s m = greatest_below (rise_where rises s m) (length rises)

-- the moments of a station to which a rise went, rising
abbrev pub has_rise : List Rise → ℕ → ℕ → Bool
has_rise rises s m = int_lt (pos 0) (greatest_rise rises s m)

unfoldable pub moments_below : List Rise → ℕ → ℕ → List ℕ
moments_below rises s n = filter (has_rise rises s) (list_below (λ m. m) n)

abbrev pub rise_moments : Tables → List Rise → ℕ → List ℕ
rise_moments t rises s = moments_below rises s (period_of t)

-- the moments of a station in rounds, and the minute that a round takes of it: its moment of that number, or where there
-- are no more the station's least idle minute
abbrev pub moments_at : List (List ℕ) → ℕ → List ℕ
moments_at moments s = slice_index_or moments s []

abbrev pub minute_taken : List (List ℕ) → List ℕ → ℕ → ℕ → ℕ
minute_taken moments least s j = slice_index_or (moments_at moments s) j (slice_index_or least s 0)

-- the rise that a round takes of a station, and the greatest of all stations, which is the round's number
abbrev pub rise_taken : List Rise → List (List ℕ) → ℕ → ℕ → ℤ
rise_taken rises moments j s =
    if nat_lt j (length (moments_at moments s)) then greatest_rise rises s (slice_index_or (moments_at moments s) j 0) else pos 0

unfoldable pub number_of_round : List Rise → List (List ℕ) → ℕ → ℕ → ℤ
number_of_round rises moments stations j = greatest_below (rise_taken rises moments j) stations

-- there are as many rounds as the station with most has moments
unfoldable pub round_count : List (List ℕ) → ℕ → ℕ
round_count moments stations = max_below (λ s. length (moments_at moments s)) stations

-- the rounds of rises: their numbers, the moments of each station, and its least idle minute
unfoldable pub rounds_by : List Rise → List (List ℕ) → List ℕ → ℕ → Rounds
rounds_by rises moments least stations = record {
  numbers = list_below (number_of_round rises moments stations) (round_count moments stations);
  moments = moments;
  least = least;
}

abbrev pub rounds_of : Tables → List Rise → List ℕ → Rounds
rounds_of t rises least = rounds_by rises (list_below (rise_moments t rises) (stations_in t)) least (stations_in t)

-- what rents have grown by after some rounds
abbrev pub round_number : Rounds → ℕ → ℤ
round_number rounds j = slice_index_or rounds.numbers j (pos 0)

abbrev pub round_minute : Rounds → ℕ → ℕ → ℕ
round_minute rounds s j = minute_taken rounds.moments rounds.least s j

unfoldable pub rent_grown : Rounds → ℕ → ℤ
rent_grown rounds n = sum_below_ℤ (round_number rounds) n

-- .. and prices of a station at a minute: in each round up to and with the minute that it takes of the station
abbrev pub grown_in : Rounds → ℕ → ℕ → ℕ → ℤ
grown_in rounds s m j = if nat_le m (round_minute rounds s j) then round_number rounds j else pos 0

unfoldable pub price_grown : Rounds → ℕ → ℕ → ℕ → ℤ
price_grown rounds s m n = sum_below_ℤ (grown_in rounds s m) n

-- no more rounds than a week has minutes, none with a greater number than a rise, and a least idle minute of each station
pub record AreSmall (rounds : Rounds) : Type 0 where
  pub few : length rounds.numbers ≤ minutes_of 7
  pub each : (j : ℕ) → j < length rounds.numbers → IsUpTo 3 (round_number rounds j)
  pub stations : length rounds.least ≡ length rounds.moments
