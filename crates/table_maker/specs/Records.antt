-- The records of made tables, by their numbers, and the texts of the tables.
use Rattle.std.specs.Prelude.{ℕ, zero, suc, ◌+◌, ◌*◌, ◌/◌, ◌%◌, if◌then◌else◌, List, [], ◌∷◌, codes, slice_index}
use Rattle.std.specs.Fmt.{decimal}
use Rattle.csv_fields.specs.Flag.{flag_text}
use Rattle.plan_text.specs.Text.{record_lines}
use Rattle.sums.specs.Places.{list_below}
use Rattle.table_maker.specs.Fields.{clock_text, fleet_name, flight_name, hub_code, is_out, maintains, spoke_code, station_code}
use Rattle.table_maker.specs.Trips.{trip_of}
use Rattle.table_maker.specs.declared.trips.RoundTrip.{RoundTrip}
use Rattle.table_rows.specs.Rows.{Fields}

-- the text of a header and so many records
unfoldable pub table_text : Fields → (ℕ → Fields) → ℕ → List ℕ
table_text header fields_at count = record_lines (header ∷ list_below fields_at count)

abbrev pub made_station_fields : ℕ → Fields
made_station_fields station = station_code station ∷ codes "0" ∷ flag_text (maintains station) ∷ []

-- F1 has an aircraft for each of so many round trips, and F2 for every other one
abbrev pub fleet_fields : ℕ → ℕ → Fields
fleet_fields trips zero = fleet_name 0 ∷ decimal trips ∷ codes "30" ∷ []
fleet_fields trips (suc fleet) = fleet_name 1 ∷ decimal (trips / 2) ∷ codes "45" ∷ []

-- where and when a round trip's flights leave and land
abbrev pub out_fields : RoundTrip → Fields
out_fields trip = hub_code ∷ clock_text trip.departs ∷ spoke_code trip.spoke ∷ clock_text (trip.departs + trip.block) ∷ []

abbrev pub back_fields : RoundTrip → Fields
back_fields trip =
    spoke_code trip.spoke ∷ clock_text (trip.departs + trip.block + trip.stay) ∷ hub_code ∷ clock_text (trip.departs + 2 * trip.block + trip.stay) ∷ []

abbrev pub made_leg_fields : List RoundTrip → ℕ → Fields
made_leg_fields trips leg = flight_name leg ∷ (if is_out leg then out_fields (trip_of trips (leg / 2)) else back_fields (trip_of trips (leg / 2)))

-- pairs go by leg, then fleet
abbrev pub cost_fields : List RoundTrip → ℕ → Fields
cost_fields trips pair = flight_name (pair / 2) ∷ fleet_name (pair % 2) ∷ decimal (slice_index (trip_of trips (pair / 4)).costs (pair % 4)) ∷ []

-- from a round trip's flight back to the next one's flight out
abbrev pub through_fields : List RoundTrip → ℕ → Fields
through_fields trips trip = flight_name (2 * trip + 1) ∷ flight_name (2 * trip + 2) ∷ decimal (trip_of trips trip).value ∷ []
