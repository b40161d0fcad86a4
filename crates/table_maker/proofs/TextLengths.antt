-- Made texts are short: a line has at most 60 bytes.
use Rattle.std.proofs.Common.{ℕ, zero, suc, ◌+◌, ◌-◌, ◌*◌, ◌/◌, ◌%◌, ◌<◌, ◌≤◌, Bool, true, false, List, [], ◌∷◌, ◌++◌, length, map, codes, slice_index, arith}
use Rattle.std.specs.Prelude.{if◌then◌else◌}
use Rattle.std.specs.Fmt.{decimal}
use Rattle.std.specs.List.{range_with_len}
use Rattle.std.proofs.lemmas.List.{length-append}
use Rattle.csv.specs.Machine.{line_feed}
use Rattle.csv_fields.specs.Flag.{flag_text}
use Rattle.table_rows.specs.fleet_tables.Costs.{cost_header}
use Rattle.table_rows.specs.fleet_tables.Fleets.{fleet_header}
use Rattle.plan_text.specs.Text.{record_line, record_lines}
use Rattle.sched_read.specs.Legs.{leg_header}
use Rattle.sched_read.specs.Throughs.{through_header}
use Rattle.table_rows.specs.station_table.Stations.{station_header}
use Rattle.table_maker.specs.Fields.{clock_text, fleet_name, flight_name, hub_code, is_out, maintains, spoke_code, station_code}
use Rattle.table_maker.specs.Laws.{AreShort, MadeShort}
use Rattle.table_maker.specs.Made.{made_tables, tables_of_trips}
use Rattle.table_maker.specs.Records.{back_fields, cost_fields, fleet_fields, made_leg_fields, made_station_fields, out_fields, table_text, through_fields}
use Rattle.table_maker.specs.Trips.{spokes_for, trip_of, trips_drawn}
use Rattle.table_maker.specs.declared.trips.RoundTrip.{RoundTrip}
use Rattle.table_maker.proofs.DrawnTrips.{trips_fit}
use Rattle.table_maker.proofs.FieldForms.{number_is_name}
use Rattle.table_maker.proofs.MadeEntries.{AreTrips}
use Rattle.table_maker.proofs.NamesDiffer.{fleet_is_name, flight_is_name}
use Rattle.table_rows.specs.Rows.{Fields}

-- a field of few bytes
pub record IsBrief (field : List ℕ) : Type 0 where
  pub brief : length field ≤ 8

-- a line of few bytes
pub record IsShortLine (row : Fields) : Type 0 where
  pub short : length (record_line row) ≤ 60

three_fields : (a b c : List ℕ) → IsBrief a → IsBrief b → IsBrief c → IsShortLine (a ∷ b ∷ c ∷ [])
three_fields a b c p q r = record {
  short = omega (
    arith,
    p.brief,
    q.brief,
    r.brief,
    length-append c (line_feed ∷ []),
    length-append b (44 ∷ c),
    length-append a (44 ∷ (b ++ 44 ∷ c)),
    length-append (a ++ 44 ∷ (b ++ 44 ∷ c)) (line_feed ∷ []),
  );
}

five_fields : (a b c d e : List ℕ) → IsBrief a → IsBrief b → IsBrief c → IsBrief d → IsBrief e → IsShortLine (a ∷ b ∷ c ∷ d ∷ e ∷ [])
five_fields a b c d e p q r s u = record {
  short = omega (
    arith,
    p.brief,
    q.brief,
    r.brief,
    s.brief,
    u.brief,
    length-append d (44 ∷ e),
    length-append c (44 ∷ (d ++ 44 ∷ e)),
    length-append b (44 ∷ (c ++ 44 ∷ (d ++ 44 ∷ e))),
    length-append a (44 ∷ (b ++ 44 ∷ (c ++ 44 ∷ (d ++ 44 ∷ e)))),
    length-append (a ++ 44 ∷ (b ++ 44 ∷ (c ++ 44 ∷ (d ++ 44 ∷ e)))) (line_feed ∷ []),
  );
}

number_brief : (n : ℕ) → n < 10000 → IsBrief (decimal n)
number_brief n small = record { brief = (number_is_name n small).1 }

flight_brief : (leg : ℕ) → leg < 2000 → IsBrief (flight_name leg)
flight_brief leg few = record { brief = (flight_is_name leg few).1 }

fleet_brief : (fleet : ℕ) → IsBrief (fleet_name fleet)
fleet_brief fleet = record { brief = (fleet_is_name fleet).1 }

code_brief : (station : ℕ) → IsBrief (station_code station)
code_brief zero = record { brief = omega arith }
code_brief (suc spoke) = record { brief = omega arith }

flag_brief : (flag : Bool) → IsBrief (flag_text flag)
flag_brief true = record { brief = omega arith }
flag_brief false = record { brief = omega arith }

clock_brief : (minute : ℕ) → IsBrief (clock_text minute)
clock_brief minute = record { brief = omega arith }

station_short : (k : ℕ) → IsShortLine (made_station_fields k)
station_short k = three_fields (station_code k) (codes "0") (flag_text (maintains k)) (code_brief k) (record { brief = omega arith }) (flag_brief (maintains k))

fleet_short : (trips k : ℕ) → trips ≤ 500 → IsShortLine (fleet_fields trips k)
fleet_short trips zero few = three_fields (fleet_name 0) (decimal trips) (codes "30") (fleet_brief 0) (number_brief trips (omega arith)) (record { brief = omega arith })
fleet_short trips (suc k) few = three_fields (fleet_name 1) (decimal (trips / 2)) (codes "45") (fleet_brief 1) (number_brief (trips / 2) (omega arith)) (record { brief = omega arith })

flown_short : (flight : List ℕ) (out : Bool) (trip : RoundTrip) → IsBrief flight → IsShortLine (flight ∷ (if out then out_fields trip else back_fields trip))
flown_short flight true trip brief =
    five_fields flight hub_code (clock_text trip.departs) (spoke_code trip.spoke) (clock_text (trip.departs + trip.block))
    brief (code_brief 0) (clock_brief trip.departs) (code_brief (suc trip.spoke)) (clock_brief (trip.departs + trip.block))
flown_short flight false trip brief =
    five_fields flight (spoke_code trip.spoke) (clock_text (trip.departs + trip.block + trip.stay)) hub_code (clock_text (trip.departs + 2 * trip.block + trip.stay))
    brief (code_brief (suc trip.spoke)) (clock_brief (trip.departs + trip.block + trip.stay)) (code_brief 0) (clock_brief (trip.departs + 2 * trip.block + trip.stay))

module _ (fields_at : ℕ → Fields) where
  lines_short : (n first : ℕ) → ((k : ℕ) → k < first + n → IsShortLine (fields_at k)) → length (record_lines (map fields_at (range_with_len first n))) ≤ 60 * n
  lines_short zero first each = omega arith
  lines_short (suc n) first each =
      let here = (each first (omega arith)).short in
      let more = lines_short n (first + 1) (λ k below. each k (omega arith)) in
      omega (arith, length-append (record_line (fields_at first)) (record_lines (map fields_at (range_with_len (first + 1) n))), here, more)

  text_short : (header : Fields) (n : ℕ) → IsShortLine header → ((k : ℕ) → k < n → IsShortLine (fields_at k)) → length (table_text header fields_at n) ≤ 60 * (n + 1)
  unfolding table_text
  text_short header n first each =
      let more = lines_short n 0 (λ k below. each k (omega arith)) in
      omega (arith, length-append (record_line header) (record_lines (map fields_at (range_with_len 0 n))), first.short, more)

trips_short : (trips : List RoundTrip) → AreTrips trips → AreShort (tables_of_trips trips)
unfolding tables_of_trips
trips_short trips are =
    let n = length trips in
    let few = are.few in
    let stations = text_short made_station_fields station_header (1 + spokes_for n) (record { short = omega arith }) (λ k below. station_short k) in
    let fleets = text_short (fleet_fields n) fleet_header 2 (record { short = omega arith }) (λ k below. fleet_short n k few) in
    let legs = text_short (made_leg_fields trips) leg_header (2 * n) (record { short = omega arith })
    (λ l below. flown_short (flight_name l) (is_out l) (trip_of trips (l / 2)) (flight_brief l (omega (arith, few)))) in
    let costs = text_short (cost_fields trips) cost_header (4 * n) (record { short = omega arith })
    (λ p below. three_fields (flight_name (p / 2)) (fleet_name (p % 2)) (decimal (slice_index (trip_of trips (p / 4)).costs (p % 4))) (flight_brief (p / 2) (omega (arith, few))) (fleet_brief (p % 2))
    (let small = (are.each (p / 4) (omega arith)).costs_fit (p % 4) in number_brief _ (omega (arith, small)))) in
    let throughs = text_short (through_fields trips) through_header (n - 1) (record { short = omega arith })
    (λ i below. three_fields (flight_name (2 * i + 1)) (flight_name (2 * i + 2)) (decimal (trip_of trips i).value)
    (flight_brief (2 * i + 1) (omega (arith, few))) (flight_brief (2 * i + 2) (omega (arith, few)))
    (let small = (are.each i (omega arith)).value_fits in number_brief _ (omega (arith, small)))) in
    record {
      stations_short = omega (arith, stations, few);
      fleets_short = omega (arith, fleets);
      legs_short = omega (arith, legs, few);
      costs_short = omega (arith, costs, few);
      throughs_short = omega (arith, throughs, few);
    }

pub made_short : MadeShort
unfolding made_tables
made_short number legs can = trips_short (trips_drawn number (legs / 2)) (trips_fit number (legs / 2) (omega (arith, can.legs_few)))
