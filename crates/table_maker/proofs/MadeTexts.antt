-- The texts of made tables have their records, and these read as entries.
use Rattle.std.proofs.Common.{◌≡◌, ℕ, zero, suc, ◌+◌, ◌-◌, ◌*◌, ◌/◌, ◌%◌, ◌<◌, ◌≤◌, Bool, true, false, List, ◌∷◌, slice_index, refl, inr, arith}
use Rattle.std.specs.Prelude.{if◌then◌else◌}
use Rattle.std.specs.Fmt.{decimal}
use Rattle.csv.specs.Reading.{strip_bom}
use Rattle.csv_fields.specs.Record.{records_of}
use Rattle.fleet_model.specs.declared.parts.Settings.{Settings}
use Rattle.table_rows.specs.fleet_tables.Costs.{CostsRead, cost_header, cost_key, cost_read, flight_of}
use Rattle.table_rows.specs.fleet_tables.Fleets.{FleetsRead, fleet_header, fleet_name_of, fleet_read}
use Rattle.sched_read.specs.Legs.{LegsRead, leg_header, leg_read}
use Rattle.sched_read.specs.Throughs.{ThroughsRead, connection_of, through_header, through_read}
use Rattle.table_rows.specs.station_table.Stations.{StationsRead, code_of, station_header, station_read}
use Rattle.sums.specs.Places.{list_below}
use Rattle.table_maker.specs.Fields.{fleet_name, flight_name, is_out, maintains, station_code}
use Rattle.table_maker.specs.Records.{back_fields, cost_fields, fleet_fields, made_leg_fields, made_station_fields, out_fields, table_text, through_fields}
use Rattle.table_maker.specs.Trips.{trip_of}
use Rattle.table_maker.specs.declared.trips.RoundTrip.{RoundTrip}
use Rattle.table_maker.proofs.FieldForms.{clock_kept, flag_kept, name_kept, number_is_name}
use Rattle.table_maker.proofs.MadeEntries.{IsRoundTrip, cost_entry, cost_reads, fleet_entry, fleet_reads, leg_entry, leg_reads, station_entry, station_reads, through_entry, through_reads}
use Rattle.table_maker.proofs.NamesDiffer.{code_is_code, code_is_name, fleet_is_name, flight_is_name}
use Rattle.table_maker.proofs.NumberedNames.{rows_read}
use Rattle.table_maker.proofs.PlainRows.{IsPlain, IsPlainRow, table_back}
use Rattle.table_rows.specs.Rows.{Fields}
use Rattle.table_rows.specs.declared.forms.Form.TheVariants as form

code_plain : (station : ℕ) → station ≤ 676 → IsPlain (station_code station)
code_plain station few = (name_kept (station_code station) (code_is_name (station_code station) (code_is_code station few))).plain

flight_plain : (leg : ℕ) → leg < 2000 → IsPlain (flight_name leg)
flight_plain leg few = (name_kept (flight_name leg) (flight_is_name leg few)).plain

number_plain : (n : ℕ) → n < 10000 → IsPlain (decimal n)
number_plain n small = (name_kept (decimal n) (number_is_name n small)).plain

station_plain : (k : ℕ) → k ≤ 676 → IsPlainRow (made_station_fields k)
station_plain k few = (code_plain k few, (refl, ((flag_kept (maintains k)).plain, tt)))

fleet_plain : (trips k : ℕ) → trips ≤ 500 → IsPlainRow (fleet_fields trips k)
fleet_plain trips zero few = (refl, (number_plain trips (omega arith), (refl, tt)))
fleet_plain trips (suc k) few = (refl, (number_plain (trips / 2) (omega arith), (refl, tt)))

flown_plain : (flight : List ℕ) (out : Bool) (trip : RoundTrip) → trip.spoke < 676 → IsPlain flight → IsPlainRow (flight ∷ (if out then out_fields trip else back_fields trip))
flown_plain flight true trip few plain =
    (plain, (refl, ((clock_kept trip.departs).plain, (code_plain (suc trip.spoke) few, ((clock_kept (trip.departs + trip.block)).plain, tt)))))
flown_plain flight false trip few plain =
    (plain, (code_plain (suc trip.spoke) few, ((clock_kept (trip.departs + trip.block + trip.stay)).plain, (refl, ((clock_kept (trip.departs + 2 * trip.block + trip.stay)).plain, tt)))))

no_mark_stations : (fields_at : ℕ → Fields) (n : ℕ) → strip_bom (table_text station_header fields_at n) ≡ table_text station_header fields_at n
unfolding strip_bom table_text
no_mark_stations fields_at n = refl

no_mark_fleets : (fields_at : ℕ → Fields) (n : ℕ) → strip_bom (table_text fleet_header fields_at n) ≡ table_text fleet_header fields_at n
unfolding strip_bom table_text
no_mark_fleets fields_at n = refl

no_mark_legs : (fields_at : ℕ → Fields) (n : ℕ) → strip_bom (table_text leg_header fields_at n) ≡ table_text leg_header fields_at n
unfolding strip_bom table_text
no_mark_legs fields_at n = refl

no_mark_costs : (fields_at : ℕ → Fields) (n : ℕ) → strip_bom (table_text cost_header fields_at n) ≡ table_text cost_header fields_at n
unfolding strip_bom table_text
no_mark_costs fields_at n = refl

no_mark_throughs : (fields_at : ℕ → Fields) (n : ℕ) → strip_bom (table_text through_header fields_at n) ≡ table_text through_header fields_at n
unfolding strip_bom table_text
no_mark_throughs fields_at n = refl

-- by the header without limits of parking
pub stations_back : (stations : ℕ) → stations ≤ 200 → StationsRead (records_of (table_text station_header made_station_fields stations)) (list_below station_entry stations)
stations_back stations few =
    let back = table_back made_station_fields station_header stations (no_mark_stations made_station_fields stations) (refl, (refl, (refl, tt))) (λ k below. station_plain k (omega arith)) in
    record {
      found = form.Old;
      allowed = refl;
      table = rows_read code_of (station_read form.Old) station_header _ made_station_fields station_entry stations back (λ k below. station_reads k (omega arith));
    }

pub fleets_back : (trips : ℕ) → trips ≤ 500 → FleetsRead (records_of (table_text fleet_header (fleet_fields trips) 2)) (list_below (fleet_entry trips) 2)
fleets_back trips few =
    let back = table_back (fleet_fields trips) fleet_header 2 (no_mark_fleets (fleet_fields trips) 2) (refl, (refl, (refl, tt))) (λ k below. fleet_plain trips k few) in
    rows_read fleet_name_of fleet_read fleet_header _ (fleet_fields trips) (fleet_entry trips) 2 back (λ k below. fleet_reads trips k few below)

module _ (trips : List RoundTrip) (n stations : ℕ) (few : n ≤ 500) (there : stations ≤ 200) (fit : (i : ℕ) → i < n → IsRoundTrip (stations - 1) (trip_of trips i)) where
  leg_plain : (l : ℕ) → l < 2 * n → IsPlainRow (made_leg_fields trips l)
  leg_plain l within =
      let trip = fit (l / 2) (omega arith) in
      flown_plain (flight_name l) (is_out l) (trip_of trips (l / 2)) (omega (arith, trip.there)) (flight_plain l (omega arith))

  cost_plain : (p : ℕ) → p < 4 * n → IsPlainRow (cost_fields trips p)
  cost_plain p within =
      let small = (fit (p / 4) (omega arith)).costs_fit (p % 4) in
      (flight_plain (p / 2) (omega arith), ((name_kept (fleet_name (p % 2)) (fleet_is_name (p % 2))).plain, (number_plain (slice_index (trip_of trips (p / 4)).costs (p % 4)) (omega (arith, small)), tt)))

  through_plain : (i : ℕ) → i < n - 1 → IsPlainRow (through_fields trips i)
  through_plain i within =
      let small = (fit i (omega arith)).value_fits in
      (flight_plain (2 * i + 1) (omega arith), (flight_plain (2 * i + 2) (omega arith), (number_plain (trip_of trips i).value (omega (arith, small)), tt)))

  -- by the header without days, which a period of one day allows
  pub legs_back : (settings : Settings) → settings.period ≡ 1
      → LegsRead (list_below station_code stations) settings (records_of (table_text leg_header (made_leg_fields trips) (2 * n))) (list_below (leg_entry settings trips) (2 * n))
  legs_back settings one =
      let back = table_back (made_leg_fields trips) leg_header (2 * n) (no_mark_legs (made_leg_fields trips) (2 * n)) (refl, (refl, (refl, (refl, (refl, tt))))) leg_plain in
      record {
        found = form.Old;
        allowed = rw one refl;
        table = rows_read flight_of (leg_read (list_below station_code stations) settings form.Old) leg_header _ (made_leg_fields trips) (leg_entry settings trips) (2 * n) back
            (leg_reads trips n stations few there fit settings one);
      }

  pub costs_back
      : CostsRead (list_below flight_name (2 * n)) (list_below fleet_name 2) (records_of (table_text cost_header (cost_fields trips) (4 * n))) (list_below (cost_entry trips) (4 * n))
  costs_back =
      let back = table_back (cost_fields trips) cost_header (4 * n) (no_mark_costs (cost_fields trips) (4 * n)) (refl, (refl, (refl, tt))) cost_plain in
      rows_read cost_key (cost_read (list_below flight_name (2 * n)) (list_below fleet_name 2)) cost_header _ (cost_fields trips) (cost_entry trips) (4 * n) back
      (cost_reads trips n stations few there fit)

  pub throughs_back : ThroughsRead (list_below flight_name (2 * n)) (table_text through_header (through_fields trips) (n - 1)) (list_below (through_entry trips) (n - 1))
  throughs_back =
      let back = table_back (through_fields trips) through_header (n - 1) (no_mark_throughs (through_fields trips) (n - 1)) (refl, (refl, (refl, tt))) through_plain in
      inr (rows_read connection_of (through_read (list_below flight_name (2 * n))) through_header _ (through_fields trips) (through_entry trips) (n - 1) back
      (through_reads trips n stations few there fit))
