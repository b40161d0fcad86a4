-- Records that read as stations keep what stations keep.
use Rattle.std.proofs.Common.{◌≡◌, ◌≢◌, ◌≤◌, ◌<◌, ◌&&◌, ℕ, Bool, true, false, not, if◌then◌else◌, nat_le, List, length, codes, bytes_eq, Option, None, Result, Ok, Err, refl, ap, subst, arith}
use Rattle.std.specs.Option.{ForSome}
use Rattle.std.specs.Str.{is_utf8}
use Rattle.csv_fields.specs.declared.fault.FieldFault.{FieldFault}
use Rattle.csv_fields.specs.Flag.{yes_no_of}
use Rattle.csv_fields.specs.Name.{station_code_of}
use Rattle.fleet_model.specs.declared.limits.TheConstants.{MAX_GROUND_MINUTES, MAX_PARKING, MAX_STATIONS}
use Rattle.fleet_model.specs.declared.parts.Station.{Station}
use Rattle.fleet_model.specs.declared.refusals.TheConstants.{DUPLICATE, NOT_TEXT, TOO_MANY}
use Rattle.fleet_model.specs.Limits.{AreStations, IsStation}
use Rattle.table_rows.specs.Fields.{natural_of}
use Rattle.table_rows.specs.Names.{is_among}
use Rattle.table_rows.specs.Rows.{Fields, RowsRead}
use Rattle.table_rows.specs.declared.forms.Form.{Form}
use Rattle.table_rows.specs.declared.forms.Form.TheVariants as form
use Rattle.table_rows.proofs.Kept.{front_differ, front_each, front_few}
use Rattle.table_rows.proofs.ReadParts.{code_form, form_ok, natural_within, not_refused, room_left, same_answer, width_ok}
use Rattle.table_rows.specs.station_table.Stations.{StationsRead, as_limit, code_of, limit_read, station_fields, station_headers, station_read}

-- a file has one of the two headers
pub stations_differ : station_headers form.Old ≢ station_headers form.New
stations_differ same = omega (arith, ap length same)

-- a field that reads as a limit is within the limit of limits
limit_within : (field : List ℕ) (limit : Option ℕ) → limit_read field ≡ Ok limit → ForSome limit (λ n. n ≤ MAX_PARKING)
limit_within field limit reads = by_text (bytes_eq field (codes "-")) reads
  where
    by_number : (number : Result ℕ FieldFault) → natural_of field MAX_PARKING ≡ number → as_limit number ≡ Ok limit → ForSome limit (λ n. n ≤ MAX_PARKING)
    by_number (Ok n) is read m some = natural_within field MAX_PARKING m (cc)
    by_number (Err fault) is read m some = absurd (cc)

    by_text : (none : Bool) → (if none then Ok None else as_limit (natural_of field MAX_PARKING)) ≡ Ok limit → ForSome limit (λ n. n ≤ MAX_PARKING)
    by_text true read m some = absurd (cc)
    by_text false read m some = by_number (natural_of field MAX_PARKING) refl read m some

-- what a record that reads as a station below others shows
record IsNewStation (earlier : List (List ℕ)) (station : Station) : Type 0 where
  fits : IsStation station
  room : length earlier < MAX_STATIONS
  fresh : is_among station.code earlier ≡ false

new_station : (found : Form) (earlier : List (List ℕ)) (fields : Fields) (station : Station) → station_read found earlier fields ≡ Ok station → IsNewStation earlier station
unfolding station_read
new_station found earlier fields station reads =
    let wide = width_ok (station_fields found fields) _ station reads in
    let text = not_refused (not (is_utf8 wide.0.0 && is_utf8 wide.0.1 && is_utf8 wide.0.2 && is_utf8 wide.0.3)) NOT_TEXT _ station wide.2 in
    let code = form_ok (station_code_of wide.0.0) _ station text.1 in
    let extra = form_ok (natural_of wide.0.1 MAX_GROUND_MINUTES) _ station code.2 in
    let flag = form_ok (yes_no_of wide.0.2) _ station extra.2 in
    let limit = form_ok (limit_read wide.0.3) _ station flag.2 in
    let fresh = not_refused (is_among wide.0.0 earlier) DUPLICATE _ station limit.2 in
    let room = not_refused (nat_le MAX_STATIONS (length earlier)) TOO_MANY _ station fresh.1 in
    let made : Station = record { code = wide.0.0; extra = extra.0; maintenance = flag.0; parking = limit.0 } in
    let same = same_answer made station room.1 in
    record {
      fits = subst IsStation same (record { code = code_form wide.0.0 code.1; extra = natural_within wide.0.1 MAX_GROUND_MINUTES extra.0 extra.1; parking = limit_within wide.0.3 limit.0 limit.1 });
      room = room_left MAX_STATIONS (length earlier) room.0;
      fresh = subst (λ (s : Station). is_among s.code earlier ≡ false) same fresh.0;
    }

-- records below a header that read as stations
pub rows_keep : (found : Form) (rows : List Fields) (stations : List Station) → RowsRead code_of (station_read found) rows stations → AreStations stations
rows_keep found rows stations reads = record {
  few = front_few code_of (station_read found) MAX_STATIONS (λ e f s r. (new_station found e f s r).room) rows stations reads.reads;
  each = front_each code_of (station_read found) IsStation (λ e f s r. (new_station found e f s r).fits) rows stations reads.reads;
  differ = front_differ code_of (station_read found) (λ e f s r. (new_station found e f s r).fresh) rows stations reads.reads;
}

-- the records of a file
pub stations_keep : (records : List Fields) (stations : List Station) → StationsRead records stations → AreStations stations
stations_keep records stations reads = rows_keep reads.found reads.table.rest stations reads.table.rows
