-- Records that read as tails keep what tails keep.
use Rattle.std.proofs.Common.{◌≡◌, ◌≤◌, ◌<◌, ◌&&◌, ◌==◌, ℕ, ℤ, pos, Bool, true, false, if◌then◌else◌, is_ok, not, nat_le, List, length, map, Option, Some, None, Result, Ok, Err, refl, subst, arith}
use Rattle.std.specs.Str.{is_utf8}
use Rattle.std.proofs.lemmas.Int.{ints}
use Rattle.std.proofs.lemmas.List.{length-map}
use Rattle.csv_fields.specs.declared.fault.FieldFault.{FieldFault}
use Rattle.csv_fields.specs.Name.{name_of, station_code_of}
use Rattle.csv_fields.specs.Number.{whole_of}
use Rattle.fleet_model.specs.declared.refusals.TheConstants.{DUPLICATE, NOT_TEXT, TOO_MANY, UNKNOWN_FLEET, UNKNOWN_FLIGHT, UNKNOWN_STATION}
use Rattle.fleet_model.specs.declared.tables.Tables.{Tables}
use Rattle.table_rows.specs.fleet_tables.Costs.{flight_of}
use Rattle.table_rows.specs.fleet_tables.Fleets.{fleet_name_of}
use Rattle.table_rows.specs.station_table.Stations.{code_of}
use Rattle.table_rows.specs.Fields.{as_natural, known}
use Rattle.table_rows.specs.Names.{is_among, number_of_name}
use Rattle.table_rows.specs.Rows.{Fields, RowsRead}
use Rattle.table_rows.specs.declared.forms.Form.{Form}
use Rattle.table_rows.proofs.Kept.{front_differ, front_each, front_few}
use Rattle.table_rows.proofs.ReadParts.{form_ok, known_ok, name_form, not_refused, number_within, room_left, same_answer, whole_within, width_ok}
use Rattle.tail_dates.specs.Places.{IsPlaceIfAny}
use Rattle.tail_dates.specs.TailTable.{AreTailStates, IsTailState, at_form_of, at_of, nights_left_of, tail_beside, tail_fields, tail_name_of, tail_read, read_on}
use Rattle.tail_dates.specs.declared.tail_table.TheConstants.{MAX_NIGHTS_LEFT, MAX_TAILS}
use Rattle.tail_dates.specs.declared.tails.Place.{Place}
use Rattle.tail_dates.specs.declared.tails.Place.TheVariants as place
use Rattle.tail_dates.specs.declared.tails.TailState.{TailState}

-- nights left that are read lie in their range
left_within : (field : List ℕ) (n : ℕ) → nights_left_of field ≡ Ok n → (1 ≤ n) × (n ≤ MAX_NIGHTS_LEFT)
left_within field n ok = by_number (whole_of field (pos 1) (pos MAX_NIGHTS_LEFT)) refl ok
  where
    by_number : (number : Result ℤ FieldFault) → whole_of field (pos 1) (pos MAX_NIGHTS_LEFT) ≡ number → as_natural number ≡ Ok n → (1 ≤ n) × (n ≤ MAX_NIGHTS_LEFT)
    by_number (Ok number) is read =
        let in_range = whole_within field (pos 1) (pos MAX_NIGHTS_LEFT) number is in
        grind (arith, ints)
    by_number (Err fault) is read = absurd (cc read)

-- what goes on is a value
read_on_ok : {A B : Type 0} (value : Result A ℕ) (read : A → Result B ℕ) (answer : B) → read_on value read ≡ Ok answer → (a : A) × (value ≡ Ok a) × (read a ≡ Ok answer)
read_on_ok (Ok a) read answer ok = (a, refl, ok)
read_on_ok (Err kind) read answer ok = absurd (cc ok)

-- a place that is read is one of the tables
at_known : (t : Tables) (field : List ℕ) (at : Option Place) → at_of (map code_of t.stations) (map flight_of t.legs) field ≡ Ok at → IsPlaceIfAny t at
at_known t field at reads = by_form (length field == 0) (is_ok (station_code_of field)) reads
  where
    stations : List (List ℕ)
    stations = map code_of t.stations

    flights : List (List ℕ)
    flights = map flight_of t.legs

    by_form : (none code : Bool)
        → (if none then Ok None else if code then known (number_of_name field stations) UNKNOWN_STATION (λ s. Ok (Some (place.Stands s))) else known (number_of_name field flights) UNKNOWN_FLIGHT (λ l. Ok (Some (place.Flies l)))) ≡ Ok at
        → IsPlaceIfAny t at
    by_form true code read = subst (IsPlaceIfAny t) (same_answer None at read) tt
    by_form false true read =
        let s = known_ok (number_of_name field stations) UNKNOWN_STATION _ at read in
        subst (IsPlaceIfAny t) (same_answer (Some (place.Stands s.0)) at s.2) (subst (λ n. s.0 < n) (length-map t.stations code_of) (number_within field stations s.0 s.1))
    by_form false false read =
        let l = known_ok (number_of_name field flights) UNKNOWN_FLIGHT _ at read in
        subst (IsPlaceIfAny t) (same_answer (Some (place.Flies l.0)) at l.2) (subst (λ n. l.0 < n) (length-map t.legs flight_of) (number_within field flights l.0 l.1))

-- what a record that reads as a tail below others shows
record IsNewTail (t : Tables) (earlier : List (List ℕ)) (tail : TailState) : Type 0 where
  fits : IsTailState t tail
  room : length earlier < MAX_TAILS
  fresh : is_among tail.name earlier ≡ false

new_tail : (t : Tables) (header : Form) (earlier : List (List ℕ)) (fields : Fields) (tail : TailState) → tail_beside t header earlier fields ≡ Ok tail → IsNewTail t earlier tail
unfolding tail_read
new_tail t header earlier fields tail reads =
    let wide = width_ok (tail_fields header fields) _ tail reads in
    let text = not_refused (not (is_utf8 wide.0.0 && is_utf8 wide.0.1 && is_utf8 wide.0.2 && is_utf8 wide.0.3)) NOT_TEXT _ tail wide.2 in
    let name = form_ok (name_of wide.0.0) _ tail text.1 in
    let fleet = form_ok (name_of wide.0.1) _ tail name.2 in
    let left = form_ok (nights_left_of wide.0.2) _ tail fleet.2 in
    let form = form_ok (at_form_of wide.0.3) _ tail left.2 in
    let fresh = not_refused (is_among wide.0.0 earlier) DUPLICATE _ tail form.2 in
    let at = read_on_ok (at_of (map code_of t.stations) (map flight_of t.legs) wide.0.3) _ tail fresh.1 in
    let fleet_known = known_ok (number_of_name wide.0.1 (map fleet_name_of t.fleets)) UNKNOWN_FLEET _ tail at.2 in
    let room = not_refused (nat_le MAX_TAILS (length earlier)) TOO_MANY _ tail fleet_known.2 in
    let made : TailState = record { name = wide.0.0; fleet = fleet_known.0; left = left.0; at = at.0 } in
    let same = same_answer made tail room.1 in
    let in_range = left_within wide.0.2 left.0 left.1 in
    record {
      fits = subst (IsTailState t) same (record {
        name = name_form wide.0.0 name.1;
        fleet = subst (λ n. fleet_known.0 < n) (length-map t.fleets fleet_name_of) (number_within wide.0.1 (map fleet_name_of t.fleets) fleet_known.0 fleet_known.1);
        some_left = in_range.0;
        few_left = in_range.1;
        at = at_known t wide.0.3 at.0 at.1;
      });
      room = room_left MAX_TAILS (length earlier) room.0;
      fresh = subst (λ (s : TailState). is_among s.name earlier ≡ false) same fresh.0;
    }

pub tails_keep : (t : Tables) (header : Form) (rows : List Fields) (tails : List TailState) → RowsRead tail_name_of (tail_beside t header) rows tails → AreTailStates t tails
tails_keep t header rows tails reads =
    let read = tail_beside t header in
    record {
      few = front_few tail_name_of read MAX_TAILS (λ e f s r. (new_tail t header e f s r).room) rows tails reads.reads;
      each = front_each tail_name_of read (IsTailState t) (λ e f s r. (new_tail t header e f s r).fits) rows tails reads.reads;
      differ = front_differ tail_name_of read (λ e f s r. (new_tail t header e f s r).fresh) rows tails reads.reads;
    }
