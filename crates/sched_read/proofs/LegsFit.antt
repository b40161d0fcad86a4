-- Records that read as legs keep what legs keep.
use Rattle.std.proofs.Common.{◌≡◌, ◌≢◌, ◌<◌, ◌==◌, ℕ, ℤ, pos, false, not, nat_le, List, length, map, Option, None, Some, Result, Ok, Err, refl, ap, subst, arith, pos_of_ne-zero}
use Rattle.std.specs.List.{list_all}
use Rattle.std.specs.Str.{is_utf8}
use Rattle.std.proofs.lemmas.Bool.{eqb-false}
use Rattle.std.proofs.lemmas.Int.{ints}
use Rattle.std.proofs.lemmas.List.{length-map}
use Rattle.std.proofs.Math.Nat.{mod-lt}
use Rattle.table_rows.specs.fleet_tables.Costs.{flight_of}
use Rattle.csv_fields.specs.declared.fault.FieldFault.{FieldFault}
use Rattle.csv_fields.specs.Name.{name_of, station_code_of}
use Rattle.csv_fields.specs.Number.{whole_of}
use Rattle.csv_fields.specs.Time.{clock_time_of}
use Rattle.fleet_model.specs.declared.limits.TheConstants.{MAX_LEGS, MINUTES_PER_DAY}
use Rattle.fleet_model.specs.declared.parts.Leg.{Leg}
use Rattle.fleet_model.specs.declared.parts.Settings.{Settings}
use Rattle.fleet_model.specs.declared.parts.Station.{Station}
use Rattle.fleet_model.specs.declared.refusals.TheConstants.{DUPLICATE, NOT_TEXT, TOO_MANY, TO_ITSELF, UNKNOWN_STATION, ZERO_BLOCK}
use Rattle.fleet_model.specs.Limits.{AreLegs, IsCostUpTo, IsLeg}
use Rattle.fleet_model.specs.Windows.{no_leg}
use Rattle.fleet_model.proofs.NotAsked.{own_alone}
use Rattle.table_rows.specs.Fields.{as_natural}
use Rattle.table_rows.specs.Names.{is_among, number_of_name}
use Rattle.table_rows.specs.Rows.{Fields, RowsRead}
use Rattle.table_rows.specs.declared.forms.Form.{Form}
use Rattle.table_rows.specs.declared.forms.Form.TheVariants as form
use Rattle.table_rows.specs.station_table.Stations.{code_of}
use Rattle.table_rows.proofs.Kept.{front_differ, front_each, front_few}
use Rattle.table_rows.proofs.ReadParts.{form_ok, known_ok, name_form, not_refused, number_within, room_left, same_answer, whole_within, width_ok}
use Rattle.sched_read.specs.Legs.{ArePlain, LegsRead, block_between, day_read, from_period_start, leg_between, leg_fields, leg_headers, leg_read, period_minutes}

-- a file has one of the two headers
pub headers_differ : leg_headers form.Old ≢ leg_headers form.New
headers_differ same = omega (arith, ap length same)

-- where a field reads as a day, the period has one
day_within : (settings : Settings) (field : List ℕ) (day : ℕ) → day_read settings field ≡ Ok day → 0 < settings.period
day_within settings field day reads = by_number (whole_of field (pos 1) (pos settings.period)) refl reads
  where
    by_number : (number : Result ℤ FieldFault) → whole_of field (pos 1) (pos settings.period) ≡ number → as_natural number ≡ Ok day → 0 < settings.period
    by_number (Ok number) is read =
        let in_range = whole_within field (pos 1) (pos settings.period) number is in
        omega (arith, ints, in_range.0, in_range.1)
    by_number (Err fault) is read = absurd (cc read)

minute_within : (settings : Settings) (field : List ℕ) (day minute : ℕ) → day_read settings field ≡ Ok day → from_period_start settings day minute < period_minutes settings
minute_within settings field day minute reads =
    let some : 0 < settings.period = day_within settings field day reads in
    mod-lt _ (omega (arith, some))

block_within : (dep arr : ℕ) → block_between dep arr < MINUTES_PER_DAY
block_within dep arr = omega arith

-- what a record that reads as a leg below others shows
record IsNewLeg (stations : List (List ℕ)) (days : ℕ) (earlier : List (List ℕ)) (leg : Leg) : Type 0 where
  fits : IsLeg (length stations) days leg
  room : length earlier < MAX_LEGS
  fresh : is_among leg.flight earlier ≡ false
  once : length leg.shifts ≡ 1
  flown : leg.skip ≡ None

-- a leg that must be flown has no price of being left out
must_fly : (price : ℤ) → ◌≡◌ {A = Option ℤ} None (Some price) → IsCostUpTo 1 price
must_fly price is = absurd (cc is)

new_leg : (stations : List (List ℕ)) (settings : Settings) (found : Form) (earlier : List (List ℕ)) (fields : Fields) (leg : Leg) → leg_read stations settings found earlier fields ≡ Ok leg
    → IsNewLeg stations settings.period earlier leg
unfolding leg_read
new_leg stations settings found earlier fields leg reads =
    let wide = width_ok (leg_fields found fields) _ leg reads in
    let text = not_refused (not (list_all is_utf8 fields)) NOT_TEXT _ leg wide.2 in
    let flight = form_ok (name_of wide.0.0) _ leg text.1 in
    let day = form_ok (day_read settings wide.0.1) _ leg flight.2 in
    let from = form_ok (station_code_of wide.0.2) _ leg day.2 in
    let leaves = form_ok (clock_time_of wide.0.3) _ leg from.2 in
    let to = form_ok (station_code_of wide.0.4) _ leg leaves.2 in
    let lands = form_ok (clock_time_of wide.0.5) _ leg to.2 in
    let fresh = not_refused (is_among wide.0.0 earlier) DUPLICATE _ leg lands.2 in
    let from_known = known_ok (number_of_name wide.0.2 stations) UNKNOWN_STATION _ leg fresh.1 in
    let to_known = known_ok (number_of_name wide.0.4 stations) UNKNOWN_STATION _ leg from_known.2 in
    let flies = not_refused (block_between leaves.0 lands.0 == 0) ZERO_BLOCK _ leg to_known.2 in
    let away = not_refused (from_known.0 == to_known.0) TO_ITSELF _ leg flies.1 in
    let room = not_refused (nat_le MAX_LEGS (length earlier)) TOO_MANY _ leg away.1 in
    let dep = from_period_start settings day.0 leaves.0 in
    let within : dep < period_minutes settings = minute_within settings wide.0.1 day.0 leaves.0 day.1 in
    let made : Leg = leg_between wide.0.0 from_known.0 to_known.0 dep (block_between leaves.0 lands.0) in
    let same = same_answer made leg room.1 in
    record {
      fits = subst (IsLeg (length stations) settings.period) same (record {
        flight = name_form wide.0.0 flight.1;
        from = number_within wide.0.2 stations from_known.0 from_known.1;
        to = number_within wide.0.4 stations to_known.0 to_known.1;
        dep = within;
        some_block = pos_of_ne-zero (eqb-false (block_between leaves.0 lands.0) 0 flies.0);
        block = block_within leaves.0 lands.0;
        shifts = own_alone settings.period dep within;
        skip = must_fly;
      });
      room = room_left MAX_LEGS (length earlier) room.0;
      fresh = subst (λ (l : Leg). is_among l.flight earlier ≡ false) same fresh.0;
      once = subst (λ (l : Leg). length l.shifts ≡ 1) same refl;
      flown = subst (λ (l : Leg). l.skip ≡ None) same refl;
    }

-- records below a header that read as legs
by_codes : (stations : List (List ℕ)) (settings : Settings) (found : Form) (rows : List Fields) (legs : List Leg) → RowsRead flight_of (leg_read stations settings found) rows legs
    → AreLegs (length stations) settings.period legs
by_codes stations settings found rows legs reads =
    let read = leg_read stations settings found in
    let new = new_leg stations settings found in
    record {
      few = front_few flight_of read MAX_LEGS (λ e f l r. (new e f l r).room) rows legs reads.reads;
      each = front_each flight_of read (IsLeg (length stations) settings.period) (λ e f l r. (new e f l r).fits) rows legs reads.reads;
      differ = front_differ flight_of read (λ e f l r. (new e f l r).fresh) rows legs reads.reads;
    }

pub rows_keep : (stations : List Station) (settings : Settings) (found : Form) (rows : List Fields) (legs : List Leg) → RowsRead flight_of (leg_read (map code_of stations) settings found) rows legs
    → AreLegs (length stations) settings.period legs
rows_keep stations settings found rows legs reads =
    subst (λ n. AreLegs n settings.period legs) (length-map stations code_of) (by_codes (map code_of stations) settings found rows legs reads)

-- such legs have their own times alone, and none may be left out
pub rows_plain : (stations : List (List ℕ)) (settings : Settings) (found : Form) (rows : List Fields) (legs : List Leg) → RowsRead flight_of (leg_read stations settings found) rows legs → ArePlain legs
rows_plain stations settings found rows legs reads =
    let read = leg_read stations settings found in
    let new = new_leg stations settings found in
    record {
      once = record { each = λ l below. front_each flight_of read (λ leg. length leg.shifts ≡ 1) (λ e f l r. (new e f l r).once) rows legs reads.reads l no_leg below };
      flown = record { each = λ l below. front_each flight_of read (λ leg. leg.skip ≡ None) (λ e f l r. (new e f l r).flown) rows legs reads.reads l no_leg below };
    }

-- the records of a file
pub legs_keep : (stations : List Station) (settings : Settings) (records : List Fields) (legs : List Leg) → LegsRead (map code_of stations) settings records legs
    → AreLegs (length stations) settings.period legs
legs_keep stations settings records legs reads = rows_keep stations settings reads.found reads.table.rest legs reads.table.rows

pub legs_plain : (stations : List (List ℕ)) (settings : Settings) (records : List Fields) (legs : List Leg) → LegsRead stations settings records legs → ArePlain legs
legs_plain stations settings records legs reads = rows_plain stations settings reads.found reads.table.rest legs reads.table.rows
