-- Records that read as fleets keep what fleets keep.
use Rattle.std.proofs.Common.{◌≡◌, ◌<◌, ◌&&◌, ℕ, false, not, nat_le, List, length, Ok, subst}
use Rattle.std.specs.Str.{is_utf8}
use Rattle.csv_fields.specs.Name.{name_of}
use Rattle.fleet_model.specs.declared.limits.TheConstants.{MAX_AIRCRAFT, MAX_FLEETS, MAX_GROUND_MINUTES}
use Rattle.fleet_model.specs.declared.parts.Fleet.{Fleet}
use Rattle.fleet_model.specs.declared.refusals.TheConstants.{DUPLICATE, NOT_TEXT, TOO_MANY}
use Rattle.fleet_model.specs.Limits.{AreFleets, IsFleet}
use Rattle.table_rows.specs.Fields.{natural_of, three_of}
use Rattle.table_rows.specs.Names.{is_among}
use Rattle.table_rows.specs.Rows.{Fields}
use Rattle.table_rows.proofs.Kept.{front_differ, front_each, front_few}
use Rattle.table_rows.proofs.ReadParts.{form_ok, name_form, natural_within, not_refused, room_left, same_answer, width_ok}
use Rattle.table_rows.specs.fleet_tables.Fleets.{FleetsRead, fleet_name_of, fleet_read}

-- what a record that reads as a fleet below others shows
record IsNewFleet (earlier : List (List ℕ)) (fleet : Fleet) : Type 0 where
  fits : IsFleet fleet
  room : length earlier < MAX_FLEETS
  fresh : is_among fleet.name earlier ≡ false

new_fleet : (earlier : List (List ℕ)) (fields : Fields) (fleet : Fleet) → fleet_read earlier fields ≡ Ok fleet → IsNewFleet earlier fleet
unfolding fleet_read
new_fleet earlier fields fleet reads =
    let wide = width_ok (three_of fields) _ fleet reads in
    let text = not_refused (not (is_utf8 wide.0.0 && is_utf8 wide.0.1 && is_utf8 wide.0.2)) NOT_TEXT _ fleet wide.2 in
    let name = form_ok (name_of wide.0.0) _ fleet text.1 in
    let count = form_ok (natural_of wide.0.1 MAX_AIRCRAFT) _ fleet name.2 in
    let turn = form_ok (natural_of wide.0.2 MAX_GROUND_MINUTES) _ fleet count.2 in
    let fresh = not_refused (is_among wide.0.0 earlier) DUPLICATE _ fleet turn.2 in
    let room = not_refused (nat_le MAX_FLEETS (length earlier)) TOO_MANY _ fleet fresh.1 in
    let made : Fleet = record { name = wide.0.0; aircraft = count.0; turn = turn.0 } in
    let same = same_answer made fleet room.1 in
    record {
      fits = subst IsFleet same (record { name = name_form wide.0.0 name.1; aircraft = natural_within wide.0.1 MAX_AIRCRAFT count.0 count.1; turn = natural_within wide.0.2 MAX_GROUND_MINUTES turn.0 turn.1 });
      room = room_left MAX_FLEETS (length earlier) room.0;
      fresh = subst (λ (f : Fleet). is_among f.name earlier ≡ false) same fresh.0;
    }

pub fleets_keep : (records : List Fields) (fleets : List Fleet) → FleetsRead records fleets → AreFleets fleets
fleets_keep records fleets reads = record {
  few = front_few fleet_name_of fleet_read MAX_FLEETS (λ e f s r. (new_fleet e f s r).room) reads.rest fleets reads.rows.reads;
  each = front_each fleet_name_of fleet_read IsFleet (λ e f s r. (new_fleet e f s r).fits) reads.rest fleets reads.rows.reads;
  differ = front_differ fleet_name_of fleet_read (λ e f s r. (new_fleet e f s r).fresh) reads.rest fleets reads.rows.reads;
}
