-- Records that read as optional legs keep what optional legs keep.
use Rattle.std.proofs.Common.{◌≡◌, ◌&&◌, ℕ, not, nat_le, neg_ℤ, List, length, map, slice_index_or, Ok, subst, arith}
use Rattle.std.specs.Str.{is_utf8}
use Rattle.std.proofs.lemmas.Int.{ints}
use Rattle.std.proofs.lemmas.List.{length-map}
use Rattle.csv_fields.specs.Name.{name_of}
use Rattle.csv_fields.specs.Number.{whole_of}
use Rattle.fleet_model.specs.declared.limits.TheConstants.{MAX_COST}
use Rattle.fleet_model.specs.declared.refusals.TheConstants.{DUPLICATE, NOT_TEXT, TOO_MANY, UNKNOWN_FLIGHT}
use Rattle.fleet_model.specs.declared.tables.Tables.{Tables}
use Rattle.table_rows.specs.fleet_tables.Costs.{flight_of}
use Rattle.table_rows.specs.Fields.{two_of}
use Rattle.table_rows.specs.Names.{is_among, number_of_name}
use Rattle.table_rows.specs.Rows.{Fields}
use Rattle.table_rows.proofs.Kept.{front_each}
use Rattle.table_rows.proofs.ReadParts.{form_ok, known_ok, not_refused, number_within, same_answer, whole_within, width_ok}
use Rattle.sched_read.specs.optional_legs.Optional.{AreOptional, IsOptional, OptionalRead, optional_beside, optional_key, optional_read}
use Rattle.sched_read.specs.declared.optional_legs.optional.TheConstants.{MAX_OPTIONAL}
use Rattle.sched_read.specs.declared.optional_legs.optional.OptionalLeg.{OptionalLeg}

-- what a record that reads as an optional leg shows
new_optional : (flights earlier : List (List ℕ)) (fields : Fields) (optional : OptionalLeg) → optional_read flights earlier fields ≡ Ok optional → IsOptional (length flights) optional
unfolding optional_read
new_optional flights earlier fields optional reads =
    let wide = width_ok (two_of fields) _ optional reads in
    let text = not_refused (not (is_utf8 wide.0.0 && is_utf8 wide.0.1)) NOT_TEXT _ optional wide.2 in
    let flight = form_ok (name_of wide.0.0) _ optional text.1 in
    let units = form_ok (whole_of wide.0.1 (neg_ℤ MAX_COST) MAX_COST) _ optional flight.2 in
    let fresh = not_refused (is_among wide.0.0 earlier) DUPLICATE _ optional units.2 in
    let leg = known_ok (number_of_name wide.0.0 flights) UNKNOWN_FLIGHT _ optional fresh.1 in
    let room = not_refused (nat_le MAX_OPTIONAL (length earlier)) TOO_MANY _ optional leg.2 in
    let made : OptionalLeg = record { flight = wide.0.0; leg = leg.0; skip = units.0 } in
    let same = same_answer made optional room.1 in
    let in_range = whole_within wide.0.1 (neg_ℤ MAX_COST) MAX_COST units.0 units.1 in
    subst (IsOptional (length flights)) same (record {
      leg = number_within wide.0.0 flights leg.0 leg.1;
      skip = record { no_less = omega (arith, ints, in_range.0); no_more = omega (arith, ints, in_range.1) };
    })

pub optional_keep : (t : Tables) (records : List Fields) (optional : List OptionalLeg) → OptionalRead t records optional → AreOptional t optional
optional_keep t records optional reads = λ k d below.
    subst (λ n. IsOptional n (slice_index_or optional k d)) (length-map t.legs flight_of)
    (front_each optional_key (optional_beside t) (IsOptional (length (map flight_of t.legs))) (λ e f w r. new_optional (map flight_of t.legs) e f w r) reads.rest optional reads.rows.reads k d below)
