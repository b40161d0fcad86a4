-- Records that read as through pairs keep what through pairs keep.
use Rattle.std.proofs.Common.{◌≡◌, ◌<◌, ◌&&◌, ℕ, pos, false, not, nat_le, List, [], ◌∷◌, length, map, slice_index_or, Ok, refl, subst, inl, inr, arith}
use Rattle.std.proofs.lemmas.List.{length-map}
use Rattle.std.specs.Str.{is_utf8}
use Rattle.table_rows.specs.fleet_tables.Costs.{flight_of}
use Rattle.csv_fields.specs.Name.{name_of}
use Rattle.csv_fields.specs.Number.{whole_of}
use Rattle.csv_fields.specs.Record.{records_of}
use Rattle.fleet_model.specs.declared.limits.TheConstants.{MAX_COST, MAX_THROUGHS}
use Rattle.fleet_model.specs.declared.parts.Leg.{Leg}
use Rattle.fleet_model.specs.declared.parts.Through.{Through}
use Rattle.fleet_model.specs.declared.refusals.TheConstants.{DUPLICATE, NOT_TEXT, TOO_MANY, UNKNOWN_FLIGHT}
use Rattle.fleet_model.specs.Limits.{AreThroughs, IsThrough, SameThrough}
use Rattle.table_rows.specs.Fields.{three_of}
use Rattle.table_rows.specs.Names.{is_among, number_of_name}
use Rattle.table_rows.specs.Rows.{Fields}
use Rattle.table_rows.proofs.Kept.{front_differ, front_each, front_few}
use Rattle.table_rows.proofs.ReadParts.{form_ok, known_ok, not_refused, number_within, room_left, same_answer, whole_within, width_ok}
use Rattle.sched_read.specs.Throughs.{ThroughTableReads, ThroughsRead, connection_of, through_read}

-- what a record that reads as a through pair below others shows
record IsNewThrough (flights earlier : List (List ℕ)) (entry : Through) : Type 0 where
  fits : IsThrough (length flights) entry
  room : length earlier < MAX_THROUGHS
  fresh : is_among (connection_of entry) earlier ≡ false

new_through : (flights earlier : List (List ℕ)) (fields : Fields) (entry : Through) → through_read flights earlier fields ≡ Ok entry → IsNewThrough flights earlier entry
unfolding through_read
new_through flights earlier fields entry reads =
    let wide = width_ok (three_of fields) _ entry reads in
    let text = not_refused (not (is_utf8 wide.0.0 && is_utf8 wide.0.1 && is_utf8 wide.0.2)) NOT_TEXT _ entry wide.2 in
    let arriving = form_ok (name_of wide.0.0) _ entry text.1 in
    let departing = form_ok (name_of wide.0.1) _ entry arriving.2 in
    let units = form_ok (whole_of wide.0.2 (pos 0) MAX_COST) _ entry departing.2 in
    let first = known_ok (number_of_name wide.0.0 flights) UNKNOWN_FLIGHT _ entry units.2 in
    let second = known_ok (number_of_name wide.0.1 flights) UNKNOWN_FLIGHT _ entry first.2 in
    let fresh = not_refused (is_among (first.0 ∷ second.0 ∷ []) earlier) DUPLICATE _ entry second.2 in
    let room = not_refused (nat_le MAX_THROUGHS (length earlier)) TOO_MANY _ entry fresh.1 in
    let made : Through = record { arriving = first.0; departing = second.0; value = units.0 } in
    let same = same_answer made entry room.1 in
    let in_range = whole_within wide.0.2 (pos 0) MAX_COST units.0 units.1 in
    record {
      fits = subst (IsThrough (length flights)) same (record {
        arriving = number_within wide.0.0 flights first.0 first.1;
        departing = number_within wide.0.1 flights second.0 second.1;
        no_less = in_range.0;
        no_more = in_range.1;
      });
      room = room_left MAX_THROUGHS (length earlier) room.0;
      fresh = subst (λ (e : Through). is_among (connection_of e) earlier ≡ false) same fresh.0;
    }

connections_equal : (a b : Through) → SameThrough a b → connection_of a ≡ connection_of b
connections_equal a b same = rw (same.arriving, same.departing) refl

by_flights : (flights : List (List ℕ)) (records : List Fields) (throughs : List Through) → ThroughTableReads flights records throughs → AreThroughs (length flights) throughs
by_flights flights records throughs reads =
    let read = through_read flights in
    let differ = front_differ connection_of read (λ e f s r. (new_through flights e f s r).fresh) reads.rest throughs reads.rows.reads in
    record {
      few = front_few connection_of read MAX_THROUGHS (λ e f s r. (new_through flights e f s r).room) reads.rest throughs reads.rows.reads;
      each = front_each connection_of read (IsThrough (length flights)) (λ e f s r. (new_through flights e f s r).fits) reads.rest throughs reads.rows.reads;
      differ = λ i j d order within same. differ i j d order within (connections_equal (slice_index_or throughs i d) (slice_index_or throughs j d) same);
    }

pub table_keeps : (legs : List Leg) (records : List Fields) (throughs : List Through) → ThroughTableReads (map flight_of legs) records throughs → AreThroughs (length legs) throughs
table_keeps legs records throughs reads = subst (λ n. AreThroughs n throughs) (length-map legs flight_of) (by_flights (map flight_of legs) records throughs reads)

pub throughs_keep : (legs : List Leg) (bytes : List ℕ) (throughs : List Through) → ThroughsRead (map flight_of legs) bytes throughs → AreThroughs (length legs) throughs
throughs_keep legs bytes throughs (inl none) =
    rw none.1 (record { few = omega arith; each = λ k d within. absurd (omega arith); differ = λ i j d order within. absurd (omega arith) })
throughs_keep legs bytes throughs (inr reads) = table_keeps legs (records_of bytes) throughs reads
