-- Records that read as windows keep what windows keep.
use Rattle.std.proofs.Common.{◌≡◌, ◌≢◌, ◌==◌, ◌<◌, ◌≤◌, ◌&&◌, ℕ, zero, suc, ◌+◌, ℤ, pos, neg_ℤ, unsigned_abs, Bool, true, false, not, if◌then◌else◌, List, [], ◌∷◌, ◌++◌, length, map, take, slice_index_or, Option, None, Some, Result, Ok, Err, refl, sym, ap, subst, ◌∙◌, arith}
use Rattle.std.specs.Str.{is_utf8}
use Rattle.std.proofs.lemmas.Bool.Decides.{nat_tests}
use Rattle.std.proofs.lemmas.Int.{ints}
use Rattle.std.proofs.lemmas.List.{length-map, map_more, take_all}
use Rattle.csv_fields.specs.declared.fault.FieldFault.{FieldFault}
use Rattle.csv_fields.specs.Name.{name_of}
use Rattle.csv_fields.specs.Number.{whole_of}
use Rattle.fleet_model.specs.declared.limits.TheConstants.{MAX_COST, MAX_SHIFT, MAX_TRIPLES}
use Rattle.fleet_model.specs.declared.refusals.TheConstants.{NOT_TEXT, UNKNOWN_FLIGHT}
use Rattle.fleet_model.specs.declared.tables.Tables.{Tables}
use Rattle.table_rows.specs.fleet_tables.Costs.{flight_of}
use Rattle.sums.proofs.Tests.{by_test}
use Rattle.table_rows.specs.Fields.{three_of}
use Rattle.table_rows.specs.Names.{is_among, number_of_name}
use Rattle.table_rows.specs.Rows.{Fields, FrontReads, record_at}
use Rattle.table_rows.proofs.Kept.{front_differ, front_each}
use Rattle.table_rows.proofs.ReadParts.{form_ok, known_ok, not_refused, number_within, same_answer, whole_within, width_ok}
use Rattle.sched_read.specs.retime_windows.Counted.{AreShiftMinutes}
use Rattle.sched_read.specs.retime_windows.Keys.{fleet_counts, triples_by, window_key, windows_on}
use Rattle.sched_read.specs.retime_windows.Times.{AreWindows, IsWindow, no_window, window_at}
use Rattle.sched_read.specs.retime_windows.Windows.{WindowsRead, but_none, shift_read, unless_refused, window_beside, window_read, window_refusal}
use Rattle.sched_read.specs.declared.retime_windows.window.Window.{Window}
use Rattle.sched_read.proofs.retime_windows.Free.{is_free}
use Rattle.sched_read.proofs.retime_windows.NoneYet.{first_triples}
use Rattle.sched_read.proofs.retime_windows.TimesFit.{first_on, on_more}

unless_ok : {B : Type 0} (refusal : Option ℕ) (read : Result B ℕ) (answer : B) → unless_refused refusal read ≡ Ok answer → (refusal ≡ None) × (read ≡ Ok answer)
unless_ok (Some kind) read answer ok = absurd (cc ok)
unless_ok None read answer ok = (refl, ok)

-- minutes that are read move a departure, and not too far
shift_within : (field : List ℕ) (minutes : ℤ) → shift_read field ≡ Ok minutes → AreShiftMinutes minutes × (minutes ≢ pos 0)
shift_within field minutes ok = by_number (whole_of field (neg_ℤ MAX_SHIFT) MAX_SHIFT) refl ok
  where
    moves : (n : ℤ) → (unsigned_abs n == 0) ≡ false → n ≢ pos 0
    moves n some none = grind (arith, nat_tests, ints)

    by_zero : (zero : Bool) (n : ℤ) (fault : FieldFault) → ◌≡◌ {A = Result ℤ FieldFault} (if zero then Err fault else Ok n) (Ok minutes) → (zero ≡ false) × (n ≡ minutes)
    by_zero true n fault read = absurd (cc read)
    by_zero false n fault read = (refl, same_number n minutes read)
      where
        same_number : (a b : ℤ) → ◌≡◌ {A = Result ℤ FieldFault} (Ok a) (Ok b) → a ≡ b
        same_number a b same = cc

    by_number : (number : Result ℤ FieldFault) → whole_of field (neg_ℤ MAX_SHIFT) MAX_SHIFT ≡ number → but_none number ≡ Ok minutes → AreShiftMinutes minutes × (minutes ≢ pos 0)
    by_number (Ok n) is read =
        let in_range = whole_within field (neg_ℤ MAX_SHIFT) MAX_SHIFT n is in
        let parts = by_zero (unsigned_abs n == 0) n _ read in
        (subst AreShiftMinutes parts.1 (record { no_less = in_range.0; no_more = in_range.1 }), subst (λ m. m ≢ pos 0) parts.1 (moves n parts.0))
    by_number (Err fault) is read = absurd (cc read)

-- what a record that reads as a window below others shows
record IsNewWindow (legs : ℕ) (fleets : List ℕ) (earlier : List (List ℕ)) (window : Window) : Type 0 where
  fits : IsWindow legs window
  fresh : is_among (window_key window) earlier ≡ false
  room : windows_on earlier window.leg < 8
  few : triples_by fleets (earlier ++ window_key window ∷ []) ≤ MAX_TRIPLES

new_window : (flights : List (List ℕ)) (fleets : List ℕ) (earlier : List (List ℕ)) (fields : Fields) (window : Window) → window_read flights fleets earlier fields ≡ Ok window
    → IsNewWindow (length flights) fleets earlier window
unfolding window_read
new_window flights fleets earlier fields window reads =
    let wide = width_ok (three_of fields) _ window reads in
    let text = not_refused (not (is_utf8 wide.0.0 && is_utf8 wide.0.1 && is_utf8 wide.0.2)) NOT_TEXT _ window wide.2 in
    let flight = form_ok (name_of wide.0.0) _ window text.1 in
    let minutes = form_ok (shift_read wide.0.1) _ window flight.2 in
    let units = form_ok (whole_of wide.0.2 (neg_ℤ MAX_COST) MAX_COST) _ window minutes.2 in
    let leg = known_ok (number_of_name wide.0.0 flights) UNKNOWN_FLIGHT _ window units.2 in
    let free = unless_ok (window_refusal fleets earlier leg.0 minutes.0) _ window leg.2 in
    let made : Window = record { leg = leg.0; minutes = minutes.0; extra = units.0 } in
    let same = same_answer made window free.1 in
    let is = is_free fleets earlier leg.0 minutes.0 free.0 in
    let moved = shift_within wide.0.1 minutes.0 minutes.1 in
    let in_range = whole_within wide.0.2 (neg_ℤ MAX_COST) MAX_COST units.0 units.1 in
    subst (IsNewWindow (length flights) fleets earlier) same (record {
      fits = record {
        leg = number_within wide.0.0 flights leg.0 leg.1;
        minutes = moved.0;
        moves = moved.1;
        extra = record { no_less = omega (arith, ints, in_range.0); no_more = omega (arith, ints, in_range.1) };
      };
      fresh = is.fresh;
      room = is.room;
      few = is.few;
    })

module _ (flights : List (List ℕ)) (fleets : List ℕ) (rows : List Fields) (windows : List Window) (reads : FrontReads window_key (window_read flights fleets) rows windows) where
  new_at : (n : ℕ) → n < length windows → IsNewWindow (length flights) fleets (map window_key (take n windows)) (window_at windows n)
  new_at n below = new_window flights fleets (map window_key (take n windows)) (record_at rows n) (window_at windows n) (reads.each n no_window below)

  few_so_far : (n : ℕ) → n ≤ length windows → (l : ℕ) → first_on windows n l ≤ 8
  few_so_far zero within l = omega arith
  few_so_far (suc n) within l =
      let next = on_more windows l n within in
      let on : n + 1 ≡ suc n = omega arith in
      let now : first_on windows (suc n) l ≡ first_on windows n l + (if (window_at windows n).leg == l then 1 else 0) = subst (λ k. first_on windows k l ≡ first_on windows n l + (if (window_at windows n).leg == l then 1 else 0)) on next in
      by_test ((window_at windows n).leg == l) (λ here.
      let is : (window_at windows n).leg ≡ l = grind (arith, nat_tests) in
      let room : first_on windows n l < 8 = subst (λ k. first_on windows n k < 8) is (new_at n within).room in
      omega (arith, room, now ∙ ap (λ b. first_on windows n l + (if b then 1 else 0)) here)) (λ other.
      omega (arith, few_so_far n (omega arith) l, now ∙ ap (λ b. first_on windows n l + (if b then 1 else 0)) other))

  all_few : (l : ℕ) → windows_on (map window_key windows) l ≤ 8
  all_few l = subst (λ (taken : List Window). windows_on (map window_key taken) l ≤ 8) (take_all (length windows) windows (omega arith)) (few_so_far (length windows) (omega arith) l)

  triples_few : (n : ℕ) → n ≤ length windows → triples_by fleets [] ≤ MAX_TRIPLES → triples_by fleets (map window_key (take n windows)) ≤ MAX_TRIPLES
  triples_few zero within first = first
  triples_few (suc n) within first =
      let on : n + 1 ≡ suc n = omega arith in
      subst (λ k. triples_by fleets (map window_key (take k windows)) ≤ MAX_TRIPLES) on
      (subst (λ keys. triples_by fleets keys ≤ MAX_TRIPLES) (sym (map_more window_key windows n no_window within)) (new_at n within).few)

  all_triples : triples_by fleets [] ≤ MAX_TRIPLES → triples_by fleets (map window_key windows) ≤ MAX_TRIPLES
  all_triples first = subst (λ (taken : List Window). triples_by fleets (map window_key taken) ≤ MAX_TRIPLES) (take_all (length windows) windows (omega arith)) (triples_few (length windows) (omega arith) first)

pub windows_keep : (t : Tables) (records : List Fields) (windows : List Window) → WindowsRead t records windows → AreWindows t windows
windows_keep t records windows reads =
    let flights = map flight_of t.legs in
    let fleets = fleet_counts t in
    let new = new_window flights fleets in
    record {
      each = λ k d below. subst (λ n. IsWindow n (slice_index_or windows k d)) (length-map t.legs flight_of)
          (front_each window_key (window_beside t) (IsWindow (length flights)) (λ e f w r. (new e f w r).fits) reads.rest windows reads.rows.reads k d below);
      differ = front_differ window_key (window_beside t) (λ e f w r. (new e f w r).fresh) reads.rest windows reads.rows.reads;
      few = all_few flights fleets reads.rest windows reads.rows.reads;
      few_triples = all_triples flights fleets reads.rest windows reads.rows.reads (first_triples t);
    }
