-- The lines of a plan's records read back as those records.
use Rattle.std.proofs.Common.{◌≡◌, ℕ, zero, suc, ◌+◌, ◌<◌, ◌≤◌, List, [], ◌∷◌, ◌++◌, length, map, codes, Some, Bool, true, false, refl, ap, ◌∙◌, arith}
use Rattle.std.specs.List.{flat_map, join_with_byte, list_any, range_with_len}
use Rattle.std.proofs.lemmas.List.{append-nil, length-append}
use Rattle.csv.specs.Machine.{line_feed, next_record}
use Rattle.csv.specs.Reading.{default_config, records_from, strip_bom}
use Rattle.csv.specs.Writing.{comma, default_writer, fields_text, is_blank, needs_byte, row_text}
use Rattle.csv.specs.declared.parser.State.TheVariants as st
use Rattle.csv.proofs.RoundTrip.{read-write-many}
use Rattle.csv_fields.specs.Record.{records_of}
use Rattle.fleet_model.specs.Counts.{choice_at, pair_at}
use Rattle.fleet_model.specs.Legal.{IsAssignment}
use Rattle.fleet_model.specs.Schedule.{leg_of, legs_in, no_leg}
use Rattle.fleet_model.specs.declared.tables.Tables.{Tables}
use Rattle.table_rows.specs.Rows.{Fields}
use Rattle.plan_text.specs.CsvText.{csv_text}
use Rattle.plan_text.specs.Reading.{PlanReads}
use Rattle.plan_text.specs.Text.{fleet_text, leg_record, leg_records, plan_header, plan_records, plan_text, record_line, record_lines, record_of, shift_text}
use Rattle.plan_text.proofs.FieldTexts.{fleet_is_plain, shift_is_plain}
use Rattle.plan_text.proofs.NameText.{name_is_plain}

-- nothing in a text calls for quotes
abbrev IsPlainText : List ℕ → Type 0
IsPlainText text = list_any (needs_byte default_writer) text ≡ false

-- the line of fields in which nothing calls for quotes is the text that `csv` writes
line_is_text : (windows : Bool) (x y z : List ℕ) → IsPlainText x → IsPlainText y → IsPlainText z
    → record_line (record_of windows x y z) ≡ row_text default_writer (record_of windows x y z)
unfolding fields_text is_blank
line_is_text true x y z plain_x plain_y plain_z = rw (plain_x, plain_y, plain_z, append-nil z) refl
line_is_text false x y z plain_x plain_y plain_z = rw (plain_x, plain_y, append-nil y) refl

-- such a line reads back
line_back : (windows : Bool) (x y z tail : List ℕ) → IsPlainText x → IsPlainText y → IsPlainText z
    → next_record default_config st.StartRecord [] [] (record_line (record_of windows x y z) ++ tail) ≡ Some (record_of windows x y z, st.StartRecord, tail)
line_back true x y z tail plain_x plain_y plain_z = rw (line_is_text true x y z plain_x plain_y plain_z) (read-write-many x y (z ∷ []) tail)
line_back false x y z tail plain_x plain_y plain_z = rw (line_is_text false x y z plain_x plain_y plain_z) (read-write-many x y [] tail)

flight_is_plain : (t : Tables) (l : ℕ) → l < legs_in t → IsPlainText (leg_of t l).flight
flight_is_plain t l leg = name_is_plain (leg_of t l).flight (t.in_range.legs_fit.each l no_leg leg).flight

leg_is_text : (t : Tables) (a : List ℕ) (l : ℕ) → l < legs_in t → record_line (leg_record t a l) ≡ row_text default_writer (leg_record t a l)
leg_is_text t a l leg =
    line_is_text t.windows (leg_of t l).flight (fleet_text t (pair_at a l)) (shift_text t (pair_at a l)) (flight_is_plain t l leg) (fleet_is_plain t (pair_at a l)) (shift_is_plain t l (choice_at a l) leg)

leg_back : (t : Tables) (a : List ℕ) (l : ℕ) (tail : List ℕ) → l < legs_in t
    → next_record default_config st.StartRecord [] [] (record_line (leg_record t a l) ++ tail) ≡ Some (leg_record t a l, st.StartRecord, tail)
leg_back t a l tail leg =
    line_back t.windows (leg_of t l).flight (fleet_text t (pair_at a l)) (shift_text t (pair_at a l)) tail (flight_is_plain t l leg) (fleet_is_plain t (pair_at a l)) (shift_is_plain t l (choice_at a l) leg)

header_is_text : (t : Tables) → record_line (plan_header t) ≡ row_text default_writer (plan_header t)
header_is_text t = line_is_text t.windows (codes "flight") (codes "fleet") (codes "shift") refl refl refl

header_back : (t : Tables) (tail : List ℕ) → next_record default_config st.StartRecord [] [] (record_line (plan_header t) ++ tail) ≡ Some (plan_header t, st.StartRecord, tail)
header_back t tail = line_back t.windows (codes "flight") (codes "fleet") (codes "shift") tail refl refl refl

-- a line has a byte
line_length : (fields : Fields) → 1 ≤ length (record_line fields)
line_length fields = omega (arith, length-append (join_with_byte comma fields) (line_feed ∷ []))

-- the records of legs, from some leg on
abbrev records_past : Tables → List ℕ → ℕ → ℕ → List Fields
records_past t a first n = map (leg_record t a) (range_with_len first n)

lines_back : (t : Tables) (a : List ℕ) → IsAssignment t a → (n first turns : ℕ) → first + n ≤ legs_in t → n ≤ turns
    → records_from default_config turns st.StartRecord (record_lines (records_past t a first n)) ≡ records_past t a first n
unfolding records_from next_record
lines_back t a is zero first zero within enough = refl
lines_back t a is zero first (suc turns) within enough = refl
lines_back t a is (suc n) first zero within enough = absurd (omega arith)
lines_back t a is (suc n) first (suc turns) within enough =
    rw (leg_back t a first (record_lines (records_past t a (first + 1) n)) (omega arith))
    (ap (λ rows. leg_record t a first ∷ rows) (lines_back t a is n (first + 1) turns (omega arith) (omega arith)))

lines_length : (t : Tables) (a : List ℕ) (n first : ℕ) → n ≤ length (record_lines (records_past t a first n))
lines_length t a zero first = omega arith
lines_length t a (suc n) first =
    let more = lines_length t a n (first + 1) in
    omega (arith, length-append (record_line (leg_record t a first)) (record_lines (records_past t a (first + 1) n)), line_length (leg_record t a first), more)

text_back : (t : Tables) (a : List ℕ) (turns : ℕ) → IsAssignment t a → legs_in t < turns
    → records_from default_config turns st.StartRecord (record_lines (plan_records t a)) ≡ plan_records t a
unfolding records_from
text_back t a zero is enough = absurd (omega arith)
text_back t a (suc turns) is enough =
    rw (header_back t (record_lines (leg_records t a (legs_in t))))
    (ap (λ rows. plan_header t ∷ rows) (lines_back t a is (legs_in t) 0 turns (omega arith) (omega arith)))

-- no mark of a byte order begins the header
unmarked : (windows : Bool) (tail : List ℕ) → strip_bom (record_line (record_of windows (codes "flight") (codes "fleet") (codes "shift")) ++ tail)
    ≡ record_line (record_of windows (codes "flight") (codes "fleet") (codes "shift")) ++ tail
unfolding strip_bom
unmarked true tail = refl
unmarked false tail = refl

pub reads_what_was_written : (t : Tables) (a : List ℕ) → IsAssignment t a → PlanReads t (records_of (plan_text t a)) a
unfolding records_of plan_text
reads_what_was_written t a is = record {
  assignment = is;
  same =
      let long = lines_length t a (legs_in t) 0 in
      let turns = length (record_lines (plan_records t a)) + 1 in
      rw (unmarked t.windows (record_lines (leg_records t a (legs_in t))))
      (text_back t a turns is (omega (arith, length-append (record_line (plan_header t)) (record_lines (leg_records t a (legs_in t))), long)));
}

legs_as_csv : (t : Tables) (a : List ℕ) → IsAssignment t a → (n first : ℕ) → first + n ≤ legs_in t
    → record_lines (records_past t a first n) ≡ flat_map (row_text default_writer) (records_past t a first n)
legs_as_csv t a is zero first within = refl
legs_as_csv t a is (suc n) first within =
    rw (leg_is_text t a first (omega arith)) (ap (λ rest. row_text default_writer (leg_record t a first) ++ rest) (legs_as_csv t a is n (first + 1) (omega arith)))

pub is_written_as_csv : (t : Tables) (a : List ℕ) → IsAssignment t a → plan_text t a ≡ flat_map (row_text default_writer) (plan_records t a)
unfolding plan_text
is_written_as_csv t a is =
    ap (λ line. line ++ record_lines (leg_records t a (legs_in t))) (header_is_text t)
    ∙ ap (λ rest. row_text default_writer (plan_header t) ++ rest) (legs_as_csv t a is (legs_in t) 0 (omega arith))

-- the same, in the words of what a writer has written
pub written_as_csv : (t : Tables) (a : List ℕ) → IsAssignment t a → plan_text t a ≡ csv_text (plan_records t a)
unfolding csv_text
written_as_csv t a is = is_written_as_csv t a is
