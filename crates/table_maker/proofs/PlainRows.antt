-- Rows of fields in which nothing calls for quotes read back from their lines.
use Rattle.std.proofs.Common.{◌≡◌, ℕ, zero, suc, ◌+◌, ◌<◌, ◌≤◌, List, [], ◌∷◌, ◌++◌, length, map, Some, false, refl, ap, arith}
use Rattle.std.specs.Prelude.{⊤}
use Rattle.std.specs.List.{list_any, range_with_len}
use Rattle.std.proofs.lemmas.List.{length-append}
use Rattle.csv.specs.Machine.{next_record}
use Rattle.csv.specs.Reading.{default_config, records_from, strip_bom}
use Rattle.csv.specs.Writing.{default_writer, fields_text, is_blank, needs_byte, row_text}
use Rattle.csv.specs.declared.parser.State.TheVariants as st
use Rattle.csv.proofs.RoundTrip.{read-write-many}
use Rattle.csv_fields.specs.Record.{records_of}
use Rattle.plan_text.specs.Text.{record_line, record_lines}
use Rattle.sums.specs.Places.{list_below}
use Rattle.table_rows.specs.Rows.{Fields}
use Rattle.table_maker.specs.Records.{table_text}
use Rattle.table_maker.proofs.Lines.{behind_commas, joined}

-- nothing in a field calls for quotes
abbrev pub IsPlain : List ℕ → Type 0
IsPlain field = list_any (needs_byte default_writer) field ≡ false

abbrev pub ArePlain : Fields → Type 0
ArePlain [] = ⊤
ArePlain (field ∷ fields) = IsPlain field × ArePlain fields

-- two plain fields or more
abbrev pub IsPlainRow : Fields → Type 0
IsPlainRow [] = ⊥
IsPlainRow (field ∷ []) = ⊥
IsPlainRow (field ∷ next ∷ fields) = ArePlain (field ∷ next ∷ fields)

fields_are_text : (fields : Fields) → ArePlain fields → fields_text default_writer fields ≡ behind_commas fields
unfolding fields_text
fields_are_text [] plain = refl
fields_are_text (field ∷ fields) (plain, rest) = rw (plain, fields_are_text fields rest) refl

-- the line of such a row is the text that `csv` writes
line_is_text : (x y : List ℕ) (rest : Fields) → ArePlain (x ∷ y ∷ rest) → record_line (x ∷ y ∷ rest) ≡ row_text default_writer (x ∷ y ∷ rest)
unfolding is_blank
line_is_text x y rest (plain, others) = rw (joined x (y ∷ rest), plain, fields_are_text (y ∷ rest) others) refl

line_back : (row : Fields) (tail : List ℕ) → IsPlainRow row → next_record default_config st.StartRecord [] [] (record_line row ++ tail) ≡ Some (row, st.StartRecord, tail)
line_back [] tail plain = absurd plain
line_back (x ∷ []) tail plain = absurd plain
line_back (x ∷ y ∷ rest) tail plain = rw (line_is_text x y rest plain) (read-write-many x y rest tail)

-- rows by their numbers
module _ (fields_at : ℕ → Fields) where
  abbrev rows_past : ℕ → ℕ → List Fields
  rows_past first n = map fields_at (range_with_len first n)

  lines_back : (n first turns : ℕ) → ((k : ℕ) → k < first + n → IsPlainRow (fields_at k)) → n ≤ turns
      → records_from default_config turns st.StartRecord (record_lines (rows_past first n)) ≡ rows_past first n
  unfolding records_from next_record
  lines_back zero first zero plain enough = refl
  lines_back zero first (suc turns) plain enough = refl
  lines_back (suc n) first zero plain enough = absurd (omega arith)
  lines_back (suc n) first (suc turns) plain enough =
      rw (line_back (fields_at first) (record_lines (rows_past (first + 1) n)) (plain first (omega arith)))
      (ap (λ rows. fields_at first ∷ rows) (lines_back n (first + 1) turns (λ k below. plain k (omega arith)) (omega arith)))

  -- a line has a byte
  lines_length : (n first : ℕ) → n ≤ length (record_lines (rows_past first n))
  lines_length zero first = omega arith
  lines_length (suc n) first =
      let more = lines_length n (first + 1) in
      omega (arith, length-append (record_line (fields_at first)) (record_lines (rows_past (first + 1) n)), length-append {A = ℕ}, more)

  text_back : (header : Fields) (n turns : ℕ) → IsPlainRow header → ((k : ℕ) → k < n → IsPlainRow (fields_at k)) → n < turns
      → records_from default_config turns st.StartRecord (table_text header fields_at n) ≡ header ∷ list_below fields_at n
  unfolding records_from table_text
  text_back header n zero first plain enough = absurd (omega arith)
  text_back header n (suc turns) first plain enough =
      rw (line_back header (record_lines (list_below fields_at n)) first)
      (ap (λ rows. header ∷ rows) (lines_back n 0 turns (λ k below. plain k (omega arith)) (omega arith)))

  -- the records of a table's text are its header and its rows
  pub table_back : (header : Fields) (n : ℕ) → strip_bom (table_text header fields_at n) ≡ table_text header fields_at n → IsPlainRow header
      → ((k : ℕ) → k < n → IsPlainRow (fields_at k)) → records_of (table_text header fields_at n) ≡ header ∷ list_below fields_at n
  unfolding records_of table_text
  table_back header n no_mark first plain =
      let long = lines_length n 0 in
      rw no_mark (text_back header n (length (table_text header fields_at n) + 1) first plain
      (omega (arith, length-append (record_line header) (record_lines (list_below fields_at n)), long)))
