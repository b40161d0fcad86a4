-- Records written one after the other.
use Rattle.std.proofs.Common.{◌≡◌, ℕ, ◌+◌, List, [], ◌∷◌, ◌++◌, sym, ap, ◌∙◌, append_assoc, arith, rules}
use Rattle.std.proofs.lemmas.Grind.{flat_map-append}
use Rattle.std.proofs.lemmas.List.{append-nil}
use Rattle.std.proofs.lemmas.List.FromFn.{map-range_with_len_more}
use Rattle.csv.specs.Writing.{default_writer, row_text}
use Rattle.fleet_model.specs.declared.tables.Tables.{Tables}
use Rattle.table_rows.specs.Rows.{Fields}
use Rattle.plan_text.specs.CsvText.{HasWritten, IsBetweenRecords, TextWriter, csv_text, written_text}
use Rattle.plan_text.specs.Text.{leg_record, leg_records, plan_header}

pub csv_text-append : (xs ys : List Fields) → csv_text (xs ++ ys) ≡ csv_text xs ++ csv_text ys
unfolding csv_text
csv_text-append xs ys = flat_map-append (row_text default_writer) xs ys

pub csv_text-one : (x : Fields) → csv_text (x ∷ []) ≡ row_text default_writer x
unfolding csv_text
csv_text-one x = append-nil (row_text default_writer x)

csv_text-none : csv_text [] ≡ []
unfolding csv_text
csv_text-none = search rules

-- nothing is written yet
pub written_none : (w : TextWriter) → IsBetweenRecords w → HasWritten w w []
written_none w is = record { between = is; text = sym (append-nil (written_text w)) ∙ ap (λ t. written_text w ++ t) (sym csv_text-none) }

-- records, and then more
pub written_more : (a b c : TextWriter) (xs ys : List Fields) → HasWritten a b xs → HasWritten b c ys → HasWritten a c (xs ++ ys)
written_more a b c xs ys front rest = record {
  between = rest.between;
  text =
      rest.text ∙ ap (λ t. t ++ csv_text ys) front.text ∙ append_assoc (written_text a) (csv_text xs) (csv_text ys)
      ∙ ap (λ t. written_text a ++ t) (sym (csv_text-append xs ys));
}

-- all text so far, and more records
pub text_more : (b c : TextWriter) (xs ys : List Fields) → written_text b ≡ csv_text xs → HasWritten b c ys → written_text c ≡ csv_text (xs ++ ys)
text_more b c xs ys front rest = rest.text ∙ ap (λ text. text ++ csv_text ys) front ∙ sym (csv_text-append xs ys)

-- the record of a leg more
pub leg_more : (t : Tables) (a : List ℕ) (leg : ℕ) (b c : TextWriter) → written_text b ≡ csv_text (plan_header t ∷ leg_records t a leg)
    → HasWritten b c (leg_record t a leg ∷ []) → written_text c ≡ csv_text (plan_header t ∷ leg_records t a (leg + 1))
leg_more t a leg b c front rest =
    text_more b c (plan_header t ∷ leg_records t a leg) (leg_record t a leg ∷ []) front rest
    ∙ ap (λ rows. csv_text (plan_header t ∷ rows)) (sym (map-range_with_len_more (leg_record t a) 0 leg leg (omega arith)))
