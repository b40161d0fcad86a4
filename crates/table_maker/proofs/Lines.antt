-- Lines appended, a field and a record at a time.
use Rattle.std.proofs.Common.{◌≡◌, ℕ, ◌+◌, ◌≤◌, List, [], ◌∷◌, ◌++◌, length, map, take, Bor, refl, sym, ap, ◌∙◌, append_assoc, arith}
use Rattle.std.specs.List.{flat_map, join_with_byte}
use Rattle.std.proofs.lemmas.List.{append-nil, flat_map_more, take_all}
use Rattle.std.proofs.lemmas.List.FromFn.{map-range_with_len_more}
use Rattle.csv.specs.Machine.{line_feed}
use Rattle.csv.specs.Writing.{comma}
use Rattle.plan_text.specs.Text.{record_line, record_lines}
use Rattle.sums.specs.Places.{list_below}
use Rattle.table_maker.specs.Records.{table_text}
use Rattle.table_rows.specs.Rows.{Fields}

-- what fields show
abbrev pub shown : List (Bor (List ℕ)) → Fields
shown fields = map (λ (field : Bor (List ℕ)). field.now) fields

-- a comma and a field
abbrev pub behind_comma : List ℕ → List ℕ
behind_comma field = comma ∷ field

-- fields, each behind a comma
abbrev pub behind_commas : Fields → List ℕ
behind_commas = flat_map behind_comma

pub joined : (first : List ℕ) (others : Fields) → join_with_byte comma (first ∷ others) ≡ first ++ behind_commas others
joined first [] = sym (append-nil first)
joined first (other ∷ others) = ap (λ rest. first ++ comma ∷ rest) (joined other others)

-- a line feed behind all fields makes a line
pub line_done : (old begun text grown first : List ℕ) (fields : List (Bor (List ℕ))) (i : ℕ) → length fields ≤ i → begun ≡ old ++ first
    → text ≡ begun ++ behind_commas (shown (take i fields)) → grown ≡ text ++ line_feed ∷ [] → grown ≡ old ++ record_line (first ∷ shown fields)
line_done old begun text grown first fields i all began so_far added =
    let others = shown fields in
    let is_all = take_all i fields all in
    let whole : text ≡ (old ++ first) ++ behind_commas others = so_far ∙ rw (is_all, began) refl in
    added ∙ rw (whole, joined first others)
    (ap (λ t. t ++ line_feed ∷ []) (append_assoc old first (behind_commas others)) ∙ append_assoc old (first ++ behind_commas others) (line_feed ∷ []))

-- a header's line begins a text
pub text_begun : (header : Fields) (fields_at : ℕ → Fields) (text : List ℕ) → text ≡ record_line header → text ≡ table_text header fields_at 0
unfolding table_text
text_begun header fields_at text begun = begun ∙ sym (append-nil (record_line header))

-- the line of one record more
pub text_grown : (header : Fields) (fields_at : ℕ → Fields) (n : ℕ) (text grown : List ℕ) → text ≡ table_text header fields_at n
    → grown ≡ text ++ record_line (fields_at n) → grown ≡ table_text header fields_at (n + 1)
unfolding table_text
text_grown header fields_at n text grown so_far added =
    added ∙ rw so_far
    (flat_map_more record_line (record_line header) (list_below fields_at n) (fields_at n)
    ∙ ap (λ rows. record_lines (header ∷ rows)) (sym (map-range_with_len_more fields_at 0 n n (omega arith))))
