-- A row with the other signs, by its numbers other than 0.
use Rattle.std.proofs.Common.{◌≡◌, ℕ, ◌+◌, ◌<◌, ◌≢◌, ℤ, pos, List, [], ◌∷◌, map, length, get_or, neg_ℤ, Bool, true, false, cond, eqb, refl, sym, ◌∙◌, ap, subst, arith}
use Rattle.std.proofs.lemmas.Int.{ints}
use Rattle.std.proofs.lemmas.List.{ext_get_or, get_or-map, length-map}
use Rattle.sums.specs.Places.{list_below}
use Rattle.sums.proofs.Places.{length-list_below, get_or-list_below}
use Rattle.frac_row.specs.declared.row.FracRow.{FracRow}
use Rattle.frac_row.proofs.Rows.{same_row}
use Rattle.frac_row.specs.declared.entry.Entry.{Entry}
use Rattle.frac_row.specs.Content.{number_in, turned_entry, AreEntries, IsHeld, content_of}
use Rattle.frac_row.proofs.Contents.{no_entry}

number_in-turned : (entries : List Entry) (column : ℕ) → number_in (map turned_entry entries) column ≡ neg_ℤ (number_in entries column)
number_in-turned [] column = refl
number_in-turned (x ∷ xs) column =
    ap (cond (eqb x.column column) (neg_ℤ x.number)) (number_in-turned xs column) ∙ outside (eqb x.column column) x.number (number_in xs column)
  where
    outside : (b : Bool) (m n : ℤ) → cond b (neg_ℤ m) (neg_ℤ n) ≡ neg_ℤ (cond b m n)
    outside true m n = refl
    outside false m n = refl

opposite_some : (z : ℤ) → z ≢ pos 0 → neg_ℤ z ≢ pos 0
opposite_some z ne e = ne (omega (arith, ints))

turned_rise : (from width : ℕ) (entries : List Entry) → AreEntries from width entries → AreEntries from width (map turned_entry entries)
turned_rise from width [] h = tt
turned_rise from width (x ∷ xs) h = (h.0, h.1, opposite_some x.number h.2, turned_rise (x.column + 1) width xs h.3)

pub turned_is_held : (entries turned : List Entry) (width : ℕ) → IsHeld entries width → turned ≡ map turned_entry entries → IsHeld turned width
turned_is_held entries turned width h same =
    subst (λ xs. IsHeld xs width) (sym same) (record { few = h.few; rising = turned_rise 0 width entries h.rising })

pub content-turned : (entries turned : List Entry) (width : ℕ) (den : ℤ) (row : FracRow) → content_of entries width den ≡ row → turned ≡ map turned_entry entries → content_of turned width den ≡ record { numbers = map neg_ℤ row.numbers; den = row.den }
unfolding content_of
content-turned entries turned width den row view same =
    ap (λ xs. content_of xs width den) same
    ∙ same_row (list_below (number_in (map turned_entry entries)) width) (map neg_ℤ (list_below (number_in entries) width)) den den
    (ext_get_or (pos 0) _ _ (length-list_below _ width ∙ sym (length-map (list_below (number_in entries) width) neg_ℤ ∙ length-list_below _ width)) (λ k lt. at_column k (rw length-list_below at lt))) refl
    ∙ ap (λ r. record { numbers = map neg_ℤ r.numbers; den = r.den }) view
  where
    at_column : (k : ℕ) → k < width → get_or (list_below (number_in (map turned_entry entries)) width) k (pos 0) ≡ get_or (map neg_ℤ (list_below (number_in entries) width)) k (pos 0)
    at_column k lt =
        get_or-list_below _ width k (pos 0) lt ∙ number_in-turned entries k
        ∙ ap neg_ℤ (sym (get_or-list_below (number_in entries) width k (pos 0) lt))
        ∙ sym (get_or-map neg_ℤ (list_below (number_in entries) width) k (pos 0) (pos 0) (rw length-list_below lt))

pub all_turned : (entries turned : List Entry) → turned ≡ list_below (λ k. turned_entry (get_or entries k no_entry)) (length entries) → turned ≡ map turned_entry entries
all_turned entries turned e =
    e ∙ ext_get_or no_entry _ _ (length-list_below _ (length entries) ∙ sym (length-map entries turned_entry))
    (λ k lt. at_place k (rw length-list_below at lt))
  where
    at_place : (k : ℕ) → k < length entries → get_or (list_below (λ k. turned_entry (get_or entries k no_entry)) (length entries)) k no_entry ≡ get_or (map turned_entry entries) k no_entry
    at_place k lt = get_or-list_below _ (length entries) k no_entry lt ∙ sym (get_or-map turned_entry entries k no_entry no_entry lt)
