-- The words among the parts of a line, one part more.
use Rattle.std.proofs.Common.{◌≡◌, ℕ, ◌+◌, ◌<◌, true, false, cond, Bor, List, [], ◌∷◌, ◌++◌, length, get_or, take, ap, sym, ◌∙◌}
use Rattle.std.specs.Prelude.{filter}
use Rattle.std.proofs.lemmas.List.{append-nil, map-append, take_more}
use Rattle.std.proofs.lemmas.List.Elements.{filter-append}
use Rattle.proof_lines.specs.Words.{is_word, seen}

module _ (parts : List (Bor (List ℕ))) (k : ℕ) (d : Bor (List ℕ)) (within : k < length parts) (words : List (Bor (List ℕ))) (so_far : seen words ≡ filter is_word (seen (take k parts))) where
  one_more : filter is_word (seen (take (k + 1) parts)) ≡ seen words ++ filter is_word ((get_or parts k d).now ∷ [])
  one_more =
      ap (λ list. filter is_word (seen list)) (take_more parts k d within)
      ∙ ap (filter is_word) (map-append (λ (slice : Bor (List ℕ)). slice.now) (take k parts) (get_or parts k d ∷ []))
      ∙ filter-append is_word (seen (take k parts)) ((get_or parts k d).now ∷ [])
      ∙ ap (λ list. list ++ filter is_word ((get_or parts k d).now ∷ [])) (sym so_far)

  pub part_more : (grown : List (Bor (List ℕ))) → seen grown ≡ seen words ++ filter is_word ((get_or parts k d).now ∷ []) → seen grown ≡ filter is_word (seen (take (k + 1) parts))
  part_more grown added = added ∙ sym one_more

-- a part that is a word or isn't, appended
pub word_pushed : (words grown : List (Bor (List ℕ))) (part : Bor (List ℕ)) → is_word part.now ≡ true → grown ≡ words ++ part ∷ [] → seen grown ≡ seen words ++ filter is_word (part.now ∷ [])
word_pushed words grown part is added =
    ap seen added ∙ map-append (λ (slice : Bor (List ℕ)). slice.now) words (part ∷ [])
    ∙ ap (λ b. seen words ++ cond b (part.now ∷ []) []) (sym is)

pub none_pushed : (words : List (Bor (List ℕ))) (part : Bor (List ℕ)) → is_word part.now ≡ false → seen words ≡ seen words ++ filter is_word (part.now ∷ [])
none_pushed words part is = sym (append-nil (seen words)) ∙ ap (λ b. seen words ++ cond b (part.now ∷ []) []) (sym is)
