-- Pieces joined, and lines appended, one more at a time.
use Rattle.std.proofs.Common.{◌≡◌, ℕ, suc, ◌+◌, ◌<◌, List, [], ◌∷◌, ◌++◌, length, map, take, get_or, sym, ap, ◌∙◌, add-one, append_assoc, rules}
use Rattle.std.proofs.lemmas.Grind.{common_steps}
use Rattle.std.specs.List.{concat}
use Rattle.std.proofs.lemmas.List.{map_push, take_more}
use Rattle.printed_lines.specs.Lines.{piece_text}
use Rattle.printed_lines.specs.declared.pieces.Piece.{Piece}

concat_one : (xs : List (List ℕ)) (x : List ℕ) → concat (xs ++ x ∷ []) ≡ concat xs ++ x
concat_one [] x = search (rules, common_steps)
concat_one (y ∷ ys) x = rw (concat_one ys x) (sym (append_assoc y (concat ys) x))

pub piece_more : (pieces : List Piece) (i : ℕ) (d : Piece) (start text grown : List ℕ) → i < length pieces → text ≡ start ++ concat (map piece_text (take i pieces))
    → grown ≡ text ++ piece_text (get_or pieces i d) → grown ≡ start ++ concat (map piece_text (take (i + 1) pieces))
piece_more pieces i d start text grown within so_far added =
    rw (take_more pieces i d within, map_push piece_text (take i pieces) (get_or pieces i d), concat_one (map piece_text (take i pieces)) (piece_text (get_or pieces i d)))
    (added ∙ ap (λ t. t ++ piece_text (get_or pieces i d)) so_far ∙ append_assoc start (concat (map piece_text (take i pieces))) (piece_text (get_or pieces i d)))

-- a text that has the first lines of many has one more
pub lines_more : (lines : ℕ → List ℕ) (n : ℕ) (line start text grown : List ℕ) → lines (suc n) ≡ lines n ++ line → text ≡ start ++ lines n → grown ≡ text ++ line → grown ≡ start ++ lines (n + 1)
lines_more lines n line start text grown step so_far added =
    added ∙ ap (λ t. t ++ line) so_far ∙ append_assoc start (lines n) line ∙ ap (λ xs. start ++ xs) (sym step ∙ ap lines (sym (add-one n)))
