-- Lists that a loop makes entry by entry.
use Rattle.std.proofs.Common.{◌≡◌, ℕ, ◌+◌, ◌==◌, Bool, false, List, [], ◌∷◌, ◌++◌, ◌∙◌, ap, inl, inr, append_assoc, arith}
use Rattle.std.proofs.Math.Numerals.{suc-eq-add-one}
use Rattle.std.proofs.lemmas.Bool.{cases_lt}
use Rattle.std.proofs.lemmas.List.{get_or_append_left, get_or_push, length_push}
use Rattle.lines_of_flying.specs.Grounds.{AreMarks}
use Rattle.lines_of_flying.specs.Lines.{line_after, lines_ended}

-- one mark more
pub mark_more : (count : ℕ → ℕ) (n : ℕ) (marks more : List Bool) (mark : Bool) → more ≡ marks ++ mark ∷ [] → AreMarks count n marks → mark ≡ (count n == 0) → AreMarks count (n + 1) more
mark_more count n marks more mark e are here = rw e (record {
  each_leg = omega (arith, length_push marks mark, are.each_leg);
  each = λ k below. elim (cases_lt k n) [
    | inl before ↦ rw (get_or_append_left marks (mark ∷ []) false k (omega (arith, are.each_leg))) (are.each k before)
    | inr last ↦ let same : k ≡ n = omega arith in rw (same, get_or_push marks mark false n are.each_leg) here
  ];
})

-- one line more that a night ends
pub ended_more : (line : List ℕ) (n : ℕ) (old now more : List (List ℕ)) (ended : List ℕ) → now ≡ old ++ lines_ended line n → ended ≡ line_after line n → more ≡ now ++ ended ∷ [] → more ≡ old ++ lines_ended line (n + 1)
ended_more line n old now more ended is here pushed =
    pushed ∙ ap (λ lines. lines ++ ended ∷ []) is ∙ append_assoc old (lines_ended line n) (ended ∷ [])
    ∙ ap (λ last. old ++ (lines_ended line n ++ last ∷ [])) here ∙ ap (λ m. old ++ lines_ended line m) (suc-eq-add-one n)

-- the line after a night
pub line_begun : (line : List ℕ) (n : ℕ) (now : List ℕ) → now ≡ [] → now ≡ line_after line (n + 1)
line_begun line n now none = none ∙ ap (line_after line) (suc-eq-add-one n)
