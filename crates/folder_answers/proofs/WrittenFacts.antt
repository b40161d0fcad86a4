-- One text more is written, and where writing stops.
use Rattle.std.proofs.Common.{◌≡◌, ◌∙◌, ap, ℕ, ◌+◌, ◌<◌, ◌≤◌, List, [], ◌∷◌, ◌++◌, length, take, get_or, Option, Some, None, Err, refl, inl, inr, arith}
use Rattle.std.specs.Prelude.{⊤}
use Rattle.std.proofs.Math.Seq.{take-length}
use Rattle.std.proofs.lemmas.Bool.{cases_lt}
use Rattle.std.proofs.lemmas.List.{get_or_default, take_more}
use Rattle.plan_desk.specs.Desk.{ChangesOnly, Files, held_with, with_file}
use Rattle.plan_desk.specs.DeskFile.{path_of}
use Rattle.plan_desk.specs.declared.file.DeskFile.{DeskFile}
use Rattle.plan_desk.specs.declared.file.TheConstants.{PROOF_LIMIT}
use Rattle.folder_answers.specs.Failed.{MatchFailure}
use Rattle.folder_answers.specs.Written.{WriteFails, WritesFirst, held_with_texts, no_text, with_texts}
use Rattle.folder_answers.specs.declared.answer.Failure.{Failure}
use Rattle.folder_answers.specs.declared.answer.Failure.TheVariants as failure
use Rattle.folder_answers.specs.declared.answer.FileText.{FileText}

with_one_more : (held : Files) (dir : List ℕ) (texts : List FileText) (text : FileText)
    → with_texts held dir (texts ++ text ∷ []) ≡ with_file (with_texts held dir texts) (path_of dir text.file) (Some text.bytes)
with_one_more held dir [] text = refl
with_one_more held dir (first ∷ texts) text = with_one_more (with_file held (path_of dir first.file) (Some first.bytes)) dir texts text

held_with_one_more : (told : Option Files) (dir : List ℕ) (texts : List FileText) (text : FileText)
    → held_with_texts told dir (texts ++ text ∷ []) ≡ held_with (held_with_texts told dir texts) (path_of dir text.file) (Some text.bytes)
held_with_one_more None dir texts text = refl
held_with_one_more (Some held) dir texts text = rw (with_one_more held dir texts text) refl

pub held_with_more : (told : Option Files) (dir : List ℕ) (texts : List FileText) (k : ℕ) (d item : FileText) (before after : Option Files) → item ≡ get_or texts k d → k < length texts
    → before ≡ held_with_texts told dir (take k texts) → after ≡ held_with before (path_of dir item.file) (Some item.bytes) → after ≡ held_with_texts told dir (take (k + 1) texts)
held_with_more told dir texts k d item before after is within so_far written =
    rw (take_more texts k d within, held_with_one_more told dir (take k texts) (get_or texts k d)) (rw (← so_far, ← is) written)

-- writing stopped at the text at a place
pub stopped_at : (S T : Type 0) (why : Failure) (dir : List ℕ) (texts : List FileText) (k : ℕ) (d item : FileText) (told before stands : Option Files) (blamed : Option DeskFile) → item ≡ get_or texts k d
    → k < length texts → before ≡ held_with_texts told dir (take k texts) → ChangesOnly (path_of dir item.file) before stands → MatchFailure {T = S} (Err why) (λ _. ⊤) (blamed ≡ Some item.file) ⊤
    → MatchFailure {T = T} (Err why) (λ _. ⊤) (WriteFails dir texts told stands blamed) ⊤
stopped_at S T failure.Fault dir texts k d item told before stands blamed is within so_far changes blame =
    let same : item ≡ get_or texts k no_text = is ∙ get_or_default texts k d no_text within in
    record { stopped = record { written = k; place = within; part = rw (← same, ← so_far) changes }; blame = blame ∙ ap (λ (t : FileText). Some t.file) same }
stopped_at S T failure.NoMemory dir texts k d item told before stands blamed is within so_far changes blame = tt

-- want of memory stopped the writing at the text at a place
pub stopped_first : (S T : Type 0) (why : Failure) (dir : List ℕ) (texts : List FileText) (k : ℕ) (told before stands : Option Files) → k < length texts → before ≡ held_with_texts told dir (take k texts)
    → MatchFailure {T = S} (Err why) (λ _. ⊤) ⊤ (stands ≡ before) → MatchFailure {T = T} (Err why) (λ _. ⊤) ⊤ (WritesFirst dir texts told stands)
stopped_first S T failure.Fault dir texts k told before stands within so_far same = tt
stopped_first S T failure.NoMemory dir texts k told before stands within so_far same = record { written = k; within = omega arith; first = same ∙ so_far }

-- all texts are the first of them, as many as there are
pub all_first : (dir : List ℕ) (texts : List FileText) (told stands : Option Files) → stands ≡ held_with_texts told dir texts → WritesFirst dir texts told stands
all_first dir texts told stands all = record { written = length texts; within = omega arith; first = rw (take-length texts) all }

-- one text more that is no longer than a list of bytes can be
pub one_longer : (texts : List FileText) (n : ℕ) (d item : FileText) → item ≡ get_or texts n d → n < length texts → length item.bytes ≤ PROOF_LIMIT
    → ((k : ℕ) (e : FileText) → k < n → length (get_or texts k e).bytes ≤ PROOF_LIMIT) → (k : ℕ) (e : FileText) → k < n + 1 → length (get_or texts k e).bytes ≤ PROOF_LIMIT
one_longer texts n d item is within short below k e at = elim (cases_lt k n) [
  | inl before ↦ below k e before
  | inr past ↦ let last : n ≡ k = omega arith in rw (← last) (rw (← (is ∙ get_or_default texts n d e within)) short)
]
