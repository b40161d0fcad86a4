-- A text of lines of words, cut at its line feeds and spaces, gives the words back.
use Rattle.bound_cert.proofs.LinesOfWords.{lines_named}
use Rattle.bound_cert.specs.ProofText.{all_lines, proof_lines, proof_text, text_in, text_of_lines, written_version}
use Rattle.dual_bound.specs.OfTables.{IsOfTables}
use Rattle.dual_bound.specs.declared.trees.Tree.{Tree}
use Rattle.fleet_model.specs.declared.tables.Tables.{Tables}
use Rattle.proof_lines.proofs.LineWords.{of_words}
use Rattle.proof_lines.proofs.Spaces.{joined_plain, parts_back}
use Rattle.proof_lines.specs.LineText.{IsNamed, line_bytes, line_words}
use Rattle.proof_lines.specs.Words.{IsPlainByte, Word, line_feed, parts_of}
use Rattle.proof_lines.specs.declared.line.Line.{Line}
use Rattle.std.proofs.Common.{[], ◌++◌, ◌∙◌, ◌∷◌, ◌≡◌, Bool, List, ap, append_assoc, arith, eqb, false, map, refl, sym, ℕ}
use Rattle.std.proofs.lemmas.Bool.Decides.{nat_tests}
use Rattle.std.proofs.lemmas.List.Elements.{All-head, All-tail, All-weaker}
use Rattle.std.proofs.lemmas.List.Splits.{slice_split_at}
use Rattle.std.proofs.lemmas.List.{append_cancel_right}
use Rattle.std.specs.List.{slice_split}
use Rattle.std.specs.Prelude.{All}

abbrev is_line_feed : ℕ → Bool
is_line_feed byte = eqb byte line_feed

pub no_line_feed : (bytes : List ℕ) → All IsPlainByte bytes → All (λ byte. is_line_feed byte ≡ false) bytes
no_line_feed bytes is = All-weaker IsPlainByte (λ byte. is_line_feed byte ≡ false) (λ byte plain. grind (arith, nat_tests, plain.no_less)) bytes is

-- a text, cut at its line feeds and each line at its spaces
abbrev cut : List ℕ → List (List Word)
cut text = map parts_of (slice_split is_line_feed text)

-- lines come back from their text, and behind them an empty one
lines_back : (t : Tables) (lines : List Line) → All (IsNamed t) lines → cut (text_of_lines t lines) ≡ map (line_words t) lines ++ ([] ∷ []) ∷ []
lines_back t [] are = refl
lines_back t (line ∷ lines) are =
    let is = of_words t line (All-head (IsNamed t) line lines are) in
    let bytes = line_bytes t line in
    rw (append_assoc bytes (line_feed ∷ []) (text_of_lines t lines), slice_split_at is_line_feed bytes line_feed (text_of_lines t lines) (no_line_feed bytes (joined_plain (line_words t line) is.words)) refl, parts_back (line_words t line) is)
    (ap (λ rest. line_words t line ∷ rest) (lines_back t lines (All-tail (IsNamed t) line lines are)))

-- one text has one list of lines
pub text_tells_lines : (t u : Tables) (a b : Bool) (x y : Tree) → IsOfTables t x → IsOfTables u y → proof_text t a x ≡ proof_text u b y
    → proof_lines t a x ≡ proof_lines u b y
unfolding text_in
text_tells_lines t u a b x y of_t of_u same =
    let left = lines_back t (all_lines t a x) (lines_named (written_version t.windows) t a x of_t) in
    let right = lines_back u (all_lines u b y) (lines_named (written_version u.windows) u b y of_u) in
    append_cancel_right (proof_lines t a x) (proof_lines u b y) (([] ∷ []) ∷ []) (sym left ∙ ap cut same ∙ right)
