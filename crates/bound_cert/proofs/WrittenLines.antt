-- A line that was written, cut and read again.
use Rattle.bound_cert.proofs.Cut.{no_line_feed}
use Rattle.bound_cert.proofs.ReadOn.{begins}
use Rattle.proof_lines.proofs.Choosing.{chosen}
use Rattle.bound_cert.specs.Lines.{Left, fits, left_of, line_due, may_stand, of_seen}
use Rattle.bound_cert.specs.ProofText.{text_of_lines}
use Rattle.bound_cert.specs.Reading.{first_words}
use Rattle.bound_cert.specs.declared.reading_lines.Due.{Due}
use Rattle.fleet_model.specs.declared.tables.Tables.{Tables}
use Rattle.proof_lines.specs.declared.line.Version.{Version}
use Rattle.proof_lines.proofs.LineWords.{first_told, form_told, of_words}
use Rattle.proof_lines.proofs.Spaces.{joined_plain, words_back}
use Rattle.proof_lines.proofs.WrittenLines.{reads_as_written}
use Rattle.proof_lines.specs.Forms.{all_forms, form_in, form_of, has_form, of_version}
use Rattle.proof_lines.specs.Known.{Naming, named, names_in}
use Rattle.proof_lines.specs.Laws.{IsLineOf, IsOfVersion}
use Rattle.proof_lines.specs.LineText.{IsNamed, line_bytes, line_words}
use Rattle.proof_lines.specs.Words.{line_feed, stands, words_of}
use Rattle.proof_lines.specs.declared.line.Line.{Line}
use Rattle.std.proofs.Common.{[], ◌&&◌, ◌++◌, ◌<◌, ◌==◌, ◌∙◌, ◌∷◌, ◌≡◌, Bool, List, None, Ok, Some, ap, append_assoc, arith, codes, false, if◌then◌else◌, length, map, refl, sym, true}
use Rattle.std.proofs.lemmas.List.Elements.{All-head, All-tail}
use Rattle.std.proofs.lemmas.List.Splits.{slice_split_at}
use Rattle.std.proofs.lemmas.List.{map-append}
use Rattle.std.specs.Prelude.{All}
use Rattle.bound_cert.specs.declared.reading_lines.Due.TheVariants as due
use Rattle.proof_lines.specs.declared.forms.Form.TheVariants as form

-- what the lines of a text of a version are read by
abbrev pub names : Version → Tables → Naming
names v t = names_in v t

-- the bytes of lines without their line feeds
abbrev pub texts : Tables → List Line → Left
texts t = map (line_bytes t)

pub texts_append : (t : Tables) (xs ys : List Line) (behind : Left) → texts t (xs ++ ys) ++ behind ≡ texts t xs ++ (texts t ys ++ behind)
texts_append t xs ys behind = ap (λ lines. lines ++ behind) (map-append (line_bytes t) xs ys) ∙ append_assoc (texts t xs) (texts t ys) behind

-- the lines of a text, and behind them nothing
pub left_of_lines : (t : Tables) (lines : List Line) → All (IsNamed t) lines → left_of (text_of_lines t lines) ≡ texts t lines ++ [] ∷ []
left_of_lines t [] are = refl
left_of_lines t (line ∷ lines) are =
    let is = of_words t line (All-head (IsNamed t) line lines are) in
    let bytes = line_bytes t line in
    rw (append_assoc bytes (line_feed ∷ []) (text_of_lines t lines), slice_split_at (λ byte. byte == line_feed) bytes line_feed (text_of_lines t lines) (no_line_feed bytes (joined_plain (line_words t line) is.words)) refl)
    (ap (λ rest. bytes ∷ rest) (left_of_lines t lines (All-tail (IsNamed t) line lines are)))

-- a line that is of another form is no step
pub other_words : (v : Version) (rest : Left) → begins v rest due.Step ≡ false → stands (first_words rest) 0 (codes "at") ≡ false
unfolding all_forms
other_words v [] off = refl
other_words v (line ∷ rest) off = by_test (stands (words_of line) 0 (codes "at")) refl off
  where
    by_test : (b : Bool) → stands (words_of line) 0 (codes "at") ≡ b → fits due.Step (form_in v (words_of line)) ≡ false → stands (words_of line) 0 (codes "at") ≡ false
    by_test false is off = is
    by_test true is off = let told : form_in v (words_of line) ≡ Some form.At = ap (of_version v) (chosen (stands (words_of line) 0 (codes "at") && true) _ _ (rw is refl)) in absurd (cc (sym off ∙ ap (fits due.Step) told))

-- the form of a line is told by its bytes
pub form_is : (v : Version) (t : Tables) (line : Line) → IsOfVersion v line → IsNamed t line → form_in v (words_of (line_bytes t line)) ≡ Some (form_of line)
form_is v t line may is = ap (form_in v) (words_back (line_words t line) (of_words t line is)) ∙ form_told v t line may

pub begins_as : (v : Version) (t : Tables) (line : Line) (rest : Left) (kind : Due) → IsOfVersion v line → IsNamed t line → may_stand kind (form_of line) ≡ true → begins v (line_bytes t line ∷ rest) kind ≡ true
begins_as v t line rest kind may named e = ap (fits kind) (form_is v t line may named) ∙ e

-- a line of another kind, whether a text of the version may have it or not
pub begins_else : (v : Version) (t : Tables) (line : Line) (rest : Left) (kind : Due) → IsNamed t line → may_stand kind (form_of line) ≡ false → begins v (line_bytes t line ∷ rest) kind ≡ false
begins_else v t line rest kind is e =
    ap (λ words. fits kind (form_in v words)) (words_back (line_words t line) (of_words t line is)) ∙ ap (λ o. fits kind (of_version v o)) (first_told t line) ∙ by_test (has_form v (form_of line))
  where
    by_test : (b : Bool) → fits kind (if b then Some (form_of line) else None) ≡ false
    by_test true = e
    by_test false = refl

-- a line that is due
pub line_read : (v : Version) (t : Tables) (kind : Due) (line : Line) (rest : Left) → IsOfVersion v line → IsLineOf t line → may_stand kind (form_of line) ≡ true → 0 < length rest
    → line_due (names v t) kind (line_bytes t line ∷ rest) ≡ Ok line
unfolding line_due
line_read v t kind line [] of is may some = absurd (omega (arith, some))
line_read v t kind line (next ∷ rest) of is may some =
    let left : Left = line_bytes t line ∷ next ∷ rest in
    ap (λ r. of_seen (fits kind (form_in v (words_of (line_bytes t line)))) r left) (reads_as_written v t line of is)
    ∙ ap (λ fit. of_seen fit (Ok line) left) (begins_as v t line (next ∷ rest) kind of is.named may)
