-- A line that is read is the one that its bytes write.
use Rattle.bound_cert.proofs.ReadBack.{ok_same}
use Rattle.bound_cert.proofs.WrittenLines.{form_is, names}
use Rattle.bound_cert.specs.Lines.{Left, fits, line_due, may_stand, of_seen}
use Rattle.bound_cert.specs.declared.reading_lines.Due.{Due}
use Rattle.fleet_model.specs.declared.tables.Tables.{Tables}
use Rattle.proof_lines.specs.declared.line.Version.{Version}
use Rattle.proof_lines.proofs.ReadLines.{written_as_read}
use Rattle.proof_lines.specs.Forms.{form_in, form_of}
use Rattle.proof_lines.specs.Laws.{IsLineOf, IsOfVersion}
use Rattle.proof_lines.specs.LineText.{line_bytes}
use Rattle.proof_lines.specs.Reading.{line_in}
use Rattle.proof_lines.specs.Words.{words_of}
use Rattle.proof_lines.specs.declared.flaws.Flaw.{Flaw}
use Rattle.proof_lines.specs.declared.line.Line.{Line}
use Rattle.std.proofs.Common.{[], ◌<◌, ◌∙◌, ◌∷◌, ◌≡◌, Bool, Err, Ok, Result, ap, arith, drop, false, length, refl, sym, true}

-- the first line that is left is this one, and something stands behind it
pub record LineIs (v : Version) (t : Tables) (left : Left) (line : Line) : Type 0 where
  pub is : left ≡ line_bytes t line ∷ drop 1 left
  pub some : 0 < length (drop 1 left)
  pub of_tables : IsLineOf t line
  pub of_version : IsOfVersion v line

seen_read : (fit : Bool) (r : Result Line Flaw) (left : Left) (line : Line) → of_seen fit r left ≡ Ok line → r ≡ Ok line
seen_read true (Ok it) left line e = ap (λ l. Ok l) (ok_same it line e)
seen_read false (Ok it) left line e = absurd (cc e)
seen_read fit (Err flaw) left line e = absurd (cc e)

pub line_was : (v : Version) (t : Tables) (kind : Due) (left : Left) (line : Line) → line_due (names v t) kind left ≡ Ok line → LineIs v t left line
unfolding line_due
line_was v t kind [] line e = absurd (cc e)
line_was v t kind (bytes ∷ []) line e = absurd (cc e)
line_was v t kind (bytes ∷ next ∷ rest) line e =
    let was = written_as_read v t bytes line (seen_read (fits kind (form_in v (words_of bytes))) (line_in (names v t) bytes) (bytes ∷ next ∷ rest) line e) in
    record { is = ap (λ l. l ∷ next ∷ rest) was.is; some = omega arith; of_tables = was.of_tables; of_version = was.of_version }

-- it may stand where it is due
seen_fits : (fit : Bool) (r : Result Line Flaw) (left : Left) (line : Line) → of_seen fit r left ≡ Ok line → fit ≡ true
seen_fits true (Ok it) left line e = refl
seen_fits false (Ok it) left line e = absurd (cc e)
seen_fits fit (Err flaw) left line e = absurd (cc e)

pub line_may : (v : Version) (t : Tables) (kind : Due) (left : Left) (line : Line) → line_due (names v t) kind left ≡ Ok line → may_stand kind (form_of line) ≡ true
unfolding line_due
line_may v t kind [] line e = absurd (cc e)
line_may v t kind (bytes ∷ []) line e = absurd (cc e)
line_may v t kind (bytes ∷ next ∷ rest) line e =
    let fit = fits kind (form_in v (words_of bytes)) in
    let was = written_as_read v t bytes line (seen_read fit (line_in (names v t) bytes) (bytes ∷ next ∷ rest) line e) in
    sym (ap (fits kind) (ap (λ b. form_in v (words_of b)) was.is ∙ form_is v t line was.of_version was.of_tables.named)) ∙ seen_fits fit (line_in (names v t) bytes) (bytes ∷ next ∷ rest) line e
