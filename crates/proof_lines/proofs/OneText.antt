-- No two lines have one text: it reads as both.
use Rattle.std.proofs.Common.{◌≡◌, true, refl, Result, Ok, sym, ap, ◌∙◌}
use Rattle.fleet_model.specs.declared.tables.Tables.{Tables}
use Rattle.proof_lines.specs.Forms.{form_of, has_form}
use Rattle.proof_lines.specs.Known.{names_in}
use Rattle.proof_lines.specs.Laws.{IsLineOf, IsOfVersion}
use Rattle.proof_lines.specs.LineText.{line_bytes}
use Rattle.proof_lines.specs.Reading.{line_in}
use Rattle.proof_lines.specs.declared.flaws.Flaw.{Flaw}
use Rattle.proof_lines.specs.declared.forms.Form.{Form}
use Rattle.proof_lines.specs.declared.forms.Form.TheVariants as form
use Rattle.proof_lines.specs.declared.line.Line.{Line}
use Rattle.proof_lines.specs.declared.line.Version.TheVariants as version
use Rattle.proof_lines.proofs.WrittenLines.{reads_as_written}

same_line : (a b : Line) → ◌≡◌ {A = Result Line Flaw} (Ok a) (Ok b) → a ≡ b
same_line a b e = cc e

-- a text of version 2 may have every line
pub has_all : (line : Line) → IsOfVersion version.Two line
has_all line = of_form (form_of line)
  where
    of_form : (form : Form) → has_form version.Two form ≡ true
    of_form form.Charge = refl
    of_form other = refl

pub one_text : (t : Tables) (a b : Line) → IsLineOf t a → IsLineOf t b → line_bytes t a ≡ line_bytes t b → a ≡ b
one_text t a b of_a of_b same =
    same_line a b
    (sym (reads_as_written version.Two t a (has_all a) of_a) ∙ ap (λ bytes. line_in (names_in version.Two t) bytes) same ∙ reads_as_written version.Two t b (has_all b) of_b)
