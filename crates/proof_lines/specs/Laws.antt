-- The laws of lines.
use Rattle.std.specs.Prelude.{◌≡◌, ℕ, true, List, Ok}
use Rattle.fleet_model.specs.declared.tables.Tables.{Tables}
use Rattle.proof_lines.specs.Forms.{form_of, has_form}
use Rattle.proof_lines.specs.Known.{names_in}
use Rattle.proof_lines.specs.LineText.{HasFigures, IsNamed, line_bytes, line_words}
use Rattle.proof_lines.specs.Reading.{line_in}
use Rattle.proof_lines.specs.Words.{IsOfWords}
use Rattle.proof_lines.specs.declared.line.Line.{Line}
use Rattle.proof_lines.specs.declared.line.Version.{Version}

-- a line that a text of the tables may hold
pub record IsLineOf (t : Tables) (line : Line) : Type 0 where
  pub named : IsNamed t line
  pub figures : HasFigures t line

-- a text of this version may have the line
abbrev pub IsOfVersion : Version → Line → Type 0
IsOfVersion v line = has_form v (form_of line) ≡ true

-- the bytes are those of a line that a text of this version may have
pub record AreBytesOf (v : Version) (t : Tables) (bytes : List ℕ) (line : Line) : Type 0 where
  pub is : bytes ≡ line_bytes t line
  pub of_tables : IsLineOf t line
  pub of_version : IsOfVersion v line

-- what is written reads as itself
abbrev pub ReadsAsWritten : Type 0
ReadsAsWritten = (v : Version) (t : Tables) (line : Line) → IsOfVersion v line → IsLineOf t line → line_in (names_in v t) (line_bytes t line) ≡ Ok line

-- what reads as a line is what that line is written as
abbrev pub WrittenAsRead : Type 0
WrittenAsRead = (v : Version) (t : Tables) (bytes : List ℕ) (line : Line) → line_in (names_in v t) bytes ≡ Ok line → AreBytesOf v t bytes line

-- no two lines have one text
abbrev pub OneText : Type 0
OneText = (t : Tables) (a b : Line) → IsLineOf t a → IsLineOf t b → line_bytes t a ≡ line_bytes t b → a ≡ b

-- a line is of words, none of which a space breaks
abbrev pub LinesAreOfWords : Type 0
LinesAreOfWords = (t : Tables) (line : Line) → IsNamed t line → IsOfWords (line_words t line)
