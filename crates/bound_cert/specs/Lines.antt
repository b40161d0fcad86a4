-- What is left of a text, line by line, and which line may stand where.
use Rattle.std.specs.Prelude.{◌≡◌, ℕ, ◌==◌, Bool, true, false, if◌then◌else◌, List, [], ◌∷◌, length, Option, Some, None, Result, Ok, Err, ⊤}
use Rattle.std.specs.List.{slice_split}
use Rattle.proof_lines.specs.Flaws.{kind_of, least}
use Rattle.proof_lines.specs.Forms.{form_in}
use Rattle.proof_lines.specs.Known.{Naming}
use Rattle.proof_lines.specs.Reading.{seen_in}
use Rattle.proof_lines.specs.Words.{is_word, line_feed, words_of}
use Rattle.proof_lines.specs.declared.flaws.Flaw.{Flaw}
use Rattle.proof_lines.specs.declared.flaws.Flaw.TheVariants as flaw
use Rattle.proof_lines.specs.declared.forms.Form.{Form}
use Rattle.proof_lines.specs.declared.forms.Form.TheVariants as form
use Rattle.proof_lines.specs.declared.line.Line.{Line}
use Rattle.proof_lines.specs.declared.line.Version.{Version}
use Rattle.bound_cert.specs.declared.faults.Stop.{Stop}
use Rattle.bound_cert.specs.declared.faults.Stop.TheVariants as stop
use Rattle.bound_cert.specs.declared.faults.TheConstants.{BAD_LINE, TEXT_ENDS, WRONG_WORD}
use Rattle.bound_cert.specs.declared.reading_lines.Due.{Due}
use Rattle.bound_cert.specs.declared.reading_lines.Due.TheVariants as due

-- what is left of a text: its lines without their line feeds, and last what stands behind the last line feed
abbrev pub Left : Type 0
Left = List (List ℕ)

-- all of a text, as what is left of it
abbrev pub left_of : List ℕ → Left
left_of text = slice_split (λ byte. byte == line_feed) text

-- where reading stopped: how much was left, and the kind of the fault
pub record Stopped : Type 0 where
  pub left : ℕ
  pub kind : ℕ

-- what is read, or where reading stopped
abbrev pub Reading : Type 0 → Type 0
Reading A = Result A Stopped

abbrev pub stopped : {A : Type 0} → Left → ℕ → Reading A
stopped left kind = Err (record { left = length left; kind = kind })

-- what was read goes on
infixl 10 ◌>>=◌
abbrev pub ◌>>=◌ : {A B : Type 0} → Reading A → (A → Reading B) → Reading B
(Ok x) >>= f = f x
(Err e) >>= f = Err e

-- a line of this form may stand where one of a kind is due
abbrev pub may_stand : Due → Form → Bool
may_stand due.Plan form.PlanYes = true
may_stand due.Plan form.PlanNo = true
may_stand due.Node form.Bare = true
may_stand due.Node form.Sole = true
may_stand due.Node form.Refuted = true
may_stand due.Node form.Priced = true
may_stand due.Node form.OpenNodes = true
may_stand due.Node form.OpenPivots = true
may_stand due.Node form.OpenGrew = true
may_stand due.Node form.OpenLift = true
may_stand due.Node form.Trim = true
may_stand due.Node form.Split = true
may_stand due.Scale form.Scale = true
may_stand due.Mixed form.Mixed = true
may_stand due.Rent form.Rent = true
may_stand due.Charge form.Charge = true
may_stand due.Step form.At = true
may_stand due.Weight form.Weight = true
may_stand due.End form.End = true
may_stand kind form = false

-- the same, where the first words say a form
abbrev pub fits : Due → Option Form → Bool
fits kind None = false
fits kind (Some form) = may_stand kind form

-- the form of the first line that is left of a text of this version
abbrev pub first_line_form : Version → Left → Option Form
first_line_form v [] = None
first_line_form v (line ∷ rest) = form_in v (words_of line)

-- a line that may stand here, or its flaw; one that may not has at least the flaw of its first word
abbrev pub of_seen : Bool → Result Line Flaw → Left → Reading Line
of_seen fit (Ok line) left = if fit then Ok line else stopped left WRONG_WORD
of_seen fit (Err bad) left = stopped left (kind_of (if fit then bad else least bad flaw.Word))

-- the first line that is left, which is due to be of a kind
unfoldable pub line_due : Naming → Due → Left → Reading Line
line_due n kind [] = stopped [] TEXT_ENDS
line_due n kind (line ∷ []) = stopped (line ∷ []) (if is_word line then BAD_LINE else TEXT_ENDS)
line_due n kind (line ∷ next ∷ rest) = of_seen (fits kind (seen_in n line).form) (seen_in n line).line (line ∷ next ∷ rest)

-- the same, if it begins as one that may stand here
abbrev pub next_line : Naming → Due → Left → Reading (Option Line)
next_line n kind left = if fits kind (first_line_form n.version left) then (line_due n kind left >>= λ line. Ok (Some line)) else Ok None

-- what an error says of what is read
abbrev pub Fails : {Y : Type 0} → Stop → Reading Y → Type 0
Fails stop.NoMemory read = ⊤
Fails (stop.Fault left kind) read = read ≡ Err (record { left = left; kind = kind })

-- what a call answers, as it is seen, is what is read, unless memory ran out
abbrev pub Gives : {X Y : Type 0} → (X → Y) → Result X Stop → Reading Y → Type 0
Gives view (Ok x) read = read ≡ Ok (view x)
Gives view (Err e) read = Fails e read
