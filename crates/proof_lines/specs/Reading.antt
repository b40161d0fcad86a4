-- The line that bytes are, or its flaw of the least kind.
use Rattle.std.specs.Prelude.{ℕ, ◌==◌, ◌&&◌, Bool, true, false, if◌then◌else◌, List, length, codes, Option, Some, None, Result, Ok, Err}
use Rattle.fleet_model.specs.declared.parts.Pair.{Pair}
use Rattle.proof_lines.specs.Figures.{count_in, day_in, minute_in, signed_figure, version_in}
use Rattle.proof_lines.specs.Flaws.{both}
use Rattle.proof_lines.specs.Forms.{form_in, pair_end, width}
use Rattle.proof_lines.specs.Known.{Naming, fleet_in, leg_in, pair_in, station_in}
use Rattle.proof_lines.specs.Words.{Word, is_plain, parts_of, stands, word_at, words_of}
use Rattle.proof_lines.specs.declared.flaws.Flaw.{Flaw}
use Rattle.proof_lines.specs.declared.flaws.Flaw.TheVariants as flaw
use Rattle.proof_lines.specs.declared.forms.Form.{Form}
use Rattle.proof_lines.specs.declared.forms.Form.TheVariants as form
use Rattle.proof_lines.specs.declared.line.Line.{Line}
use Rattle.proof_lines.specs.declared.line.Line.TheVariants as line
use Rattle.proof_lines.specs.declared.reading.Seen.{Seen}

-- the line that what was read makes
abbrev pub made : {A : Type 0} → (A → Line) → Result A Flaw → Result Line Flaw
made f (Ok a) = Ok (f a)
made f (Err flaw) = Err flaw

-- the lines that name nothing of tables, by their words
abbrev pub head_in : List Word → Result Line Flaw
head_in words = made (λ version. line.Head version) (version_in (word_at words 2))

abbrev pub pivots_in : List Word → Result Line Flaw
pivots_in words = made (λ made. line.OpenPivots made) (count_in (word_at words 2))

abbrev pub grew_in : List Word → Result Line Flaw
grew_in words = made (λ counts. line.OpenGrew counts.0.0 counts.0.1 counts.1) (both (both (count_in (word_at words 2)) (count_in (word_at words 3))) (count_in (word_at words 4)))

abbrev pub lift_in : List Word → Result Line Flaw
lift_in words = made (λ counts. line.OpenLift counts.0 counts.1) (both (count_in (word_at words 2)) (count_in (word_at words 3)))

abbrev pub scale_in : List Word → Result Line Flaw
scale_in words = made (λ scale. line.Scale scale) (signed_figure (word_at words 1))

abbrev pub mixed_in : List Word → Result Line Flaw
mixed_in words = made (λ scale. line.Mixed scale) (signed_figure (word_at words 1))

-- the pair that words tell, behind the first
abbrev pub pair_told : Naming → List Word → Result Pair Flaw
pair_told n words = pair_in n (word_at words 1) (word_at words 2) (word_at words 3)

-- the line of a form by its words, of which there are as many as the form has
unfoldable pub form_line : Naming → Form → List Word → Result Line Flaw
form_line n form.Head words = head_in words
form_line n form.PlanYes words = Ok (line.Plan true)
form_line n form.PlanNo words = Ok (line.Plan false)
form_line n form.Bare words = made (λ leg. line.Bare leg) (leg_in n (word_at words 1))
form_line n form.Sole words = Ok line.Sole
form_line n form.Refuted words = Ok line.Refuted
form_line n form.Priced words = Ok line.Priced
form_line n form.OpenNodes words = Ok line.OpenNodes
form_line n form.OpenPivots words = pivots_in words
form_line n form.OpenGrew words = grew_in words
form_line n form.OpenLift words = lift_in words
form_line n form.Trim words = made (λ pair. line.Trim pair.leg pair.choice) (pair_told n words)
form_line n form.Split words = made (λ pair. line.Split pair.leg pair.choice) (pair_told n words)
form_line n form.Scale words = scale_in words
form_line n form.Rent words = made (λ entry. line.Rent entry.0 entry.1) (both (fleet_in n (word_at words 1)) (signed_figure (word_at words 2)))
form_line n form.Charge words =
    made (λ entry. line.Charge entry.0 entry.1.0 entry.1.1) (both (station_in n (word_at words 1)) (both (day_in n.days (word_at words 2)) (signed_figure (word_at words 3))))
form_line n form.At words =
    made (λ step. line.At step.0.0 step.0.1 step.1.0 step.1.1)
    (both (both (fleet_in n (word_at words 1)) (station_in n (word_at words 2))) (both (minute_in n.last (word_at words 3)) (signed_figure (word_at words 4))))
form_line n form.Mixed words = mixed_in words
form_line n form.Weight words =
    made (λ entry. line.Weight entry.0.leg entry.0.choice entry.1) (both (pair_told n words) (signed_figure (word_at words (pair_end n.windows))))
form_line n form.End words = Ok line.End

-- the line that words are, of a form that their first words say, where they stand as so many parts between spaces
abbrev pub of_form : Naming → ℕ → List Word → Option Form → Result Line Flaw
of_form n parts words None = Err flaw.Word
of_form n parts words (Some form) = if (length words == parts) && (length words == width n.windows form) then form_line n form words else Err flaw.Width

-- the line that bytes without a line feed are
unfoldable pub line_in : Naming → List ℕ → Result Line Flaw
line_in n bytes = if is_plain bytes then of_form n (length (parts_of bytes)) (words_of bytes) (form_in n.version (words_of bytes)) else Err flaw.Byte

-- a line as it stands in a text: its form, and what it reads as; by its words and its bytes
abbrev pub of_words : Naming → Bool → ℕ → List Word → Seen
of_words n plain parts words = record { form = form_in n.version words; line = if plain then of_form n parts words (form_in n.version words) else Err flaw.Byte }

abbrev pub seen_in : Naming → List ℕ → Seen
seen_in n bytes = record { form = form_in n.version (words_of bytes); line = line_in n bytes }

-- the number that a word names
abbrev pub is_number : Result ℕ Flaw → ℕ → Bool
is_number (Ok number) wanted = number == wanted
is_number (Err flaw) wanted = false

-- the words begin as those of a step of this fleet at this station, whatever stands behind
abbrev pub is_step_of : Naming → ℕ → ℕ → List Word → Bool
is_step_of n fleet station words = stands words 0 (codes "at") && is_number (fleet_in n (word_at words 1)) fleet && is_number (station_in n (word_at words 2)) station
