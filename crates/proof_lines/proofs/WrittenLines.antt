-- What is written reads as itself.
use Rattle.std.proofs.Common.{◌≡◌, ℕ, zero, suc, ◌≤◌, ◌==◌, ◌&&◌, Bool, true, false, List, [], ◌∷◌, ◌++◌, length, ℤ, Some, Ok, refl, ap, ◌∙◌, arith}
use Rattle.std.specs.Fmt.{decimal, signed_decimal}
use Rattle.std.proofs.lemmas.Bool.Decides.{nat_tests}
use Rattle.sums.proofs.Tests.{both_true}
use Rattle.fleet_model.specs.Schedule.{days_in, last_of, leg_on}
use Rattle.fleet_model.specs.declared.parts.Pair.{Pair}
use Rattle.fleet_model.specs.declared.tables.Tables.{Tables}
use Rattle.fleet_model.proofs.PeriodMinutes.{at_most_week, few_days}
use Rattle.dual_bound.specs.declared.prices.TheConstants.{MAX_SIZE}
use Rattle.dual_bound.specs.WrittenOrder.{IsFigure}
use Rattle.proof_lines.specs.Figures.{count_in, day_in, figure, minute_in, signed_figure, some_day, version_in, version_word}
use Rattle.proof_lines.specs.Flaws.{both}
use Rattle.proof_lines.specs.Forms.{form_in, form_of, pair_end, width}
use Rattle.proof_lines.specs.Known.{Naming, names_in}
use Rattle.proof_lines.specs.Laws.{IsLineOf, IsOfVersion}
use Rattle.proof_lines.specs.LineText.{HasFigures, IsNamed, IsWordCount, line_bytes, line_words, minutes_by, shift_words}
use Rattle.proof_lines.specs.Reading.{form_line, line_in, made, of_form}
use Rattle.proof_lines.specs.Words.{IsOfWords, Word, is_plain, joined, word_at, words_of}
use Rattle.proof_lines.specs.declared.forms.Form.{Form}
use Rattle.proof_lines.specs.declared.line.Line.{Line}
use Rattle.proof_lines.specs.declared.line.Line.TheVariants as line
use Rattle.proof_lines.specs.declared.line.Version.{Version}
use Rattle.proof_lines.specs.declared.line.Version.TheVariants as version
use Rattle.proof_lines.proofs.Choosing.{chosen}
use Rattle.proof_lines.proofs.LineWords.{as_many, form_told, of_words}
use Rattle.proof_lines.proofs.Naming.{fleet_written, leg_written, pair_written, station_written}
use Rattle.proof_lines.proofs.Spaces.{joined_plain, parts_back, plain_all, words_back}
use Rattle.proof_lines.proofs.WrittenNumbers.{natural_written, number_written}

-- words of a form read by what is behind its first words
words_read : (n : Naming) (words : List Word) (form : Form) → IsOfWords words → form_in n.version words ≡ Some form → length words ≡ width n.windows form → line_in n (joined words) ≡ form_line n form words
unfolding line_in
words_read n words form is told many =
    chosen (is_plain (joined words)) _ _ (plain_all (joined words) (joined_plain words is.words))
    ∙ ap (λ parts. of_form n (length parts) (words_of (joined words)) (form_in n.version (words_of (joined words)))) (parts_back words is)
    ∙ ap (λ read. of_form n (length words) read (form_in n.version read)) (words_back words is)
    ∙ ap (λ form. of_form n (length words) words form) told
    ∙ chosen ((length words == length words) && (length words == width n.windows form)) _ _
    (both_true (length words == length words) (length words == width n.windows form) (grind (arith, nat_tests)) (grind (arith, nat_tests, many)))

-- numbers

number_is : (z : ℤ) → IsFigure z → signed_figure (signed_decimal z) ≡ Ok z
number_is z is = ap figure (number_written z is)

count_is : (n : ℕ) → IsWordCount n → count_in (decimal n) ≡ Ok n
count_is n is = ap figure (natural_written 18446744073709551615 n (omega arith) (omega (arith, is)))

minute_is : (last n : ℕ) → last ≤ MAX_SIZE → n ≤ last → minute_in last (decimal n) ≡ Ok n
minute_is last n few is = ap figure (natural_written last n few is)

day_is : (days n : ℕ) → days ≤ MAX_SIZE → 1 ≤ n → n ≤ days → day_in days (decimal n) ≡ Ok n
day_is days zero few some is = absurd (omega (arith, some))
day_is days (suc n) few some is = ap (λ o. figure (some_day o)) (natural_written days (suc n) few is)

version_is : (v : Version) → version_in (version_word v) ≡ Ok v
version_is version.One = refl
version_is version.Two = refl
version_is version.Three = refl

weight_word : (b : Bool) (first leg flier shift weight : Word) → word_at (first ∷ leg ∷ flier ∷ (shift_words b shift ++ weight ∷ [])) (pair_end b) ≡ weight
weight_word true first leg flier shift weight = refl
weight_word false first leg flier shift weight = refl

abbrev weighed : Pair × ℤ → Line
weighed entry = line.Weight entry.0.leg entry.0.choice entry.1

module _ (v : Version) (t : Tables) where
  fields_read : (line : Line) → IsNamed t line → HasFigures t line → form_line (names_in v t) (form_of line) (line_words t line) ≡ Ok line
  unfolding form_line
  fields_read (line.Head version) is has = ap (λ r. made (λ version. line.Head version) r) (version_is version)
  fields_read (line.Plan true) is has = refl
  fields_read (line.Plan false) is has = refl
  fields_read (line.Bare leg) is has = rw (leg_written v t leg is) refl
  fields_read line.Sole is has = refl
  fields_read line.Refuted is has = refl
  fields_read line.Priced is has = refl
  fields_read line.OpenNodes is has = refl
  fields_read (line.OpenPivots made) is has = rw (count_is made has) refl
  fields_read (line.OpenGrew pivots row column) is has = rw (count_is pivots has.0, count_is row has.1, count_is column has.2) refl
  fields_read (line.OpenLift step at) is has = rw (count_is step has.0, count_is at has.1) refl
  fields_read (line.Trim leg choice) is has = ap (made (λ pair. line.Trim pair.leg pair.choice)) (pair_written v t leg choice [] is)
  fields_read (line.Split leg choice) is has = ap (made (λ pair. line.Split pair.leg pair.choice)) (pair_written v t leg choice [] is)
  fields_read (line.Scale scale) is has = rw (number_is scale has) refl
  fields_read (line.Rent fleet rent) is has = rw (fleet_written v t fleet is, number_is rent has) refl
  fields_read (line.Charge station day charge) is has =
      rw (station_written v t station is, day_is (days_in t) day (omega (arith, few_days t)) has.0 has.1, number_is charge has.2) refl
  fields_read (line.At fleet station minute value) is has =
      rw (fleet_written v t fleet is.0, station_written v t station is.1, minute_is (last_of t) minute (omega (arith, at_most_week t)) has.0, number_is value has.1) refl
  fields_read (line.Mixed scale) is has = rw (number_is scale has) refl
  fields_read (line.Weight leg choice weight) is has =
      let word = signed_decimal weight in
      let figure : signed_figure (word_at (line_words t (line.Weight leg choice weight)) (pair_end t.windows)) ≡ Ok weight =
      ap signed_figure (weight_word t.windows _ _ _ (signed_decimal (minutes_by t leg choice)) word) ∙ number_is weight has in
      ap (λ pair. made weighed (both pair (signed_figure (word_at (line_words t (line.Weight leg choice weight)) (pair_end t.windows))))) (pair_written v t leg choice (word ∷ []) is)
      ∙ ap (λ number. made weighed (both (Ok (leg_on leg choice)) number)) figure
  fields_read line.End is has = refl

pub reads_as_written : (v : Version) (t : Tables) (line : Line) → IsOfVersion v line → IsLineOf t line → line_in (names_in v t) (line_bytes t line) ≡ Ok line
reads_as_written v t line has is =
    words_read (names_in v t) (line_words t line) (form_of line) (of_words t line is.named) (form_told v t line has) (as_many t line)
    ∙ fields_read v t line is.named is.figures
