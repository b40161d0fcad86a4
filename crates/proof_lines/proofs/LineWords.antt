-- The words of a line: none is broken by a space, and the first tell its form.
use Rattle.std.proofs.Common.{◌≡◌, ℕ, ◌+◌, Bool, true, false, codes, List, [], ◌∷◌, ◌++◌, length, ◌≤◌, Some, None, Result, Ok, Err, refl, ap, sym, ◌∙◌, append-nil, append_assoc, length-append, arith}
use Rattle.std.specs.Fmt.{signed_decimal}
use Rattle.std.specs.Prelude.{All, OnOk}
use Rattle.std.proofs.lemmas.Grind.{flat_map-append}
use Rattle.std.proofs.lemmas.List.Elements.{All-append, All-cons, All-from_recursion, All-nil}
use Rattle.fleet_model.specs.Schedule.{IsPair, leg_on}
use Rattle.fleet_model.specs.declared.tables.Tables.{Tables}
use Rattle.proof_lines.specs.Figures.{version_word}
use Rattle.proof_lines.specs.Forms.{all_forms, first_form, form_in, form_of, has_form, keywords, of_version, pair_end, width}
use Rattle.proof_lines.specs.Laws.{IsOfVersion}
use Rattle.proof_lines.specs.LineText.{IsNamed, fields_of, figures_of, flier_word, leg_word, line_words, minutes_by, names_of, pair_words, shift_words}
use Rattle.proof_lines.specs.Words.{IsOfWords, IsWord, Word, joined, line_feed, space, spaced, spaced_words}
use Rattle.proof_lines.specs.declared.forms.Form.{Form}
use Rattle.proof_lines.specs.declared.forms.Form.TheVariants as form
use Rattle.proof_lines.specs.declared.line.Line.{Line}
use Rattle.proof_lines.specs.declared.line.Line.TheVariants as line
use Rattle.proof_lines.specs.declared.line.Version.{Version}
use Rattle.proof_lines.specs.declared.line.Version.TheVariants as version
use Rattle.proof_lines.proofs.Choosing.{chosen}
use Rattle.proof_lines.proofs.WordForms.{fleet_is, flier_is, leg_is, number_word, shift_is, signed_word, station_is, written}

one : (a : Word) → IsWord a → All IsWord (a ∷ [])
one a p = All-from_recursion IsWord (a ∷ []) (p, tt)

two : (a b : Word) → IsWord a → IsWord b → All IsWord (a ∷ b ∷ [])
two a b p q = All-from_recursion IsWord (a ∷ b ∷ []) (p, (q, tt))

three : (a b c : Word) → IsWord a → IsWord b → IsWord c → All IsWord (a ∷ b ∷ c ∷ [])
three a b c p q r = All-from_recursion IsWord (a ∷ b ∷ c ∷ []) (p, (q, (r, tt)))

keywords_are : (form : Form) → All IsWord (keywords form)
keywords_are form.Head = two _ _ (written _ _ refl) (written _ _ refl)
keywords_are form.PlanYes = two _ _ (written _ _ refl) (written _ _ refl)
keywords_are form.PlanNo = two _ _ (written _ _ refl) (written _ _ refl)
keywords_are form.OpenNodes = two _ _ (written _ _ refl) (written _ _ refl)
keywords_are form.OpenPivots = two _ _ (written _ _ refl) (written _ _ refl)
keywords_are form.OpenGrew = two _ _ (written _ _ refl) (written _ _ refl)
keywords_are form.OpenLift = two _ _ (written _ _ refl) (written _ _ refl)
keywords_are other = one _ (written _ _ refl)

some_keywords : (form : Form) → 1 ≤ length (keywords form)
some_keywords form.Head = omega arith
some_keywords other = omega arith

version_is : (v : Version) → IsWord (version_word v)
version_is version.One = written _ _ refl
version_is version.Two = written _ _ refl
version_is version.Three = written _ _ refl

pair_are : (t : Tables) (l c : ℕ) → IsPair t (leg_on l c) → All IsWord (pair_words t l c)
pair_are t l c is =
    let shift : List Word = shift_words t.windows (signed_decimal (minutes_by t l c)) in
    All-cons IsWord (leg_word t l) (flier_word t l c ∷ shift) (leg_is t l is.leg) (All-cons IsWord (flier_word t l c) shift (flier_is t l c) (shift_is t.windows (minutes_by t l c)))

names_are : (t : Tables) (line : Line) → IsNamed t line → All IsWord (names_of t line)
names_are t (line.Bare leg) is = one _ (leg_is t leg is)
names_are t (line.Trim leg choice) is = pair_are t leg choice is
names_are t (line.Split leg choice) is = pair_are t leg choice is
names_are t (line.Rent fleet rent) is = one _ (fleet_is t fleet is)
names_are t (line.Charge station day charge) is = one _ (station_is t station is)
names_are t (line.At fleet station minute value) is = two _ _ (fleet_is t fleet is.0) (station_is t station is.1)
names_are t (line.Weight leg choice weight) is = pair_are t leg choice is
names_are t other is = All-nil IsWord

figures_are : (line : Line) → All IsWord (figures_of line)
figures_are (line.Head v) = one _ (version_is v)
figures_are (line.OpenPivots made) = one _ (number_word made)
figures_are (line.OpenGrew pivots row column) = three _ _ _ (number_word pivots) (number_word row) (number_word column)
figures_are (line.OpenLift step at) = two _ _ (number_word step) (number_word at)
figures_are (line.Scale scale) = one _ (signed_word scale)
figures_are (line.Rent fleet rent) = one _ (signed_word rent)
figures_are (line.Charge station day charge) = two _ _ (number_word day) (signed_word charge)
figures_are (line.At fleet station minute value) = two _ _ (number_word minute) (signed_word value)
figures_are (line.Mixed scale) = one _ (signed_word scale)
figures_are (line.Weight leg choice weight) = one _ (signed_word weight)
figures_are other = All-nil IsWord

-- names and then figures, appended
pub both_pushed : {A E : Type 0} (result : Result A E) (old named text : List ℕ) (names figures : List Word) → named ≡ old ++ spaced_words names → OnOk result (text ≡ named ++ spaced_words figures)
    → OnOk result (text ≡ old ++ spaced_words (names ++ figures))
both_pushed (Ok x) old named text names figures first second =
    second ∙ rw (first, flat_map-append spaced names figures) (append_assoc old (spaced_words names) (spaced_words figures))
both_pushed (Err e) old named text names figures first second = tt

-- words behind those with which a line begins, and the line feed, appended
joined_spaced : (word : Word) (words : List Word) → joined (word ∷ words) ≡ word ++ spaced_words words
joined_spaced word [] = sym (append-nil word)
joined_spaced word (next ∷ words) = ap (λ rest. word ++ space ∷ rest) (joined_spaced next words)

joined_more : (words more : List Word) → 1 ≤ length words → joined words ++ spaced_words more ≡ joined (words ++ more)
joined_more [] more some = absurd (omega (arith, some))
joined_more (word ∷ words) more some =
    ap (λ bytes. bytes ++ spaced_words more) (joined_spaced word words) ∙ append_assoc word (spaced_words words) (spaced_words more)
    ∙ ap (λ rest. word ++ rest) (sym (flat_map-append spaced words more)) ∙ sym (joined_spaced word (words ++ more))

pub line_done : {A E : Type 0} (result : Result A E) (form : Form) (fields : List Word) (old first second whole : List ℕ) → first ≡ old ++ joined (keywords form) → second ≡ first ++ spaced_words fields
    → OnOk result (whole ≡ second ++ line_feed ∷ []) → OnOk result (whole ≡ old ++ (joined (keywords form ++ fields) ++ line_feed ∷ []))
line_done (Err e) form fields old first second whole begun filled ended = tt
line_done (Ok x) form fields old first second whole begun filled ended =
    ended ∙ ap (λ bytes. bytes ++ line_feed ∷ []) (filled ∙ ap (λ bytes. bytes ++ spaced_words fields) begun ∙ append_assoc old (joined (keywords form)) (spaced_words fields)
    ∙ ap (λ rest. old ++ rest) (joined_more (keywords form) fields (some_keywords form)))
    ∙ append_assoc old (joined (keywords form ++ fields)) (line_feed ∷ [])

fields_are : (t : Tables) (line : Line) → IsNamed t line → All IsWord (fields_of t line)
fields_are t line is = All-append IsWord (names_of t line) (figures_of line) (names_are t line is) (figures_are line)

some_words : (form : Form) (fields : List Word) → 1 ≤ length (keywords form ++ fields)
some_words form fields = omega (arith, length-append (keywords form) fields, some_keywords form)

pub of_words : (t : Tables) (line : Line) → IsNamed t line → IsOfWords (line_words t line)
of_words t line is =
    record { some = some_words (form_of line) (fields_of t line); words = All-append IsWord (keywords (form_of line)) (fields_of t line) (keywords_are (form_of line)) (fields_are t line is) }

-- a line has as many words as its form, and its form is told by the first of them

shifts_many : (b : Bool) (first leg flier shift : Word) → length (first ∷ leg ∷ flier ∷ (shift_words b shift ++ [])) ≡ pair_end b
shifts_many true first leg flier shift = refl
shifts_many false first leg flier shift = refl

weight_many : (b : Bool) (first leg flier shift weight : Word) → length (first ∷ leg ∷ flier ∷ (shift_words b shift ++ weight ∷ [])) ≡ pair_end b + 1
weight_many true first leg flier shift weight = refl
weight_many false first leg flier shift weight = refl

pub as_many : (t : Tables) (line : Line) → length (line_words t line) ≡ width t.windows (form_of line)
as_many t (line.Head v) = refl
as_many t (line.Plan true) = refl
as_many t (line.Plan false) = refl
as_many t (line.Trim leg choice) = shifts_many t.windows (codes "trim") (leg_word t leg) (flier_word t leg choice) (signed_decimal (minutes_by t leg choice))
as_many t (line.Split leg choice) = shifts_many t.windows (codes "split") (leg_word t leg) (flier_word t leg choice) (signed_decimal (minutes_by t leg choice))
as_many t (line.Weight leg choice weight) = weight_many t.windows (codes "weight") (leg_word t leg) (flier_word t leg choice) (signed_decimal (minutes_by t leg choice)) (signed_decimal weight)
as_many t other = refl

pub first_told : (t : Tables) (line : Line) → first_form (line_words t line) all_forms ≡ Some (form_of line)
unfolding all_forms
first_told t (line.Head v) = refl
first_told t (line.Plan true) = refl
first_told t (line.Plan false) = refl
first_told t other = refl

pub form_told : (v : Version) (t : Tables) (line : Line) → IsOfVersion v line → form_in v (line_words t line) ≡ Some (form_of line)
form_told v t line has = ap (of_version v) (first_told t line) ∙ chosen (has_form v (form_of line)) (Some (form_of line)) None has
