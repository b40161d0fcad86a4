-- What reads as a line is what that line is written as.
use Rattle.std.proofs.Common.{◌≡◌, ℕ, zero, suc, ◌+◌, ◌≤◌, ◌++◌, ◌==◌, ◌&&◌, ◌||◌, Bool, true, false, cond, not, List, [], ◌∷◌, length, ℤ, Option, Some, None, Ok, Err, bytes_eq, refl, sym, ap, subst, ◌∙◌, arith}
use Rattle.std.specs.Fmt.{decimal}
use Rattle.std.proofs.lemmas.Bool.Decides.{nat_tests}
use Rattle.sums.proofs.Tests.{first_true, second_true}
use Rattle.fleet_model.specs.Schedule.{days_in, last_of}
use Rattle.fleet_model.specs.declared.tables.Tables.{Tables}
use Rattle.proof_lines.specs.Figures.{count_in, day_in, minute_in, natural_in, signed_figure, signed_in, some_day, version_in, version_word}
use Rattle.proof_lines.specs.Forms.{all_forms, first_form, form_in, form_of, has_form, keywords, of_version, opens, pair_end, width}
use Rattle.proof_lines.specs.Flaws.{both}
use Rattle.proof_lines.specs.Known.{fleet_in, leg_in, names_in, station_in}
use Rattle.proof_lines.specs.Laws.{AreBytesOf, IsLineOf}
use Rattle.proof_lines.specs.LineText.{IsWordCount, line_words}
use Rattle.proof_lines.specs.Reading.{form_line, line_in, of_form, pair_told}
use Rattle.proof_lines.specs.Words.{Word, is_plain, is_word, joined, parts_of, stands, word_at, words_of}
use Rattle.proof_lines.specs.declared.flaws.Flaw.TheVariants as flaw
use Rattle.proof_lines.specs.declared.forms.Form.{Form}
use Rattle.proof_lines.specs.declared.forms.Form.TheVariants as form
use Rattle.proof_lines.specs.declared.line.Line.{Line}
use Rattle.proof_lines.specs.declared.line.Line.TheVariants as line
use Rattle.proof_lines.specs.declared.line.Version.{Version}
use Rattle.proof_lines.specs.declared.line.Version.TheVariants as version
use Rattle.proof_lines.proofs.Choosing.{both_read, chose, figure_some, made_by}
use Rattle.proof_lines.proofs.FigureWords.{same_bytes}
use Rattle.proof_lines.proofs.LineWords.{first_told}
use Rattle.proof_lines.proofs.Naming.{fleet_read, leg_read, pair_read, station_read}
use Rattle.proof_lines.proofs.Shapes.{five_words, four_words, one_word, pair_alone, pair_before, three_words, two_words}
use Rattle.proof_lines.proofs.Spaces.{line_back}
use Rattle.proof_lines.proofs.WrittenNumbers.{IsNumberWritten, IsWritten, natural_read, number_read}

-- the form that was found is one as whose lines the words begin
found : (words : List Word) (forms : List Form) (form : Form) → first_form words forms ≡ Some form → opens words form ≡ true
found words [] form e = absurd (cc e)
found words (other ∷ others) form e = by_test (opens words other) refl (found words others form) e
  where
    by_test : (b : Bool) → opens words other ≡ b → (first_form words others ≡ Some form → opens words form ≡ true) → cond b (Some other) (first_form words others) ≡ Some form
        → opens words form ≡ true
    by_test true is on e = let same : other ≡ form = cc e in subst (λ f. opens words f ≡ true) same is
    by_test false is on e = on e

-- and one of the version of the text
record WasFound (v : Version) (words : List Word) (form : Form) : Type 0 where
  first : first_form words all_forms ≡ Some form
  of_version : has_form v form ≡ true

was_found : (v : Version) (words : List Word) (form : Form) → form_in v words ≡ Some form → WasFound v words form
was_found v words form e = by_first (first_form words all_forms) refl e
  where
    by_version : (b : Bool) (other : Form) → first_form words all_forms ≡ Some other → has_form v other ≡ b → cond b (Some other) None ≡ Some form → WasFound v words form
    by_version true other is has e = let same : other ≡ form = cc e in subst (WasFound v words) same (record { first = is; of_version = has })
    by_version false other is has e = absurd (cc e)

    by_first : (o : Option Form) → first_form words all_forms ≡ o → of_version v o ≡ Some form → WasFound v words form
    by_first None is e = absurd (cc e)
    by_first (Some other) is e = by_version (has_form v other) other is refl e

some_form : (a b : Form) → ◌≡◌ {A = Option Form} (Some a) (Some b) → a ≡ b
some_form a b e = cc e

-- so the first word is the form's, and the second where the form has two

first_is : (words : List Word) (form : Form) → opens words form ≡ true → word_at words 0 ≡ word_at (keywords form) 0
first_is words form e = same_bytes (word_at words 0) (word_at (keywords form) 0) (first_true (stands words 0 (word_at (keywords form) 0)) _ e)

second_is : (words : List Word) (form : Form) → is_word (word_at (keywords form) 1) ≡ true → opens words form ≡ true → word_at words 1 ≡ word_at (keywords form) 1
second_is words form some e =
    same_bytes (word_at words 1) (word_at (keywords form) 1)
    (by_test (is_word (word_at (keywords form) 1)) _ some (second_true (stands words 0 (word_at (keywords form) 0)) _ e))
  where
    by_test : (b c : Bool) → b ≡ true → (not b || c) ≡ true → c ≡ true
    by_test true c is e = e
    by_test false c is e = absurd (cc is)

-- numbers

number_was : (word : Word) (z : ℤ) → signed_figure word ≡ Ok z → IsNumberWritten z word
number_was word z e = number_read z word (figure_some (signed_in word) z e)

minute_was : (last : ℕ) (word : Word) (n : ℕ) → minute_in last word ≡ Ok n → IsWritten last n word
minute_was last word n e = natural_read last n word (figure_some (natural_in last word) n e)

pub record CountWas (n : ℕ) (word : Word) : Type 0 where
  pub word_is : word ≡ decimal n
  pub count : IsWordCount n

count_was : (word : Word) (n : ℕ) → count_in word ≡ Ok n → CountWas n word
count_was word n e =
    let was = natural_read 18446744073709551615 n word (figure_some (natural_in 18446744073709551615 word) n e) in
    record { word_is = was.word_is; count = omega (arith, was.within) }

record DayWas (days n : ℕ) (word : Word) : Type 0 where
  some : 1 ≤ n
  within : n ≤ days
  word_is : word ≡ decimal n

some_was : (days : ℕ) (word : Word) (o : Option ℕ) (n : ℕ) → natural_in days word ≡ o → some_day o ≡ Some n → DayWas days n word
some_was days word None n is e = absurd (cc e)
some_was days word (Some zero) n is e = absurd (cc e)
some_was days word (Some (suc m)) n is e =
    let was = natural_read days (suc m) word is in
    let same : suc m ≡ n = cc e in
    subst (λ n. DayWas days n word) same (record { some = omega arith; within = was.within; word_is = was.word_is })

day_was : (days : ℕ) (word : Word) (n : ℕ) → day_in days word ≡ Ok n → DayWas days n word
day_was days word n e = some_was days word (natural_in days word) n refl (figure_some (some_day (natural_in days word)) n e)

version_was : (word : Word) (v : Version) → version_in word ≡ Ok v → word ≡ version_word v
version_was word v e = by_one (bytes_eq word (version_word version.One)) refl e
  where
    by_three : (b : Bool) → bytes_eq word (version_word version.Three) ≡ b → cond b (Ok version.Three) (Err flaw.Number) ≡ Ok v → word ≡ version_word v
    by_three true is e = let same : version.Three ≡ v = cc e in subst (λ v. word ≡ version_word v) same (same_bytes word (version_word version.Three) is)
    by_three false is e = absurd (cc e)

    by_two : (b : Bool) → bytes_eq word (version_word version.Two) ≡ b → cond b (Ok version.Two) (cond (bytes_eq word (version_word version.Three)) (Ok version.Three) (Err flaw.Number)) ≡ Ok v → word ≡ version_word v
    by_two true is e = let same : version.Two ≡ v = cc e in subst (λ v. word ≡ version_word v) same (same_bytes word (version_word version.Two) is)
    by_two false is e = by_three (bytes_eq word (version_word version.Three)) refl e

    by_one : (b : Bool) → bytes_eq word (version_word version.One) ≡ b
        → cond b (Ok version.One) (cond (bytes_eq word (version_word version.Two)) (Ok version.Two) (cond (bytes_eq word (version_word version.Three)) (Ok version.Three) (Err flaw.Number))) ≡ Ok v
        → word ≡ version_word v
    by_one true is e = let same : version.One ≡ v = cc e in subst (λ v. word ≡ version_word v) same (same_bytes word (version_word version.One) is)
    by_one false is e = by_two (bytes_eq word (version_word version.Two)) refl e

-- the words are those of a line of the tables
pub record AreWordsOf (t : Tables) (words : List Word) (line : Line) : Type 0 where
  pub is : words ≡ line_words t line
  pub of_tables : IsLineOf t line

module _ (v : Version) (t : Tables) (words : List Word) (it : Line) where
  head_was : opens words form.Head ≡ true → length words ≡ 3 → form_line (names_in v t) form.Head words ≡ Ok it → AreWordsOf t words it
  unfolding form_line
  head_was told many e =
      let made = made_by _ (version_in (word_at words 2)) it e in
      let version = version_was (word_at words 2) made.value made.is in
      subst (AreWordsOf t words) made.line_is (record {
        is = three_words words many ∙ (λ i. first_is words form.Head told i ∷ second_is words form.Head refl told i ∷ version i ∷ []);
        of_tables = record { named = tt; figures = tt };
      })

  plan_yes_was : opens words form.PlanYes ≡ true → length words ≡ 2 → form_line (names_in v t) form.PlanYes words ≡ Ok it → AreWordsOf t words it
  unfolding form_line
  plan_yes_was told many e =
      let same : line.Plan true ≡ it = cc e in
      subst (AreWordsOf t words) same (record { is = two_words words many ∙ (λ i. first_is words form.PlanYes told i ∷ second_is words form.PlanYes refl told i ∷ []); of_tables = record { named = tt; figures = tt } })

  plan_no_was : opens words form.PlanNo ≡ true → length words ≡ 2 → form_line (names_in v t) form.PlanNo words ≡ Ok it → AreWordsOf t words it
  unfolding form_line
  plan_no_was told many e =
      let same : line.Plan false ≡ it = cc e in
      subst (AreWordsOf t words) same (record { is = two_words words many ∙ (λ i. first_is words form.PlanNo told i ∷ second_is words form.PlanNo refl told i ∷ []); of_tables = record { named = tt; figures = tt } })

  bare_was : opens words form.Bare ≡ true → length words ≡ 2 → form_line (names_in v t) form.Bare words ≡ Ok it → AreWordsOf t words it
  unfolding form_line
  bare_was told many e =
      let made = made_by _ (leg_in (names_in v t) (word_at words 1)) it e in
      let leg = leg_read v t (word_at words 1) made.value made.is in
      subst (AreWordsOf t words) made.line_is (record { is = two_words words many ∙ (λ i. first_is words form.Bare told i ∷ leg.is i ∷ []); of_tables = record { named = leg.known; figures = tt } })

  sole_was : opens words form.Sole ≡ true → length words ≡ 1 → form_line (names_in v t) form.Sole words ≡ Ok it → AreWordsOf t words it
  unfolding form_line
  sole_was told many e =
      let same : line.Sole ≡ it = cc e in
      subst (AreWordsOf t words) same (record { is = one_word words many ∙ (λ i. first_is words form.Sole told i ∷ []); of_tables = record { named = tt; figures = tt } })

  refuted_was : opens words form.Refuted ≡ true → length words ≡ 1 → form_line (names_in v t) form.Refuted words ≡ Ok it → AreWordsOf t words it
  unfolding form_line
  refuted_was told many e =
      let same : line.Refuted ≡ it = cc e in
      subst (AreWordsOf t words) same (record { is = one_word words many ∙ (λ i. first_is words form.Refuted told i ∷ []); of_tables = record { named = tt; figures = tt } })

  priced_was : opens words form.Priced ≡ true → length words ≡ 1 → form_line (names_in v t) form.Priced words ≡ Ok it → AreWordsOf t words it
  unfolding form_line
  priced_was told many e =
      let same : line.Priced ≡ it = cc e in
      subst (AreWordsOf t words) same (record { is = one_word words many ∙ (λ i. first_is words form.Priced told i ∷ []); of_tables = record { named = tt; figures = tt } })

  nodes_was : opens words form.OpenNodes ≡ true → length words ≡ 2 → form_line (names_in v t) form.OpenNodes words ≡ Ok it → AreWordsOf t words it
  unfolding form_line
  nodes_was told many e =
      let same : line.OpenNodes ≡ it = cc e in
      subst (AreWordsOf t words) same (record { is = two_words words many ∙ (λ i. first_is words form.OpenNodes told i ∷ second_is words form.OpenNodes refl told i ∷ []); of_tables = record { named = tt; figures = tt } })

  pivots_was : opens words form.OpenPivots ≡ true → length words ≡ 3 → form_line (names_in v t) form.OpenPivots words ≡ Ok it → AreWordsOf t words it
  unfolding form_line
  pivots_was told many e =
      let made = made_by _ (count_in (word_at words 2)) it e in
      let count = count_was (word_at words 2) made.value made.is in
      subst (AreWordsOf t words) made.line_is (record { is = three_words words many ∙ (λ i. first_is words form.OpenPivots told i ∷ second_is words form.OpenPivots refl told i ∷ count.word_is i ∷ []); of_tables = record { named = tt; figures = count.count } })

  grew_was : opens words form.OpenGrew ≡ true → length words ≡ 5 → form_line (names_in v t) form.OpenGrew words ≡ Ok it → AreWordsOf t words it
  unfolding form_line
  grew_was told many e =
      let made = made_by _ (both (both (count_in (word_at words 2)) (count_in (word_at words 3))) (count_in (word_at words 4))) it e in
      let read = both_read (both (count_in (word_at words 2)) (count_in (word_at words 3))) (count_in (word_at words 4)) made.value made.is in
      let counts = both_read (count_in (word_at words 2)) (count_in (word_at words 3)) made.value.0 read.first in
      let pivots = count_was (word_at words 2) made.value.0.0 counts.first in
      let row = count_was (word_at words 3) made.value.0.1 counts.second in
      let column = count_was (word_at words 4) made.value.1 read.second in
      subst (AreWordsOf t words) made.line_is (record { is = five_words words many ∙ (λ i. first_is words form.OpenGrew told i ∷ second_is words form.OpenGrew refl told i ∷ pivots.word_is i ∷ row.word_is i ∷ column.word_is i ∷ []); of_tables = record { named = tt; figures = (pivots.count, row.count, column.count) } })

  lift_was : opens words form.OpenLift ≡ true → length words ≡ 4 → form_line (names_in v t) form.OpenLift words ≡ Ok it → AreWordsOf t words it
  unfolding form_line
  lift_was told many e =
      let made = made_by _ (both (count_in (word_at words 2)) (count_in (word_at words 3))) it e in
      let counts = both_read (count_in (word_at words 2)) (count_in (word_at words 3)) made.value made.is in
      let step = count_was (word_at words 2) made.value.0 counts.first in
      let at = count_was (word_at words 3) made.value.1 counts.second in
      subst (AreWordsOf t words) made.line_is (record { is = four_words words many ∙ (λ i. first_is words form.OpenLift told i ∷ second_is words form.OpenLift refl told i ∷ step.word_is i ∷ at.word_is i ∷ []); of_tables = record { named = tt; figures = (step.count, at.count) } })

  trim_was : opens words form.Trim ≡ true → length words ≡ pair_end t.windows → form_line (names_in v t) form.Trim words ≡ Ok it → AreWordsOf t words it
  unfolding form_line
  trim_was told many e =
      let made = made_by _ (pair_told (names_in v t) words) it e in
      let pair = pair_read v t (word_at words 1) (word_at words 2) (word_at words 3) made.value made.is in
      subst (AreWordsOf t words) made.line_is (record { is = pair_alone t.windows words many ∙ (λ i. first_is words form.Trim told i ∷ pair.leg_is i ∷ pair.flier_is i ∷ (pair.shift_is i ++ [])); of_tables = record { named = pair.known; figures = tt } })

  split_was : opens words form.Split ≡ true → length words ≡ pair_end t.windows → form_line (names_in v t) form.Split words ≡ Ok it → AreWordsOf t words it
  unfolding form_line
  split_was told many e =
      let made = made_by _ (pair_told (names_in v t) words) it e in
      let pair = pair_read v t (word_at words 1) (word_at words 2) (word_at words 3) made.value made.is in
      subst (AreWordsOf t words) made.line_is (record { is = pair_alone t.windows words many ∙ (λ i. first_is words form.Split told i ∷ pair.leg_is i ∷ pair.flier_is i ∷ (pair.shift_is i ++ [])); of_tables = record { named = pair.known; figures = tt } })

  scale_was : opens words form.Scale ≡ true → length words ≡ 2 → form_line (names_in v t) form.Scale words ≡ Ok it → AreWordsOf t words it
  unfolding form_line
  scale_was told many e =
      let made = made_by _ (signed_figure (word_at words 1)) it e in
      let number = number_was (word_at words 1) made.value made.is in
      subst (AreWordsOf t words) made.line_is (record { is = two_words words many ∙ (λ i. first_is words form.Scale told i ∷ number.word_is i ∷ []); of_tables = record { named = tt; figures = number.figure } })

  mixed_was : opens words form.Mixed ≡ true → length words ≡ 2 → form_line (names_in v t) form.Mixed words ≡ Ok it → AreWordsOf t words it
  unfolding form_line
  mixed_was told many e =
      let made = made_by _ (signed_figure (word_at words 1)) it e in
      let number = number_was (word_at words 1) made.value made.is in
      subst (AreWordsOf t words) made.line_is (record { is = two_words words many ∙ (λ i. first_is words form.Mixed told i ∷ number.word_is i ∷ []); of_tables = record { named = tt; figures = number.figure } })

  rent_was : opens words form.Rent ≡ true → length words ≡ 3 → form_line (names_in v t) form.Rent words ≡ Ok it → AreWordsOf t words it
  unfolding form_line
  rent_was told many e =
      let made = made_by _ (both (fleet_in (names_in v t) (word_at words 1)) (signed_figure (word_at words 2))) it e in
      let entry = both_read (fleet_in (names_in v t) (word_at words 1)) (signed_figure (word_at words 2)) made.value made.is in
      let fleet = fleet_read v t (word_at words 1) made.value.0 entry.first in
      let rent = number_was (word_at words 2) made.value.1 entry.second in
      subst (AreWordsOf t words) made.line_is (record { is = three_words words many ∙ (λ i. first_is words form.Rent told i ∷ fleet.is i ∷ rent.word_is i ∷ []); of_tables = record { named = fleet.known; figures = rent.figure } })

  charge_was : opens words form.Charge ≡ true → length words ≡ 4 → form_line (names_in v t) form.Charge words ≡ Ok it → AreWordsOf t words it
  unfolding form_line
  charge_was told many e =
      let made = made_by _ (both (station_in (names_in v t) (word_at words 1)) (both (day_in (days_in t) (word_at words 2)) (signed_figure (word_at words 3)))) it e in
      let read = both_read (station_in (names_in v t) (word_at words 1)) (both (day_in (days_in t) (word_at words 2)) (signed_figure (word_at words 3))) made.value made.is in
      let figures = both_read (day_in (days_in t) (word_at words 2)) (signed_figure (word_at words 3)) made.value.1 read.second in
      let station = station_read v t (word_at words 1) made.value.0 read.first in
      let day = day_was (days_in t) (word_at words 2) made.value.1.0 figures.first in
      let number = number_was (word_at words 3) made.value.1.1 figures.second in
      subst (AreWordsOf t words) made.line_is (record { is = four_words words many ∙ (λ i. first_is words form.Charge told i ∷ station.is i ∷ day.word_is i ∷ number.word_is i ∷ []); of_tables = record { named = station.known; figures = (day.some, day.within, number.figure) } })

  at_was : opens words form.At ≡ true → length words ≡ 5 → form_line (names_in v t) form.At words ≡ Ok it → AreWordsOf t words it
  unfolding form_line
  at_was told many e =
      let made = made_by _ (both (both (fleet_in (names_in v t) (word_at words 1)) (station_in (names_in v t) (word_at words 2))) (both (minute_in (last_of t) (word_at words 3)) (signed_figure (word_at words 4)))) it e in
      let read = both_read (both (fleet_in (names_in v t) (word_at words 1)) (station_in (names_in v t) (word_at words 2))) (both (minute_in (last_of t) (word_at words 3)) (signed_figure (word_at words 4))) made.value made.is in
      let place = both_read (fleet_in (names_in v t) (word_at words 1)) (station_in (names_in v t) (word_at words 2)) made.value.0 read.first in
      let figures = both_read (minute_in (last_of t) (word_at words 3)) (signed_figure (word_at words 4)) made.value.1 read.second in
      let fleet = fleet_read v t (word_at words 1) made.value.0.0 place.first in
      let station = station_read v t (word_at words 2) made.value.0.1 place.second in
      let minute = minute_was (last_of t) (word_at words 3) made.value.1.0 figures.first in
      let number = number_was (word_at words 4) made.value.1.1 figures.second in
      subst (AreWordsOf t words) made.line_is (record { is = five_words words many ∙ (λ i. first_is words form.At told i ∷ fleet.is i ∷ station.is i ∷ minute.word_is i ∷ number.word_is i ∷ []); of_tables = record { named = (fleet.known, station.known); figures = (minute.within, number.figure) } })

  weight_was : opens words form.Weight ≡ true → length words ≡ pair_end t.windows + 1 → form_line (names_in v t) form.Weight words ≡ Ok it → AreWordsOf t words it
  unfolding form_line
  weight_was told many e =
      let made = made_by _ (both (pair_told (names_in v t) words) (signed_figure (word_at words (pair_end t.windows)))) it e in
      let read = both_read (pair_told (names_in v t) words) (signed_figure (word_at words (pair_end t.windows))) made.value made.is in
      let pair = pair_read v t (word_at words 1) (word_at words 2) (word_at words 3) made.value.0 read.first in
      let number = number_was (word_at words (pair_end t.windows)) made.value.1 read.second in
      subst (AreWordsOf t words) made.line_is (record { is = pair_before t.windows words many ∙ (λ i. first_is words form.Weight told i ∷ pair.leg_is i ∷ pair.flier_is i ∷ (pair.shift_is i ++ number.word_is i ∷ [])); of_tables = record { named = pair.known; figures = number.figure } })

  end_was : opens words form.End ≡ true → length words ≡ 1 → form_line (names_in v t) form.End words ≡ Ok it → AreWordsOf t words it
  unfolding form_line
  end_was told many e =
      let same : line.End ≡ it = cc e in
      subst (AreWordsOf t words) same (record { is = one_word words many ∙ (λ i. first_is words form.End told i ∷ []); of_tables = record { named = tt; figures = tt } })

  words_were : (form : Form) → opens words form ≡ true → length words ≡ width t.windows form → form_line (names_in v t) form words ≡ Ok it → AreWordsOf t words it
  words_were form.Head = head_was
  words_were form.PlanYes = plan_yes_was
  words_were form.PlanNo = plan_no_was
  words_were form.Bare = bare_was
  words_were form.Sole = sole_was
  words_were form.Refuted = refuted_was
  words_were form.Priced = priced_was
  words_were form.OpenNodes = nodes_was
  words_were form.OpenPivots = pivots_was
  words_were form.OpenGrew = grew_was
  words_were form.OpenLift = lift_was
  words_were form.Trim = trim_was
  words_were form.Split = split_was
  words_were form.Scale = scale_was
  words_were form.Rent = rent_was
  words_were form.Charge = charge_was
  words_were form.At = at_was
  words_were form.Mixed = mixed_was
  words_were form.Weight = weight_was
  words_were form.End = end_was

pub written_as_read : (v : Version) (t : Tables) (bytes : List ℕ) (line : Line) → line_in (names_in v t) bytes ≡ Ok line → AreBytesOf v t bytes line
unfolding line_in
written_as_read v t bytes line e = by_form (form_in v words) refl (chose (is_plain bytes) _ flaw.Byte line e).is
  where
    words : List Word
    words = words_of bytes

    parts : ℕ
    parts = length (parts_of bytes)

    by_form : (o : Option Form) → form_in v words ≡ o → of_form (names_in v t) parts words o ≡ Ok line → AreBytesOf v t bytes line
    by_form None told e = absurd (cc e)
    by_form (Some form) told e =
        let wide = chose ((length words == parts) && (length words == width t.windows form)) _ flaw.Width line e in
        let spaced = first_true (length words == parts) (length words == width t.windows form) wide.test in
        let many : length words ≡ width t.windows form = grind (arith, nat_tests, second_true (length words == parts) (length words == width t.windows form) wide.test) in
        let first = was_found v words form told in
        let were = words_were v t words line form (found words all_forms form first.first) many wide.is in
        let same : form ≡ form_of line = some_form form (form_of line) (sym first.first ∙ ap (λ words. first_form words all_forms) were.is ∙ first_told t line) in
        record {
          is = line_back bytes spaced ∙ ap joined were.is;
          of_tables = were.of_tables;
          of_version = subst (λ f. has_form v f ≡ true) same first.of_version;
        }
