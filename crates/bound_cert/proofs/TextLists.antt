-- Lists of steps, weights and rents that are read: they are in written order, and their lines are those that are read.
use Rattle.bound_cert.proofs.ReadBack.{either_way, goes, ok_same}
use Rattle.bound_cert.proofs.ReadOn.{begins}
use Rattle.bound_cert.proofs.TextLines.{LineIs}
use Rattle.bound_cert.proofs.TextPrices.{charge_was, mixed_scale_was, rent_was, scale_was, step_was, weight_was}
use Rattle.bound_cert.proofs.WrittenLines.{names, other_words, texts, texts_append}
use Rattle.bound_cert.proofs.WrittenPrices.{ChargesKeep, StepsKeep, WeightsKeep, fleet_count, lines_from, lines_with, lines_without, needed_by, of_step}
use Rattle.bound_cert.specs.Lines.{Left, Reading, fits}
use Rattle.bound_cert.specs.ProofText.{ArePricesIn, at_line, charge_line, mixed_lines, price_lines, rent_lines, weight_line}
use Rattle.bound_cert.specs.Reading.{charge_in_line, charges_from, entries_from, first_words, listed, mixed_said, mixed_scale_at, padded, prices_said, rent_at, rents_from, said_at, scale_at, step_in_line, steps_from, weight_of, weights_from}
use Rattle.bound_cert.specs.declared.reading_lines.Due.{Due}
use Rattle.dual_bound.proofs.StepOrder.{same_place_by, zero_figure}
use Rattle.dual_bound.specs.Prices.{rent_of}
use Rattle.dual_bound.specs.WrittenOrder.{ArePricesInOrder, IsChargeInOrder, IsFigure, IsMixedInOrder, IsStepInOrder, IsWeightInOrder, goes_on}
use Rattle.dual_bound.specs.declared.mixed.Mixed.{Mixed}
use Rattle.dual_bound.specs.declared.mixed.Weight.{Weight}
use Rattle.dual_bound.specs.declared.prices.Charge.{Charge}
use Rattle.dual_bound.specs.declared.prices.PriceStep.{PriceStep}
use Rattle.dual_bound.specs.declared.prices.Prices.{Prices}
use Rattle.fleet_model.specs.Schedule.{fleets_in}
use Rattle.fleet_model.specs.declared.tables.Tables.{Tables}
use Rattle.proof_lines.specs.declared.line.Line.{Line}
use Rattle.proof_lines.specs.declared.line.Version.{Version}
use Rattle.proof_lines.proofs.LineWords.{of_words}
use Rattle.proof_lines.proofs.Naming.{fleet_written, station_written}
use Rattle.proof_lines.proofs.Spaces.{words_back}
use Rattle.proof_lines.specs.Forms.{form_in}
use Rattle.proof_lines.specs.LineText.{line_bytes, line_words}
use Rattle.proof_lines.specs.Reading.{is_number, is_step_of}
use Rattle.proof_lines.specs.Words.{stands, words_of}
use Rattle.std.proofs.Common.{[], ◌&&◌, ◌++◌, ◌+◌, ◌-◌, ◌<◌, ◌==◌, ◌∙◌, ◌∷◌, ◌≡◌, ◌≤◌, Bool, List, None, Ok, Option, Some, ap, append-nil, append_assoc, arith, codes, drop, false, get_or, length, map, pos, refl, replicate, subst, suc, sym, true, zero, ℕ, ℤ}
use mathlib.Core.Bool.{false≢true}
use Rattle.std.proofs.lemmas.Bool.Decides.{Decides-int_eq, nat_tests}
use Rattle.std.proofs.lemmas.List.Elements.{All-append, All-cons, All-head, All-nil}
use Rattle.std.proofs.lemmas.List.{length-append}
use Rattle.std.specs.Ordering.{int_eq}
use Rattle.std.specs.Prelude.{All}
use Rattle.bound_cert.specs.declared.reading_lines.Due.TheVariants as due
use Rattle.proof_lines.specs.declared.line.Line.TheVariants as says

module _ (v : Version) (t : Tables) where
  -- entries of a kind: how a line says one behind the entry before, the line of one, and what a list of them keeps
  module _ {A : Type 0} (kind : Due) (say : Option A → Line → Left → Reading A) (line_of : A → Line) (Keeps : Option A → List A → Type 0) (no_entry : (before : Option A) → Keeps before [])
      (one_more : (before : Option A) (line : List ℕ) (rest behind : Left) (entry : A) (new : List A) → said_at (names v t) kind (say before) (line ∷ rest) ≡ Ok entry → rest ≡ texts t (map line_of new) ++ behind
      → (new ≡ [] → begins v rest kind ≡ false) → Keeps (Some entry) new → (line ∷ rest ≡ line_bytes t (line_of entry) ∷ rest) × Keeps before (entry ∷ new)) where
    -- what is read behind entries that are known
    record MoreWere (done : List A) (before : Option A) (left : Left) (read : List A × Left) : Type 0 where
      new : List A
      list : read.0 ≡ done ++ new
      text : left ≡ texts t (map line_of new) ++ read.1
      ends : new ≡ [] → begins v left kind ≡ false
      keeps : Keeps before new

    no_more : (done : List A) (before : Option A) (left : Left) (read : List A × Left) → begins v left kind ≡ false → ◌≡◌ {A = Reading (List A × Left)} (Ok (done, left)) (Ok read) → MoreWere done before left read
    no_more done before left read off e =
        subst (λ r. MoreWere done before left r) (ok_same (done, left) read e) (record { new = []; list = sym (append-nil done); text = refl; ends = λ none. off; keeps = no_entry before })

    more_were : (left : Left) (done : List A) (before : Option A) (read : List A × Left) → entries_from (listed (names v t) kind say) (done, before) left ≡ Ok read → MoreWere done before left read
    unfolding entries_from
    more_were [] done before read e = no_more done before [] read refl e
    more_were (line ∷ rest) done before read e =
        either_way (fits kind (form_in v (words_of line))) _ _ read e
        (λ at e.
        let entry = goes (said_at (names v t) kind (say before) (line ∷ rest)) _ read e in
        let more = more_were rest (done ++ entry.value ∷ []) (Some entry.value) read entry.on in
        let with_it = one_more before line rest read.1 entry.value more.new entry.is more.text more.ends more.keeps in
        record {
          new = entry.value ∷ more.new;
          list = more.list ∙ append_assoc done (entry.value ∷ []) more.new;
          text = with_it.0 ∙ ap (λ rest. line_bytes t (line_of entry.value) ∷ rest) more.text;
          ends = λ none. absurd (cc none);
          keeps = with_it.1;
        })
        (λ off e. no_more done before (line ∷ rest) read off e)

    -- all that are read
    entries_were : (left : Left) (read : List A × Left) → entries_from (listed (names v t) kind say) ([], None) left ≡ Ok read → (left ≡ texts t (map line_of read.0) ++ read.1) × Keeps None read.0
    entries_were left read e =
        let are = more_were left [] None read e in
        subst (λ entries. (left ≡ texts t (map line_of entries) ++ read.1) × Keeps None entries) (sym are.list) (are.text, are.keeps)

  -- steps

  three_tests : (a b c : Bool) → (a && b && c) ≡ true → (b ≡ true) × (c ≡ true)
  three_tests true true true e = (refl, refl)
  three_tests true true false e = absurd (cc e)
  three_tests true false c e = absurd (cc e)
  three_tests false b c e = absurd (cc e)

  -- where the next line goes on at the place of a step, so does the next step
  goes_on_by : (step : PriceStep) (new : List PriceStep) (rest behind : Left) → IsStepInOrder t step → All (IsStepInOrder t) new → rest ≡ texts t (map at_line new) ++ behind
      → (new ≡ [] → begins v rest due.Step ≡ false) → is_step_of (names v t) step.fleet step.station (first_words rest) ≡ true → goes_on step new ≡ true
  goes_on_by step [] rest behind is are text ends on =
      absurd (by_test (stands (first_words rest) 0 (codes "at")) _ _ on (other_words v rest (ends refl)))
    where
      by_test : (a b c : Bool) → (a && b && c) ≡ true → a ≡ false → ⊥
      by_test true b c e off = cc off
      by_test false b c e off = cc e
  goes_on_by step (next ∷ new) rest behind is are text ends on =
      let of = of_step t next (All-head (IsStepInOrder t) next new are) in
      let words : first_words rest ≡ line_words t (at_line next) = ap first_words text ∙ words_back (line_words t (at_line next)) (of_words t (at_line next) (of.fleet, of.station)) in
      let tests = three_tests (stands (line_words t (at_line next)) 0 (codes "at")) _ _ (ap (λ w. is_step_of (names v t) step.fleet step.station w) (sym words) ∙ on) in
      let fleet : (next.fleet == step.fleet) ≡ true = ap (λ r. is_number r step.fleet) (sym (fleet_written v t next.fleet of.fleet)) ∙ tests.0 in
      let station : (next.station == step.station) ≡ true = ap (λ r. is_number r step.station) (sym (station_written v t next.station of.station)) ∙ tests.1 in
      same_place_by step next (grind (arith, nat_tests, fleet)) (grind (arith, nat_tests, station))

  steps_were : (left : Left) (read : List PriceStep × Left) → steps_from (names v t) [] None left ≡ Ok read → (left ≡ texts t (map at_line read.0) ++ read.1) × StepsKeep v t None read.0
  steps_were = entries_were due.Step (step_in_line (names v t)) at_line (StepsKeep v t) (λ before. record { each = All-nil (IsStepInOrder t); follow = tt; no_lone_zero = tt })
      (λ before line rest behind step new is text ends keep.
      let was = step_was v t before (line ∷ rest) step is in
      let needed = needed_by v t (step.minute == 0) (int_eq step.value (pos 0)) (is_step_of (names v t) step.fleet step.station (first_words rest)) (goes_on step new) was.needed
      (goes_on_by step new rest behind was.order keep.each text ends) in
      (was.line_is.is, record { each = All-cons (IsStepInOrder t) step new was.order keep.each; follow = (was.follows, keep.follow); no_lone_zero = (needed, keep.no_lone_zero) }))

  -- charges, of which there are none in a version without lines for them

  charges_were : (left : Left) (read : List Charge × Left) → charges_from (names v t) [] None left ≡ Ok read → (left ≡ texts t (map charge_line read.0) ++ read.1) × ChargesKeep v t None read.0
  charges_were = entries_were due.Charge charge_in_line charge_line (ChargesKeep v t) (λ before. record { each = All-nil (IsChargeInOrder t); follow = tt; tells = λ off. refl })
      (λ before line rest behind entry new is text ends keep.
      let was = charge_was v t before (line ∷ rest) entry is in
      let of = was.line_is.of_tables in
      let order : IsChargeInOrder t entry = record { station = of.named; some = of.figures.0; day = of.figures.1; charge = of.figures.2 } in
      (was.line_is.is, record { each = All-cons (IsChargeInOrder t) entry new order keep.each; follow = (was.holds, keep.follow); tells = λ off. absurd (false≢true (sym off ∙ was.line_is.of_version)) }))

  -- weights

  weights_were : (left : Left) (read : List Weight × Left) → weights_from (names v t) [] None left ≡ Ok read → (left ≡ texts t (map weight_line read.0) ++ read.1) × WeightsKeep v t None read.0
  weights_were = entries_were due.Weight weight_of weight_line (WeightsKeep v t) (λ before. record { each = All-nil (IsWeightInOrder t); follow = tt })
      (λ before line rest behind entry new is text ends keep.
      let was = weight_was v t before (line ∷ rest) entry is in
      let order : IsWeightInOrder t entry = record { pair = was.line_is.of_tables.named; weight = was.line_is.of_tables.figures } in
      (was.line_is.is, record { each = All-cons (IsWeightInOrder t) entry new order keep.each; follow = (was.holds, keep.follow) }))

  -- rents

  zeros : (k i : ℕ) → get_or (replicate k (pos 0)) i (pos 0) ≡ pos 0
  zeros zero i = refl
  zeros (suc k) zero = refl
  zeros (suc k) (suc i) = zeros k i

  -- behind a list, a list of 0 has 0
  behind_zeros : (done : List ℤ) (k i : ℕ) → length done ≤ i → get_or (done ++ replicate k (pos 0)) i (pos 0) ≡ pos 0
  behind_zeros [] k i later = zeros k i
  behind_zeros (z ∷ done) k zero later = absurd (omega (arith, later))
  behind_zeros (z ∷ done) k (suc i) later = behind_zeros done k i (omega (arith, later))

  before_last : (done : List ℤ) (z : ℤ) (i : ℕ) → i < length done → get_or (done ++ z ∷ []) i (pos 0) ≡ get_or done i (pos 0)
  before_last [] z i within = absurd (omega (arith, within))
  before_last (y ∷ done) z zero within = refl
  before_last (y ∷ done) z (suc i) within = before_last done z i (omega (arith, within))

  at_last : (done : List ℤ) (z : ℤ) → get_or (done ++ z ∷ []) (length done) (pos 0) ≡ z
  at_last [] z = refl
  at_last (y ∷ done) z = at_last done z

  padded_len : (done : List ℤ) (n : ℕ) → length done ≤ n → length (padded done n) ≡ n
  padded_len done n few = length-append done (replicate (n - length done) (pos 0)) ∙ ap (λ k. length done + k) (replicate_len (n - length done)) ∙ omega (arith, few)
    where
      replicate_len : (k : ℕ) → length (replicate k (pos 0)) ≡ k
      replicate_len zero = refl
      replicate_len (suc k) = ap suc (replicate_len k)

  -- the fleets from a first one on up to another have no lines, where their rents are 0
  no_lines : (prices : Prices) (k first n : ℕ) → ((f : ℕ) → first ≤ f → f < first + k → rent_of prices f ≡ pos 0) → lines_from v t prices first (k + n) ≡ lines_from v t prices (first + k) n
  no_lines prices zero first n zeros =
      let all : zero + n ≡ n = omega arith in
      let here : first ≡ first + 0 = omega arith in
      ap (λ m. lines_from v t prices first m) all ∙ ap (λ f. lines_from v t prices f n) here
  no_lines prices (suc k) first n zeros =
      let all : suc k + n ≡ suc (k + n) = omega arith in
      let there : first + 1 + k ≡ first + suc k = omega arith in
      ap (λ m. lines_from v t prices first m) all
      ∙ lines_without v t prices first (k + n) ((Decides-int_eq (rent_of prices first) (pos 0)).1 (zeros first (omega arith) (omega arith)))
      ∙ no_lines prices k (first + 1) n (λ f later before. zeros f (omega (arith, later)) (omega (arith, before)))
      ∙ ap (λ f. lines_from v t prices f n) there

  no_lines_at_all : (prices : Prices) (first k : ℕ) → ((f : ℕ) → first ≤ f → f < first + k → rent_of prices f ≡ pos 0) → lines_from v t prices first k ≡ []
  unfolding lines_from
  no_lines_at_all prices first k zeros =
      let all : k ≡ k + 0 = omega arith in
      ap (λ m. lines_from v t prices first m) all ∙ no_lines prices k first 0 zeros

  -- what is read behind rents that are known: the rents begin with these, and the others' lines are those that are read
  pub record RentsWere (done : List ℤ) (left : Left) (read : List ℤ × Left) : Type 0 where
    pub one_each : length read.0 ≡ fleets_in t
    pub figures : All IsFigure read.0
    pub begun : (i : ℕ) → i < length done → get_or read.0 i (pos 0) ≡ get_or done i (pos 0)
    pub text : (prices : Prices) → prices.rents ≡ read.0 → left ≡ texts t (lines_from v t prices (length done) (fleets_in t - length done)) ++ read.1

  padded_figures : (done : List ℤ) (n : ℕ) → All IsFigure done → All IsFigure (padded done n)
  padded_figures done n are = All-append IsFigure done (replicate (n - length done) (pos 0)) are (zeros_are (n - length done))
    where
      zeros_are : (k : ℕ) → All IsFigure (replicate k (pos 0))
      zeros_are zero = All-nil IsFigure
      zeros_are (suc k) = All-cons IsFigure (pos 0) (replicate k (pos 0)) zero_figure (zeros_are k)

  front_of : (done : List ℤ) (k i : ℕ) → i < length done → get_or (done ++ replicate k (pos 0)) i (pos 0) ≡ get_or done i (pos 0)
  front_of [] k i within = absurd (omega (arith, within))
  front_of (z ∷ done) k zero within = refl
  front_of (z ∷ done) k (suc i) within = front_of done k i (omega (arith, within))

  -- no rent more
  none_more : (done : List ℤ) (left : Left) → All IsFigure done → length done ≤ fleets_in t → RentsWere done left (padded done (fleets_in t), left)
  none_more done left are few =
      let missing = fleets_in t - length done in
      record {
        one_each = padded_len done (fleets_in t) few;
        figures = padded_figures done (fleets_in t) are;
        begun = λ i within. front_of done missing i within;
        text = λ prices is.
            ap (λ lines. texts t lines ++ left)
            (sym (no_lines_at_all prices (length done) missing (λ f later before. ap (λ rents. get_or rents f (pos 0)) is ∙ behind_zeros done missing f later)));
      }

  -- one rent more
  one_more : (done : List ℤ) (left rest : Left) (f : ℕ) (z : ℤ) (read : List ℤ × Left) → length done ≤ f → f < fleets_in t → int_eq z (pos 0) ≡ false → left ≡ line_bytes t (says.Rent f z) ∷ rest
      → RentsWere (padded done f ++ z ∷ []) rest read → RentsWere done left read
  one_more done left rest f z read later fleet not_0 line more =
      let grown : List ℤ = padded done f ++ z ∷ [] in
      let padded_is : length (padded done f) ≡ f = padded_len done f later in
      let grown_len : length grown ≡ f + 1 = length-append (padded done f) (z ∷ []) ∙ ap (λ n. n + 1) padded_is in
      let missing = f - length done in
      let behind = fleets_in t - (f + 1) in
      record {
        one_each = more.one_each;
        figures = more.figures;
        begun = λ i within.
            more.begun i (omega (arith, within, grown_len, later)) ∙ before_last (padded done f) z i (omega (arith, within, padded_is, later)) ∙ front_of done missing i within;
        text = λ prices is.
            let rent_is : rent_of prices f ≡ z =
            ap (λ rents. get_or rents f (pos 0)) is ∙ more.begun f (omega (arith, grown_len)) ∙ ap (λ i. get_or grown i (pos 0)) (sym padded_is) ∙ at_last (padded done f) z in
            let zeros_are : (i : ℕ) → length done ≤ i → i < length done + missing → rent_of prices i ≡ pos 0 =
            λ i from before.
            ap (λ rents. get_or rents i (pos 0)) is ∙ more.begun i (omega (arith, before, grown_len, later)) ∙ before_last (padded done f) z i (omega (arith, before, padded_is, later))
            ∙ behind_zeros done missing i from in
            let all : fleets_in t - length done ≡ missing + suc behind = omega (arith, later, fleet) in
            let there : length done + missing ≡ f = omega (arith, later) in
            let lines : lines_from v t prices (length done) (fleets_in t - length done) ≡ says.Rent f z ∷ lines_from v t prices (f + 1) behind =
            ap (λ n. lines_from v t prices (length done) n) all ∙ no_lines prices missing (length done) (suc behind) zeros_are ∙ ap (λ g. lines_from v t prices g (suc behind)) there
            ∙ lines_with v t prices f behind (ap (λ y. int_eq y (pos 0)) rent_is ∙ not_0) ∙ ap (λ y. says.Rent f y ∷ lines_from v t prices (f + 1) behind) rent_is in
            let others : rest ≡ texts t (lines_from v t prices (f + 1) behind) ++ read.1 =
            more.text prices is ∙ ap (λ n. texts t (lines_from v t prices n (fleets_in t - n)) ++ read.1) grown_len in
            line ∙ ap (λ rest. line_bytes t (says.Rent f z) ∷ rest) others ∙ ap (λ lines. texts t lines ++ read.1) (sym lines);
      }

  pub rents_were : (left : Left) (done : List ℤ) (read : List ℤ × Left) → rents_from (names v t) done left ≡ Ok read → All IsFigure done → length done ≤ fleets_in t → RentsWere done left read
  unfolding entries_from
  rents_were [] done read e are few = subst (λ r. RentsWere done [] r) (ok_same (padded done (fleets_in t), []) read (ap (λ n. Ok (padded done n, [])) (sym (fleet_count v t)) ∙ e)) (none_more done [] are few)
  rents_were (line ∷ rest) done read e are few =
      either_way (fits due.Rent (form_in v (words_of line))) _ _ read e
      (λ at e.
      let entry = goes (rent_at (names v t) (length done) (line ∷ rest)) _ read e in
      let was = rent_was v t (length done) (line ∷ rest) entry.value entry.is in
      let f = entry.value.0 in
      let z = entry.value.1 in
      let grown : List ℤ = padded done f ++ z ∷ [] in
      let figures = All-append IsFigure (padded done f) (z ∷ []) (padded_figures done f are) (All-cons IsFigure z [] was.line_is.of_tables.figures (All-nil IsFigure)) in
      let grown_len : length grown ≡ f + 1 = length-append (padded done f) (z ∷ []) ∙ ap (λ n. n + 1) (padded_len done f was.later) in
      one_more done (line ∷ rest) rest f z read was.later was.line_is.of_tables.named was.not_0 was.line_is.is
      (rents_were rest grown read entry.on figures (omega (arith, grown_len, was.line_is.of_tables.named))))
      (λ at e. subst (λ r. RentsWere done (line ∷ rest) r) (ok_same (padded done (fleets_in t), line ∷ rest) read (ap (λ n. Ok (padded done n, line ∷ rest)) (sym (fleet_count v t)) ∙ e)) (none_more done (line ∷ rest) are few))

  -- prices, and a fractional assignment

  pub record PricesWere (left : Left) (read : Prices × Left) : Type 0 where
    pub order : ArePricesInOrder t read.0
    pub tells : ArePricesIn v read.0
    pub text : left ≡ texts t (price_lines t read.0) ++ read.1

  prices_text : (prices : Prices) (left middle last behind : Left) → LineIs v t left (says.Scale prices.scale) → drop 1 left ≡ texts t (lines_from v t prices 0 (fleets_in t - 0)) ++ middle
      → middle ≡ texts t (map charge_line prices.charges) ++ last → last ≡ texts t (map at_line prices.steps) ++ behind → left ≡ texts t (price_lines t prices) ++ behind
  unfolding lines_from
  prices_text prices left middle last behind first rents charges steps =
      let all : fleets_in t - 0 ≡ fleets_in t = omega arith in
      first.is
      ∙ ap (λ rest. line_bytes t (says.Scale prices.scale) ∷ rest)
      (rents ∙ ap (λ n. texts t (lines_from v t prices 0 n) ++ middle) all
      ∙ ap (λ rest. texts t (rent_lines prices (fleets_in t)) ++ rest) (charges ∙ ap (λ rest. texts t (map charge_line prices.charges) ++ rest) steps ∙ sym (texts_append t (map charge_line prices.charges) (map at_line prices.steps) behind))
      ∙ sym (texts_append t (rent_lines prices (fleets_in t)) (map charge_line prices.charges ++ map at_line prices.steps) behind))

  pub prices_were : (left : Left) (read : Prices × Left) → prices_said (names v t) left ≡ Ok read → PricesWere left read
  unfolding prices_said
  prices_were left read e =
      let scale = goes (scale_at (names v t) left) _ read e in
      let rents = goes (rents_from (names v t) [] (drop 1 left)) _ read scale.on in
      let charges = goes (charges_from (names v t) [] None rents.value.1) _ read rents.on in
      let steps = goes (steps_from (names v t) [] None charges.value.1) _ read charges.on in
      let scale_is = (scale_was v t left scale.value scale.is).line_is in
      let rents_are = rents_were (drop 1 left) [] rents.value rents.is (All-nil IsFigure) (omega arith) in
      let charges_are = charges_were rents.value.1 charges.value charges.is in
      let steps_are = steps_were charges.value.1 steps.value steps.is in
      let prices : Prices = record { scale = scale.value; rents = rents.value.0; steps = steps.value.0; charges = charges.value.0 } in
      subst (λ r. PricesWere left r) (ok_same (prices, steps.value.1) read steps.on)
      (record {
        order = record {
          scale = scale_is.of_tables.figures;
          one_each = rents_are.one_each;
          rents = rents_are.figures;
          charges = record { each = charges_are.1.each; follow = charges_are.1.follow };
          steps = record { each = steps_are.1.each; follow = steps_are.1.follow; no_lone_zero = steps_are.1.no_lone_zero };
        };
        tells = charges_are.1.tells;
        text = prices_text prices left rents.value.1 charges.value.1 steps.value.1 scale_is (rents_are.text prices refl) charges_are.0 steps_are.0;
      })

  pub record MixedWas (left : Left) (read : Mixed × Left) : Type 0 where
    pub order : IsMixedInOrder t read.0
    pub text : left ≡ texts t (mixed_lines read.0) ++ read.1

  pub mixed_was : (left : Left) (read : Mixed × Left) → mixed_said (names v t) left ≡ Ok read → MixedWas left read
  unfolding mixed_said
  mixed_was left read e =
      let scale = goes (mixed_scale_at (names v t) left) _ read e in
      let weights = goes (weights_from (names v t) [] None (drop 1 left)) _ read scale.on in
      let scale_is = (mixed_scale_was v t left scale.value scale.is).line_is in
      let weights_are = weights_were (drop 1 left) weights.value weights.is in
      let mixed : Mixed = record { scale = scale.value; weights = weights.value.0 } in
      subst (λ r. MixedWas left r) (ok_same (mixed, weights.value.1) read weights.on)
      (record {
        order = record { scale = scale_is.of_tables.figures; each = weights_are.1.each; follow = weights_are.1.follow };
        text = scale_is.is ∙ ap (λ rest. line_bytes t (says.Mixed scale.value) ∷ rest) weights_are.0;
      })
