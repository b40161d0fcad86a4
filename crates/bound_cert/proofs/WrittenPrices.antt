-- Prices and fractional assignments in written order are what their lines read as.
use Rattle.bound_cert.proofs.ReadOn.{begins, bound, entries_end, entries_more, padded_more}
use Rattle.proof_lines.proofs.Choosing.{chosen, refused}
use Rattle.bound_cert.proofs.WrittenLines.{begins_as, begins_else, line_read, names, texts, texts_append}
use Rattle.bound_cert.specs.Lines.{◌>>=◌, Left, Reading, line_due, may_stand}
use Rattle.bound_cert.specs.ProofText.{ArePricesIn, at_line, charge_line, mixed_lines, price_lines, rent_lines, rent_lines_at, weight_line}
use Rattle.bound_cert.specs.Reading.{charge_in_line, charges_from, entries_from, first_words, in_order, is_needless, listed, mixed_said, mixed_scale_at, mixed_scale_of, padded, prices_said, rent_at, rent_follows, rent_in_line, rent_series, rents_from, said_at, scale_at, scale_of, step_in_line, step_said, steps_from, weight_of, weights_from}
use Rattle.bound_cert.specs.declared.reading_lines.Due.{Due}
use Rattle.dual_bound.specs.OfTables.{IsStepOf}
use Rattle.dual_bound.specs.Order.{charge_follows, same_place, step_follows, weight_follows}
use Rattle.dual_bound.specs.Prices.{rent_of}
use Rattle.dual_bound.specs.WrittenOrder.{ArePricesInOrder, ChargesFollow, IsChargeInOrder, IsFigure, IsMixedInOrder, IsStepInOrder, IsWeightInOrder, NoLoneZero, StepsFollow, WeightsFollow, goes_on}
use Rattle.dual_bound.specs.declared.mixed.Mixed.{Mixed}
use Rattle.dual_bound.specs.declared.mixed.Weight.{Weight}
use Rattle.dual_bound.specs.declared.prices.Charge.{Charge}
use Rattle.dual_bound.specs.declared.prices.PriceStep.{PriceStep}
use Rattle.dual_bound.specs.declared.prices.Prices.{Prices}
use Rattle.fleet_model.specs.Schedule.{fleets_in}
use Rattle.fleet_model.specs.declared.tables.Tables.{Tables}
use Rattle.proof_lines.specs.declared.line.Version.{Version}
use Rattle.proof_lines.proofs.LineWords.{of_words}
use Rattle.proof_lines.proofs.Naming.{fleet_written, station_written}
use Rattle.proof_lines.proofs.Spaces.{words_back}
use Rattle.proof_lines.specs.Flaws.{least}
use Rattle.proof_lines.specs.Forms.{form_of, has_charges}
use Rattle.proof_lines.specs.Laws.{IsLineOf, IsOfVersion}
use Rattle.proof_lines.specs.LineText.{IsNamed, line_bytes, line_words}
use Rattle.proof_lines.specs.Reading.{is_step_of}
use Rattle.proof_lines.specs.Words.{words_of}
use Rattle.proof_lines.specs.declared.line.Line.{Line}
use Rattle.std.proofs.Common.{[], ◌&&◌, ◌++◌, ◌+◌, ◌-◌, ◌<◌, ◌==◌, ◌∙◌, ◌∷◌, ◌≡◌, ◌≤◌, Bool, List, None, Ok, Option, Some, ap, append-nil, append_assoc, arith, drop, false, length, map, nat_le, not, pos, refl, replicate, suc, sym, take, true, zero, ℕ, ℤ}
use Rattle.std.proofs.lemmas.Bool.Decides.{Decides-int_eq, nat_tests}
use Rattle.std.proofs.lemmas.List.Elements.{All-head, All-tail, All-weaker}
use Rattle.std.proofs.lemmas.List.{length-map, length-take-le, take_all, take_more}
use Rattle.std.specs.List.{flat_map, range_with_len}
use Rattle.std.specs.Ordering.{int_eq}
use Rattle.std.specs.Prelude.{All, IsTrue}
use Rattle.sums.proofs.Tests.{by_test}
use Rattle.bound_cert.specs.declared.reading_lines.Due.TheVariants as due
use Rattle.proof_lines.specs.declared.forms.Form.TheVariants as form
use Rattle.proof_lines.specs.declared.line.Line.TheVariants as says

-- what stands behind prices or a fractional assignment: some line, of another kind in each version
pub record IsBehind (left : Left) : Type 0 where
  pub some : 0 < length left
  pub no_rent : (v : Version) → begins v left due.Rent ≡ false
  pub no_charge : (v : Version) → begins v left due.Charge ≡ false
  pub no_step : (v : Version) → begins v left due.Step ≡ false
  pub no_weight : (v : Version) → begins v left due.Weight ≡ false

true_is : (b : Bool) → IsTrue b → b ≡ true
true_is true is = refl
true_is false is = absurd (cc is)

pub some_behind : (t : Tables) (lines : List Line) (behind : Left) → 0 < length behind → 0 < length (texts t lines ++ behind)
some_behind t [] behind some = some
some_behind t (line ∷ lines) behind some = omega arith

-- numbers of names
pub fleet_count : (v : Version) (t : Tables) → length (names v t).fleets ≡ fleets_in t
fleet_count v t = length-map t.fleets (λ fleet. fleet.name)

-- a step in its order is of the tables
pub of_step : (t : Tables) (step : PriceStep) → IsStepInOrder t step → IsStepOf t step
of_step t step is = record { fleet = is.fleet; station = is.station }

pub steps_of : (t : Tables) (steps : List PriceStep) → All (IsStepInOrder t) steps → All (IsStepOf t) steps
steps_of t steps are = All-weaker (IsStepInOrder t) (IsStepOf t) (of_step t) steps are

module _ (v : Version) (t : Tables) where
  -- a line that is due is read as what it says, where that is in its order
  said_read : {A : Type 0} (kind : Due) (say : Line → Left → Reading A) (line : Line) (entry : A) (rest : Left) → IsOfVersion v line → IsLineOf t line → may_stand kind (form_of line) ≡ true → 0 < length rest
      → say line (line_bytes t line ∷ rest) ≡ Ok entry → said_at (names v t) kind say (line_bytes t line ∷ rest) ≡ Ok entry
  unfolding said_at
  said_read kind say line entry rest of is may some says_it = bound (line_due (names v t) kind (line_bytes t line ∷ rest)) line _ (line_read v t kind line rest of is may some) ∙ says_it

  ordered_read : {A : Type 0} (test : Bool) (entry : A) (left : Left) → test ≡ true → (in_order test left >>= λ order. Ok entry) ≡ Ok entry
  ordered_read test entry left is = ap (λ b. in_order b left >>= λ order. Ok entry) is

  -- scales

  pub scale_read : (z : ℤ) (rest : Left) → IsFigure z → 0 < length rest → scale_at (names v t) (line_bytes t (says.Scale z) ∷ rest) ≡ Ok z
  scale_read z rest is some = said_read due.Scale scale_of (says.Scale z) z rest refl (record { named = tt; figures = is }) refl some refl

  pub mixed_scale_read : (z : ℤ) (rest : Left) → IsFigure z → 0 < length rest → mixed_scale_at (names v t) (line_bytes t (says.Mixed z) ∷ rest) ≡ Ok z
  mixed_scale_read z rest is some = said_read due.Mixed mixed_scale_of (says.Mixed z) z rest refl (record { named = tt; figures = is }) refl some refl

  -- rents

  rent_read : (least f : ℕ) (z : ℤ) (rest : Left) → f < fleets_in t → least ≤ f → IsFigure z → int_eq z (pos 0) ≡ false → 0 < length rest
      → rent_at (names v t) least (line_bytes t (says.Rent f z) ∷ rest) ≡ Ok (f, z)
  rent_read least f z rest fleet later is not_0 some =
      let least_is : nat_le least f ≡ true = grind (arith, nat_tests, later) in
      said_read due.Rent (rent_in_line least) (says.Rent f z) (f, z) rest refl (record { named = fleet; figures = is }) refl some
      (ordered_read (rent_follows least f z) (f, z) (line_bytes t (says.Rent f z) ∷ rest) (rw not_0 (rw least_is refl)))

  -- one fleet more, with a rent of 0 and with another
  pad_one : (done : List ℤ) (first : ℕ) → length done ≤ first → padded done (first + 1) ≡ padded done first ++ pos 0 ∷ []
  pad_one done first few =
      let missing : first + 1 - length done ≡ first - length done + 1 = omega (arith, few) in
      ap (λ k. done ++ replicate k (pos 0)) missing ∙ sym (padded_more done (padded done first) (padded done first ++ pos 0 ∷ []) (first - length done) refl refl)

  pub pad_none : (done : List ℤ) (n : ℕ) → length done ≡ n → padded done n ≡ done
  pad_none done n all =
      let missing : n - length done ≡ 0 = omega (arith, all) in
      ap (λ k. done ++ replicate k (pos 0)) missing ∙ append-nil done

  -- the lines of the rents of so many fleets, from a first one on
  unfoldable pub lines_from : Prices → ℕ → ℕ → List Line
  lines_from prices first n = flat_map (rent_lines_at prices) (range_with_len first n)

  pub lines_without : (prices : Prices) (first n : ℕ) → int_eq (rent_of prices first) (pos 0) ≡ true → lines_from prices first (suc n) ≡ lines_from prices (first + 1) n
  unfolding lines_from
  lines_without prices first n is_0 = ap (λ lines. lines ++ flat_map (rent_lines_at prices) (range_with_len (first + 1) n)) (chosen (int_eq (rent_of prices first) (pos 0)) _ _ is_0)

  pub lines_with : (prices : Prices) (first n : ℕ) → int_eq (rent_of prices first) (pos 0) ≡ false → lines_from prices first (suc n) ≡ says.Rent first (rent_of prices first) ∷ lines_from prices (first + 1) n
  unfolding lines_from
  lines_with prices first n not_0 = ap (λ lines. lines ++ flat_map (rent_lines_at prices) (range_with_len (first + 1) n)) (refused (int_eq (rent_of prices first) (pos 0)) _ _ not_0)

  -- the rents so far, with 0 up to a fleet, are the first rents
  rents_so_far : (prices : Prices) (n first : ℕ) (done : List ℤ) (behind : Left) → All IsFigure prices.rents → length prices.rents ≡ fleets_in t → first + n ≡ fleets_in t → length done ≤ first
      → padded done first ≡ take first prices.rents → 0 < length behind → begins v behind due.Rent ≡ false
      → rents_from (names v t) done (texts t (lines_from prices first n) ++ behind) ≡ Ok (prices.rents, behind)
  unfolding lines_from
  rents_so_far prices zero first done behind figures one_each all few so_far some ends =
      let last : fleets_in t ≡ first = omega (arith, all) in
      entries_end (rent_series (names v t)) done behind ends
      ∙ ap (λ rents. Ok (rents, behind)) (ap (padded done) (fleet_count v t ∙ last) ∙ so_far ∙ take_all first prices.rents (omega (arith, all, one_each)))
  rents_so_far prices (suc n) first done behind figures one_each all few so_far some ends =
      by_rent (λ grown short is. rents_so_far prices n (first + 1) grown behind figures one_each (omega (arith, all)) short is some ends) (int_eq (rent_of prices first) (pos 0)) refl
    where
      within : first < length prices.rents
      within = omega (arith, all, one_each)

      more : take first prices.rents ++ rent_of prices first ∷ [] ≡ take (first + 1) prices.rents
      more = sym (take_more prices.rents first (pos 0) within)

      by_rent : ((grown : List ℤ) → length grown ≤ first + 1 → padded grown (first + 1) ≡ take (first + 1) prices.rents → rents_from (names v t) grown (texts t (lines_from prices (first + 1) n) ++ behind) ≡ Ok (prices.rents, behind))
          → (b : Bool) → int_eq (rent_of prices first) (pos 0) ≡ b → rents_from (names v t) done (texts t (lines_from prices first (suc n)) ++ behind) ≡ Ok (prices.rents, behind)
      by_rent on true is_0 =
          let zero_rent : pos 0 ≡ rent_of prices first = sym ((Decides-int_eq (rent_of prices first) (pos 0)).0 is_0) in
          ap (λ lines. rents_from (names v t) done (texts t lines ++ behind)) (lines_without prices first n is_0)
          ∙ on done (omega (arith, few)) (pad_one done first few ∙ ap (λ rents. rents ++ pos 0 ∷ []) so_far ∙ ap (λ z. take first prices.rents ++ z ∷ []) zero_rent ∙ more)
      by_rent on false not_0 =
          let rent = rent_of prices first in
          let line = says.Rent first rent in
          let rest : Left = texts t (lines_from prices (first + 1) n) ++ behind in
          let grown : List ℤ = padded done first ++ rent ∷ [] in
          let grown_is : grown ≡ take (first + 1) prices.rents = ap (λ rents. rents ++ rent ∷ []) so_far ∙ more in
          let grown_len : length grown ≡ first + 1 = ap length grown_is ∙ length-take-le (first + 1) prices.rents (omega (arith, within)) in
          let fleet : first < fleets_in t = omega (arith, all) in
          ap (λ lines. rents_from (names v t) done (texts t lines ++ behind)) (lines_with prices first n not_0)
          ∙ entries_more (rent_series (names v t)) done (line_bytes t line ∷ rest) (first, rent) (begins_as v t line rest due.Rent refl fleet refl)
          (rent_read (length done) first rent rest fleet few (figures first (pos 0) within) not_0 (some_behind t (lines_from prices (first + 1) n) behind some))
          ∙ on grown (omega (arith, grown_len)) (pad_none grown (first + 1) grown_len ∙ grown_is)

  rents_read : (prices : Prices) (behind : Left) → All IsFigure prices.rents → length prices.rents ≡ fleets_in t → 0 < length behind → begins v behind due.Rent ≡ false
      → rents_from (names v t) [] (texts t (rent_lines prices (fleets_in t)) ++ behind) ≡ Ok (prices.rents, behind)
  unfolding lines_from
  rents_read prices behind figures one_each some ends = rents_so_far prices (fleets_in t) 0 [] behind figures one_each (omega arith) (omega arith) refl some ends

  -- entries of a kind: how a line says one behind the entry before, the line of one, and what a list of them keeps
  module _ {A : Type 0} (kind : Due) (say : Option A → Line → Left → Reading A) (line_of : A → Line) (Keeps : Option A → List A → Type 0)
      (one : (before : Option A) (entry : A) (entries : List A) (behind : Left) → Keeps before (entry ∷ entries) → 0 < length (texts t (map line_of entries) ++ behind)
      → (begins v (line_bytes t (line_of entry) ∷ texts t (map line_of entries) ++ behind) kind ≡ true) × (said_at (names v t) kind (say before) (line_bytes t (line_of entry) ∷ texts t (map line_of entries) ++ behind) ≡ Ok entry) × Keeps (Some entry) entries) where
    entries_read : (entries done : List A) (before : Option A) (behind : Left) → Keeps before entries → 0 < length behind → begins v behind kind ≡ false
        → entries_from (listed (names v t) kind say) (done, before) (texts t (map line_of entries) ++ behind) ≡ Ok (done ++ entries, behind)
    entries_read [] done before behind keep some ends = entries_end (listed (names v t) kind say) (done, before) behind ends ∙ ap (λ entries. Ok (entries, behind)) (sym (append-nil done))
    entries_read (entry ∷ entries) done before behind keep some ends =
        let first = one before entry entries behind keep (some_behind t (map line_of entries) behind some) in
        entries_more (listed (names v t) kind say) (done, before) (line_bytes t (line_of entry) ∷ texts t (map line_of entries) ++ behind) entry first.0 first.1
        ∙ entries_read entries (done ++ entry ∷ []) (Some entry) behind first.2 some ends
        ∙ ap (λ entries. Ok (entries, behind)) (append_assoc done (entry ∷ []) entries)

  -- lines of another kind than is due, and behind them what is another too
  entries_begin : {A : Type 0} (line_of : A → Line) (kind : Due) (entries : List A) (behind : Left) → All (λ entry. IsNamed t (line_of entry)) entries → ((entry : A) → may_stand kind (form_of (line_of entry)) ≡ false)
      → begins v behind kind ≡ false → begins v (texts t (map line_of entries) ++ behind) kind ≡ false
  entries_begin line_of kind [] behind named other ends = ends
  entries_begin line_of kind (entry ∷ entries) behind named other ends =
      begins_else v t (line_of entry) (texts t (map line_of entries) ++ behind) kind (All-head (λ entry. IsNamed t (line_of entry)) entry entries named) (other entry)

  -- charges, of which there are none in a version that has no lines for them

  pub record ChargesKeep (before : Option Charge) (charges : List Charge) : Type 0 where
    pub each : All (IsChargeInOrder t) charges
    pub follow : ChargesFollow before charges
    pub tells : has_charges v ≡ false → charges ≡ []

  charges_read : (charges done : List Charge) (before : Option Charge) (behind : Left) → ChargesKeep before charges → 0 < length behind
      → begins v behind due.Charge ≡ false → charges_from (names v t) done before (texts t (map charge_line charges) ++ behind) ≡ Ok (done ++ charges, behind)
  charges_read = entries_read due.Charge charge_in_line charge_line ChargesKeep
      (λ before entry charges behind keep some.
      let left : Left = line_bytes t (charge_line entry) ∷ texts t (map charge_line charges) ++ behind in
      let is = All-head (IsChargeInOrder t) entry charges keep.each in
      let may : has_charges v ≡ true = by_test (has_charges v) (λ may. may) (λ off. absurd (cc (keep.tells off))) in (
        begins_as v t (charge_line entry) (drop 1 left) due.Charge may is.station refl,
        said_read due.Charge (charge_in_line before) (charge_line entry) entry (drop 1 left) may (record { named = is.station; figures = (is.some, is.day, is.charge) }) refl some
            (ordered_read (charge_follows before entry) entry left (true_is (charge_follows before entry) keep.follow.0)),
        record { each = All-tail (IsChargeInOrder t) entry charges keep.each; follow = keep.follow.1; tells = λ off. absurd (cc (keep.tells off)) },
      ))

  -- steps

  pub step_read : (before : Option PriceStep) (step : PriceStep) (rest : Left) → IsStepInOrder t step → step_follows before step ≡ true → is_needless (names v t) step rest ≡ false → 0 < length rest
      → step_said (names v t) before (line_bytes t (at_line step) ∷ rest) ≡ Ok step
  step_read before step rest is follows needed some =
      said_read due.Step (step_in_line (names v t) before) (at_line step) step rest refl (record { named = (is.fleet, is.station); figures = (is.minute, is.value) }) refl some
      (ordered_read (step_follows before step && not (is_needless (names v t) step rest)) step (line_bytes t (at_line step) ∷ rest) (rw (follows, needed) refl))

  -- a step that isn't the one step of its place has another behind it, in the text too
  pub needed_by : (a b c d : Bool) → (a && b && not c) ≡ false → (c ≡ true → d ≡ true) → (a && b && not d) ≡ false
  needed_by false b c d e leads = refl
  needed_by true false c d e leads = refl
  needed_by true true false d e leads = absurd (cc e)
  needed_by true true true d e leads = rw (leads refl) refl

  same_parts : (a b : PriceStep) → same_place a b ≡ true → (a.fleet ≡ b.fleet) × (a.station ≡ b.station)
  same_parts a b e = (grind (arith, nat_tests, e), grind (arith, nat_tests, e))

  next_is : (step next : PriceStep) → same_place step next ≡ true → IsStepOf t next → is_step_of (names v t) step.fleet step.station (words_of (line_bytes t (at_line next))) ≡ true
  next_is step next same of =
      let places = same_parts step next same in
      ap (is_step_of (names v t) step.fleet step.station) (words_back (line_words t (at_line next)) (of_words t (at_line next) (of.fleet, of.station)))
      ∙ rw (fleet_written v t next.fleet of.fleet, station_written v t next.station of.station) (grind (arith, nat_tests, places.0, places.1))

  pub next_begins : (step : PriceStep) (steps : List PriceStep) (behind : Left) → All (IsStepOf t) steps → goes_on step steps ≡ true
      → is_step_of (names v t) step.fleet step.station (first_words (texts t (map at_line steps) ++ behind)) ≡ true
  next_begins step [] behind are e = absurd (cc e)
  next_begins step (next ∷ steps) behind are e = next_is step next e (All-head (IsStepOf t) next steps are)

  pub record StepsKeep (before : Option PriceStep) (steps : List PriceStep) : Type 0 where
    pub each : All (IsStepInOrder t) steps
    pub follow : StepsFollow before steps
    pub no_lone_zero : NoLoneZero steps

  pub steps_read : (steps done : List PriceStep) (before : Option PriceStep) (behind : Left) → StepsKeep before steps → 0 < length behind
      → begins v behind due.Step ≡ false → steps_from (names v t) done before (texts t (map at_line steps) ++ behind) ≡ Ok (done ++ steps, behind)
  steps_read = entries_read due.Step (step_in_line (names v t)) at_line StepsKeep
      (λ before step steps behind keep some.
      let rest : Left = texts t (map at_line steps) ++ behind in
      let is = All-head (IsStepInOrder t) step steps keep.each in
      let others = All-tail (IsStepInOrder t) step steps keep.each in
      let needed = needed_by (step.minute == 0) (int_eq step.value (pos 0)) (goes_on step steps) (is_step_of (names v t) step.fleet step.station (first_words rest)) keep.no_lone_zero.0 (next_begins step steps behind (steps_of t steps others)) in (
        begins_as v t (at_line step) rest due.Step refl (is.fleet, is.station) refl,
        step_read before step rest is (true_is (step_follows before step) keep.follow.0) needed some,
        record { each = others; follow = keep.follow.1; no_lone_zero = keep.no_lone_zero.1 },
      ))

  -- prices
  pub prices_read : (prices : Prices) (behind : Left) → ArePricesInOrder t prices → ArePricesIn v prices → IsBehind behind → prices_said (names v t) (texts t (price_lines t prices) ++ behind) ≡ Ok (prices, behind)
  unfolding prices_said
  prices_read prices behind are tells ends =
      let rents = rent_lines prices (fleets_in t) in
      let charges = map charge_line prices.charges in
      let steps = map at_line prices.steps in
      let last : Left = texts t steps ++ behind in
      let tail : Left = texts t charges ++ last in
      let parts : texts t (rents ++ (charges ++ steps)) ++ behind ≡ texts t rents ++ tail = texts_append t rents (charges ++ steps) behind ∙ ap (λ lines. texts t rents ++ lines) (texts_append t charges steps behind) in
      let some_last : 0 < length last = some_behind t steps behind ends.some in
      let some : 0 < length tail = some_behind t charges last some_last in
      ap (λ rest. prices_said (names v t) (line_bytes t (says.Scale prices.scale) ∷ rest)) parts
      ∙ bound (scale_at (names v t) (line_bytes t (says.Scale prices.scale) ∷ texts t rents ++ tail)) prices.scale _ (scale_read prices.scale (texts t rents ++ tail) are.scale (some_behind t rents tail some))
      ∙ bound (rents_from (names v t) [] (texts t rents ++ tail)) (prices.rents, tail) _
      (rents_read prices tail are.rents are.one_each some
      (entries_begin charge_line due.Rent prices.charges last (All-weaker (IsChargeInOrder t) (λ entry. IsNamed t (charge_line entry)) (λ entry is. is.station) prices.charges are.charges.each) (λ entry. refl) (steps_begin due.Rent refl (ends.no_rent v))))
      ∙ bound (charges_from (names v t) [] None tail) (prices.charges, last) _
      (charges_read prices.charges [] None last (record { each = are.charges.each; follow = are.charges.follow; tells = tells }) some_last (steps_begin due.Charge refl (ends.no_charge v)))
      ∙ bound (steps_from (names v t) [] None last) (prices.steps, behind) _
      (steps_read prices.steps [] None behind (record { each = are.steps.each; follow = are.steps.follow; no_lone_zero = are.steps.no_lone_zero }) ends.some (ends.no_step v))
    where
      steps_begin : (kind : Due) → may_stand kind form.At ≡ false → begins v behind kind ≡ false → begins v (texts t (map at_line prices.steps) ++ behind) kind ≡ false
      steps_begin kind other =
          entries_begin at_line kind prices.steps behind (All-weaker (IsStepInOrder t) (λ step. IsNamed t (at_line step)) (λ step is. (is.fleet, is.station)) prices.steps are.steps.each) (λ step. other)

  -- weights

  pub record WeightsKeep (before : Option Weight) (weights : List Weight) : Type 0 where
    pub each : All (IsWeightInOrder t) weights
    pub follow : WeightsFollow before weights

  weights_read : (weights done : List Weight) (before : Option Weight) (behind : Left) → WeightsKeep before weights → 0 < length behind
      → begins v behind due.Weight ≡ false → weights_from (names v t) done before (texts t (map weight_line weights) ++ behind) ≡ Ok (done ++ weights, behind)
  weights_read = entries_read due.Weight weight_of weight_line WeightsKeep
      (λ before entry weights behind keep some.
      let left : Left = line_bytes t (weight_line entry) ∷ texts t (map weight_line weights) ++ behind in
      let is = All-head (IsWeightInOrder t) entry weights keep.each in (
        begins_as v t (weight_line entry) (drop 1 left) due.Weight refl is.pair refl,
        said_read due.Weight (weight_of before) (weight_line entry) entry (drop 1 left) refl (record { named = is.pair; figures = is.weight }) refl some (ordered_read (weight_follows before entry) entry left (true_is (weight_follows before entry) keep.follow.0)),
        record { each = All-tail (IsWeightInOrder t) entry weights keep.each; follow = keep.follow.1 },
      ))

  -- fractional assignments
  pub mixed_read : (mixed : Mixed) (behind : Left) → IsMixedInOrder t mixed → IsBehind behind → mixed_said (names v t) (texts t (mixed_lines mixed) ++ behind) ≡ Ok (mixed, behind)
  unfolding mixed_said
  mixed_read mixed behind is ends =
      let rest : Left = texts t (map weight_line mixed.weights) ++ behind in
      bound (mixed_scale_at (names v t) (line_bytes t (says.Mixed mixed.scale) ∷ rest)) mixed.scale _
      (mixed_scale_read mixed.scale rest is.scale (some_behind t (map weight_line mixed.weights) behind ends.some))
      ∙ bound (weights_from (names v t) [] None rest) (mixed.weights, behind) _ (weights_read mixed.weights [] None behind (record { each = is.each; follow = is.follow }) ends.some (ends.no_weight v))
