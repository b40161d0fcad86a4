-- A choice of a leg is told by its fleet, if one flies it, and by the minutes by which that moves the leg.
use Rattle.std.proofs.Common.{◌≡◌, ℕ, zero, suc, ◌+◌, ◌*◌, ◌<◌, ◌<ℤ◌, Bool, true, false, cond, List, [], ◌∷◌, length, slice_index_or, nat_lt, codes, ℤ, pos, Option, Some, None, AllPairs, refl, sym, ◌∙◌, ap, subst, arith}
use Rattle.std.specs.Prelude.{option_map}
use Rattle.std.specs.Ordering.{int_eq}
use Rattle.std.proofs.lemmas.Bool.{lt-ltb}
use Rattle.std.proofs.lemmas.Bool.Decides.{Decides-int_eq, nat_tests}
use Rattle.std.proofs.lemmas.Int.{ints}
use Rattle.fleet_model.specs.Schedule.{IsPair, fleet_by, fleets_in, left_out, leg_of, leg_on, legs_in, no_leg, own_shift, shift_by, shifts_in, slot_by}
use Rattle.fleet_model.specs.declared.shifts.Shift.{Shift}
use Rattle.fleet_model.specs.declared.tables.Tables.{Tables}
use Rattle.fleet_model.proofs.Departures.{block_fleet, block_flown, block_slot, in_block, slot_within}
use Rattle.fleet_model.proofs.LeftOut.{last_choice}
use Rattle.fleet_model.proofs.ToldPairs.{out_asked, out_by, out_pair, unmoved}
use Rattle.dual_bound.specs.WrittenOrder.{IsFigure}
use Rattle.proof_lines.specs.Choices.{choice_told, slot_in}
use Rattle.proof_lines.specs.LineText.{fleet_word, flier_word, is_flown, minutes_by}
use Rattle.proof_lines.specs.Words.{Word}
use Rattle.proof_lines.proofs.Choosing.{chosen, refused}

-- ---- the times of a leg by their minutes, of which no two are the same
earlier_apart : (a b : ℤ) → a <ℤ b → int_eq a b ≡ false
earlier_apart a b before = by_test (int_eq a b) refl
  where
    by_test : (c : Bool) → int_eq a b ≡ c → c ≡ false
    by_test true is = let same : a ≡ b = (Decides-int_eq a b).0 is in absurd (omega (arith, ints, same, before))
    by_test false is = refl

pub slot_found : (shifts : List Shift) (k : ℕ) (d : Shift) → AllPairs (λ a b. a.minutes <ℤ b.minutes) shifts → k < length shifts → slot_in (slice_index_or shifts k d).minutes shifts ≡ Some k
slot_found [] k d rise within = absurd (omega (arith, within))
slot_found (shift ∷ shifts) zero d rise within = chosen (int_eq shift.minutes shift.minutes) _ _ ((Decides-int_eq shift.minutes shift.minutes).1 refl)
slot_found (shift ∷ shifts) (suc k) d rise within =
    let later = (slice_index_or shifts k d).minutes in
    let before : shift.minutes <ℤ later = rise 0 (suc k) d (omega arith) within in
    let one_more : k + 1 ≡ suc k = omega arith in
    refused (int_eq shift.minutes later) (Some 0) (option_map (λ slot. slot + 1) (slot_in later shifts)) (earlier_apart shift.minutes later before)
    ∙ ap (option_map (λ slot. slot + 1)) (slot_found shifts k d (λ i j e first second. rise (suc i) (suc j) e (omega arith) (omega arith)) (omega arith))
    ∙ ap (λ n. Some n) one_more

pub record SlotWas (minutes : ℤ) (shifts : List Shift) (k : ℕ) (d : Shift) : Type 0 where
  pub within : k < length shifts
  pub is : (slice_index_or shifts k d).minutes ≡ minutes

pub slot_was : (minutes : ℤ) (shifts : List Shift) (k : ℕ) (d : Shift) → slot_in minutes shifts ≡ Some k → SlotWas minutes shifts k d
slot_was minutes [] k d e = absurd (cc e)
slot_was minutes (shift ∷ shifts) k d e = by_test (slot_in minutes shifts) (int_eq shift.minutes minutes) refl (λ j. slot_was minutes shifts j d) e
  where
    by_test : (o : Option ℕ) (b : Bool) → int_eq shift.minutes minutes ≡ b → ((j : ℕ) → o ≡ Some j → SlotWas minutes shifts j d) → cond b (Some 0) (option_map (λ slot. slot + 1) o) ≡ Some k
        → SlotWas minutes (shift ∷ shifts) k d
    by_test o true is on e =
        let first : 0 ≡ k = cc e in
        subst (λ k. SlotWas minutes (shift ∷ shifts) k d) first (record { within = omega arith; is = (Decides-int_eq shift.minutes minutes).0 is })
    by_test None false is on e = absurd (cc e)
    by_test (Some j) false is on e =
        let later : j + 1 ≡ k = cc e in
        let next : suc j ≡ k = omega (arith, later) in
        let was = on j refl in
        subst (λ k. SlotWas minutes (shift ∷ shifts) k d) next (record { within = omega (arith, was.within); is = was.is })

mapped : (f : ℕ → ℕ) (o : Option ℕ) (n : ℕ) → option_map f o ≡ Some n → (k : ℕ) × (o ≡ Some k) × (f k ≡ n)
mapped f (Some k) n e = (k, refl, cc e)
mapped f None n e = absurd (cc e)

module _ (t : Tables) where
  -- what flies a leg by a choice
  abbrev pub flier_of : ℕ → ℕ → Option ℕ
  flier_of l c = cond (is_flown t l c) (Some (fleet_by t (leg_on l c))) None

  -- ---- a choice is what it is told by
  pub minutes_few : (l c : ℕ) → l < legs_in t → IsFigure (minutes_by t l c)
  minutes_few l c below = by_flown (is_flown t l c)
    where
      by_flown : (b : Bool) → IsFigure (cond b (shift_by t (leg_on l c)).minutes (pos 0))
      by_flown true =
          let is = (t.in_range.legs_fit.each l no_leg below).shifts.each (slot_by t (leg_on l c)) (own_shift 0) (slot_within t (leg_on l c)) in
          record { no_less = omega (arith, ints, is.no_earlier); no_more = omega (arith, ints, is.no_later) }
      by_flown false = record { no_less = omega (arith, ints); no_more = omega (arith, ints) }

  pub minutes_none : (l c : ℕ) → l < legs_in t → t.windows ≡ false → minutes_by t l c ≡ pos 0
  minutes_none l c below off = by_flown (is_flown t l c)
    where
      by_flown : (b : Bool) → cond b (shift_by t (leg_on l c)).minutes (pos 0) ≡ pos 0
      by_flown true = unmoved t (leg_on l c) off below
      by_flown false = refl

  pub choice_back : (l c : ℕ) → IsPair t (leg_on l c) → choice_told t l (flier_of l c) (minutes_by t l c) ≡ Some c
  unfolding choice_told
  choice_back l c pair = by_flown (is_flown t l c) refl
    where
      by_flown : (b : Bool) → is_flown t l c ≡ b → choice_told t l (cond b (Some (fleet_by t (leg_on l c))) None) (cond b (shift_by t (leg_on l c)).minutes (pos 0)) ≡ Some c
      by_flown true is =
          let shifts = (t.in_range.legs_fit.each l no_leg pair.leg).shifts in
          ap (option_map (λ slot. fleet_by t (leg_on l c) * shifts_in t l + slot)) (slot_found (leg_of t l).shifts (slot_by t (leg_on l c)) (own_shift 0) shifts.rise (slot_within t (leg_on l c)))
          ∙ ap (λ n. Some n) (in_block t (leg_on l c))
      by_flown false is = ap (λ n. Some n) (sym (last_choice t l c pair.choice (grind (arith, nat_tests, is))))

  -- ---- and what it is told by is its own
  pub record ToldBy (flier : Word) (minutes : ℤ) (l c : ℕ) : Type 0 where
    pub pair : IsPair t (leg_on l c)
    pub flier_is : flier ≡ flier_word t l c
    pub minutes_is : minutes ≡ minutes_by t l c

  pub fleet_told : (l f : ℕ) (minutes : ℤ) (c : ℕ) → l < legs_in t → f < fleets_in t → choice_told t l (Some f) minutes ≡ Some c → ToldBy (fleet_word t f) minutes l c
  unfolding choice_told
  fleet_told l f minutes c below known e =
      let found = mapped (λ slot. f * shifts_in t l + slot) (slot_in minutes (leg_of t l).shifts) c e in
      let k : ℕ = found.0 in
      let was = slot_was minutes (leg_of t l).shifts k (own_shift 0) found.1 in
      let flown = block_flown t l f k below known was.within in
      let fleet = block_fleet t l f k was.within in
      let on : is_flown t l (f * shifts_in t l + k) ≡ true = lt-ltb _ (fleets_in t) flown.by in
      subst (ToldBy (fleet_word t f) minutes l) found.2
      (record {
        pair = flown.pair;
        flier_is = ap (fleet_word t) (sym fleet) ∙ sym (chosen (is_flown t l (f * shifts_in t l + k)) _ (codes "-") on);
        minutes_is = sym was.is ∙ ap (λ slot. (slice_index_or (leg_of t l).shifts slot (own_shift 0)).minutes) (sym (block_slot t l f k was.within)) ∙ sym (chosen (is_flown t l (f * shifts_in t l + k)) _ (pos 0) on);
      })

  pub none_told : (l : ℕ) (minutes : ℤ) (c : ℕ) → l < legs_in t → t.optional ≡ true → choice_told t l None minutes ≡ Some c → ToldBy (codes "-") minutes l c
  unfolding choice_told
  none_told l minutes c below asked e = by_minutes (int_eq minutes (pos 0)) refl e
    where
      by_minutes : (b : Bool) → int_eq minutes (pos 0) ≡ b → cond b (Some (left_out t l)) None ≡ Some c → ToldBy (codes "-") minutes l c
      by_minutes true is e =
          let last : left_out t l ≡ c = cc e in
          let off : is_flown t l (left_out t l) ≡ false = ap (λ n. nat_lt n (fleets_in t)) (out_by t l) ∙ grind (arith, nat_tests) in
          subst (ToldBy (codes "-") minutes l) last
          (record {
            pair = out_pair t l below asked;
            flier_is = sym (refused (is_flown t l (left_out t l)) _ (codes "-") off);
            minutes_is = (Decides-int_eq minutes (pos 0)).0 is ∙ sym (refused (is_flown t l (left_out t l)) _ (pos 0) off);
          })
      by_minutes false is e = absurd (cc e)

  -- a choice by which no fleet flies the leg is told only where legs may be left out
  pub out_told : (l c : ℕ) → IsPair t (leg_on l c) → is_flown t l c ≡ false → t.optional ≡ true
  out_told l c pair off = out_asked t l c pair.choice (grind (arith, nat_tests, off))
