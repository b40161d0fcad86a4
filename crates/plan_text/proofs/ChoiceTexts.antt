-- The texts of a leg's choices: no two choices have the same, so a choice is found by its texts.
use Rattle.std.proofs.Common.{◌≡◌, ℕ, zero, suc, ◌+◌, ◌*◌, ◌<◌, ◌≤◌, Bool, true, false, if◌then◌else◌, List, length, slice_index_or, bytes_eq, codes, Option, Some, None, ℤ, pos, negsuc, neg_ℤ, ◌^◌, AllPairs, refl, sym, ◌∙◌, ap, subst, inl, inr, arith}
use Rattle.std.specs.Fmt.{signed_decimal}
use Rattle.std.specs.Prelude.{◌⊎◌, ◌<ℤ◌, ◌≤ℤ◌}
use Rattle.std.proofs.lemmas.Bool.{cases_Bool, cases_lt, le-ltb, lt-ltb}
use Rattle.std.proofs.lemmas.Fmt.{decimal_digit, signed_decimal_injective}
use Rattle.std.proofs.lemmas.Int.{ints}
use Rattle.std.proofs.lemmas.Slice.Eq.{bytes_eq-Decides}
use Rattle.sums.specs.Places.{first_below, or_else}
use Rattle.sums.proofs.Places.{all_nothing, first_found, nothing_at}
use Rattle.sums.proofs.Tests.{none_some, parts_true, some_is, unlike}
use Rattle.entries.specs.Names.{IsName}
use Rattle.fleet_model.specs.Limits.{IsShift}
use Rattle.fleet_model.specs.Schedule.{choices_in, fleet_by, fleet_names, fleet_of, fleets_in, left_out, leg_of, leg_on, legs_in, no_fleet, no_leg, own_shift, shift_by, shifts_in, slot_by}
use Rattle.fleet_model.specs.declared.parts.Pair.{Pair}
use Rattle.fleet_model.specs.declared.shifts.Shift.{Shift}
use Rattle.fleet_model.specs.declared.tables.Tables.{Tables}
use Rattle.fleet_model.proofs.Departures.{block_chosen, block_fleet, block_slot, in_block, slot_within, some_times}
use Rattle.fleet_model.proofs.FewChoices.{few_choices}
use Rattle.fleet_model.proofs.LeftOut.{last_choice}
use Rattle.table_rows.specs.Names.{number_of_name}
use Rattle.table_rows.proofs.FrontReading.{bytes_eq-self}
use Rattle.plan_text.specs.Reading.{choice_with, has_minutes, has_texts, slot_with}
use Rattle.plan_text.specs.Text.{fleet_text, shift_minutes, shift_text}
use Rattle.plan_text.proofs.FleetNames.{named, numbered}

-- ---- the first number that passes a test
record IsFirst (p : ℕ → Bool) (n k : ℕ) : Type 0 where
  within : k < n
  passes : p k ≡ true

where_passes : (p : ℕ → Bool) (n k m : ℕ) (b : Bool) → k < n → p k ≡ b → ◌≡◌ {A = Option ℕ} (if b then Some k else None) (Some m) → IsFirst p n m
where_passes p n k m true within passes is = subst (IsFirst p n) (some_is k m is) (record { within = within; passes = passes })
where_passes p n k m false within passes is = absurd (none_some is)

either_of : (o other : Option ℕ) (m : ℕ) → or_else o other ≡ Some m → (o ≡ Some m) ⊎ (other ≡ Some m)
either_of (Some k) other m found = inl found
either_of None other m found = inr found

first_is : (p : ℕ → Bool) (n m : ℕ) → first_below (λ k. if p k then Some k else None) n ≡ Some m → IsFirst p n m
first_is p zero m found = absurd (none_some found)
first_is p (suc n) m found = elim (either_of (first_below (λ k. if p k then Some k else None) n) (if p n then Some n else None) m found) [
  | inl front ↦ (let before = first_is p n m front in record { within = omega (arith, before.within); passes = before.passes })
  | inr last ↦ where_passes p (suc n) n m (p n) (omega arith) refl last
]

pub none_passes : (p : ℕ → Bool) (n : ℕ) → ((k : ℕ) → k < n → p k ≡ false) → first_below (λ k. if p k then Some k else None) n ≡ None
none_passes p n fails = all_nothing (λ k. if p k then Some k else None) n (λ k below. ap (λ b. if b then Some k else None) (fails k below))

pub one_passes : (p : ℕ → Bool) (n m : ℕ) → ((k : ℕ) → k < m → p k ≡ false) → p m ≡ true → m < n → first_below (λ k. if p k then Some k else None) n ≡ Some m
one_passes p n m before passes within =
    first_found (λ k. if p k then Some k else None) m n m (none_passes p m before) (ap (λ b. if b then Some m else None) passes) within

-- ---- the texts of flown pairs, and of those that leave their legs out
pub flown_name : (t : Tables) (p : Pair) → fleet_by t p < fleets_in t → fleet_text t p ≡ (fleet_of t (fleet_by t p)).name
flown_name t p flown = ap (λ b. if b then (fleet_of t (fleet_by t p)).name else codes "-") (lt-ltb (fleet_by t p) (fleets_in t) flown)

pub flown_minutes : (t : Tables) (p : Pair) → fleet_by t p < fleets_in t → shift_minutes t p ≡ (shift_by t p).minutes
flown_minutes t p flown = ap (λ b. if b then (shift_by t p).minutes else pos 0) (lt-ltb (fleet_by t p) (fleets_in t) flown)

pub out_name : (t : Tables) (p : Pair) → fleets_in t ≤ fleet_by t p → fleet_text t p ≡ codes "-"
out_name t p out = ap (λ b. if b then (fleet_of t (fleet_by t p)).name else codes "-") (le-ltb (fleet_by t p) (fleets_in t) out)

pub out_minutes : (t : Tables) (p : Pair) → fleets_in t ≤ fleet_by t p → shift_minutes t p ≡ pos 0
out_minutes t p out = ap (λ b. if b then (shift_by t p).minutes else pos 0) (le-ltb (fleet_by t p) (fleets_in t) out)

-- no name is -
pub no_dash : (name : List ℕ) → IsName name → name ≡ codes "-" → ⊥
no_dash name form is = unlike (sym (rw is at (form.2 0 0 form.0)))

-- ---- no two choices of a leg have the same texts
shift_fits : (t : Tables) (l c : ℕ) → l < legs_in t → IsShift t.settings.period (leg_of t l).dep (shift_by t (leg_on l c))
shift_fits t l c leg = (t.in_range.legs_fit.each l no_leg leg).shifts.each (slot_by t (leg_on l c)) (own_shift 0) (slot_within t (leg_on l c))

-- minutes by which a leg may be moved
pub record IsSmall (z : ℤ) : Type 0 where
  pub least : neg_ℤ (pos 720) ≤ℤ z
  pub most : z ≤ℤ pos 720

pub small_minutes : (t : Tables) (l c : ℕ) → l < legs_in t → IsSmall (shift_minutes t (leg_on l c))
small_minutes t l c leg = elim (cases_lt (fleet_by t (leg_on l c)) (fleets_in t)) [
  | inl flown ↦ (let shift = shift_fits t l c leg in rw (flown_minutes t (leg_on l c) flown) (record { least = shift.no_earlier; most = shift.no_later }))
  | inr out ↦ rw (out_minutes t (leg_on l c) out) (record { least = omega (arith, ints); most = omega (arith, ints) })
]

one_number : (y z : ℤ) → IsSmall y → IsSmall z → signed_decimal y ≡ signed_decimal z → y ≡ z
one_number (pos m) (pos n) small other same = signed_decimal_injective (pos m) (pos n) (omega (arith, ints, small.most)) (omega (arith, ints, other.most)) same
one_number (pos m) (negsuc n) small other same = signed_decimal_injective (pos m) (negsuc n) (omega (arith, ints, small.most)) (omega (arith, ints, other.least)) same
one_number (negsuc m) (pos n) small other same = signed_decimal_injective (negsuc m) (pos n) (omega (arith, ints, small.least)) (omega (arith, ints, other.most)) same
one_number (negsuc m) (negsuc n) small other same = signed_decimal_injective (negsuc m) (negsuc n) (omega (arith, ints, small.least)) (omega (arith, ints, other.least)) same

one_slot : (shifts : List Shift) (i j : ℕ) → AllPairs (λ a b. a.minutes <ℤ b.minutes) shifts → i < length shifts → j < length shifts
    → (slice_index_or shifts i (own_shift 0)).minutes ≡ (slice_index_or shifts j (own_shift 0)).minutes → i ≡ j
one_slot shifts i j rise first second same = elim (cases_lt i j) [
  | inl less ↦ absurd (omega (arith, ints, rise i j (own_shift 0) less second, same))
  | inr most ↦ elim (cases_lt j i) [
    | inl more ↦ absurd (omega (arith, ints, rise j i (own_shift 0) more first, same))
    | inr least ↦ omega arith
  ]
]

module _ (t : Tables) (l : ℕ) (leg : l < legs_in t) where
  abbrev by : ℕ → ℕ
  by c = fleet_by t (leg_on l c)

  -- the same fleet at the same time is the same choice
  both_flown : (b c : ℕ) → by b < fleets_in t → by c < fleets_in t → fleet_text t (leg_on l b) ≡ fleet_text t (leg_on l c)
      → shift_text t (leg_on l b) ≡ shift_text t (leg_on l c) → b ≡ c
  both_flown b c flown other fleets shifts =
      let names = sym (flown_name t (leg_on l b) flown) ∙ fleets ∙ flown_name t (leg_on l c) other in
      let numbers = sym (numbered t (by b) flown) ∙ ap (λ name. number_of_name name (fleet_names t)) names ∙ numbered t (by c) other in
      let fleet : by b ≡ by c = some_is (by b) (by c) numbers in
      let texts = one_number (shift_minutes t (leg_on l b)) (shift_minutes t (leg_on l c)) (small_minutes t l b leg) (small_minutes t l c leg) shifts in
      let minutes = sym (flown_minutes t (leg_on l b) flown) ∙ texts ∙ flown_minutes t (leg_on l c) other in
      let slot : slot_by t (leg_on l b) ≡ slot_by t (leg_on l c) =
      one_slot (leg_of t l).shifts (slot_by t (leg_on l b)) (slot_by t (leg_on l c)) (t.in_range.legs_fit.each l no_leg leg).shifts.rise
      (slot_within t (leg_on l b)) (slot_within t (leg_on l c)) minutes in
      sym (in_block t (leg_on l b)) ∙ ap (λ f. f * shifts_in t l + slot_by t (leg_on l b)) fleet ∙ ap (λ s. by c * shifts_in t l + s) slot ∙ in_block t (leg_on l c)

  -- a flown pair has the name of a fleet, and none of these is -
  not_dash : (c : ℕ) → by c < fleets_in t → fleet_text t (leg_on l c) ≡ codes "-" → ⊥
  not_dash c flown dash = no_dash (fleet_of t (by c)).name (t.in_range.fleets_fit.each (by c) no_fleet flown).name (sym (flown_name t (leg_on l c) flown) ∙ dash)

  pub one_choice : (b c : ℕ) → b < choices_in t l → c < choices_in t l → fleet_text t (leg_on l b) ≡ fleet_text t (leg_on l c)
      → shift_text t (leg_on l b) ≡ shift_text t (leg_on l c) → b ≡ c
  one_choice b c first second fleets shifts = elim (cases_lt (by b) (fleets_in t)) [
    | inl flown ↦ elim (cases_lt (by c) (fleets_in t)) [
      | inl other ↦ both_flown b c flown other fleets shifts
      | inr out ↦ absurd (not_dash b flown (fleets ∙ out_name t (leg_on l c) out))
    ]
    | inr out ↦ elim (cases_lt (by c) (fleets_in t)) [
      | inl flown ↦ absurd (not_dash c flown (sym fleets ∙ out_name t (leg_on l b) out))
      | inr none ↦ last_choice t l b first out ∙ sym (last_choice t l c second none)
    ]
  ]

  -- ---- finding a choice by its texts
  module _ (fleet shift : List ℕ) where
    -- these are the texts of a choice
    pub record AreTextsOf (c : ℕ) : Type 0 where
      pub known : c < choices_in t l
      pub fleet_same : fleet ≡ fleet_text t (leg_on l c)
      pub shift_same : shift ≡ shift_text t (leg_on l c)

    tested : (c : ℕ) → c < choices_in t l → has_texts t l fleet shift c ≡ true → AreTextsOf c
    tested c known passes =
        let parts = parts_true (bytes_eq fleet (fleet_text t (leg_on l c))) (bytes_eq shift (shift_text t (leg_on l c))) passes in
        record {
          known = known;
          fleet_same = (bytes_eq-Decides fleet (fleet_text t (leg_on l c))).0 parts.0;
          shift_same = (bytes_eq-Decides shift (shift_text t (leg_on l c))).0 parts.1;
        }

    not_tested : (c : ℕ) → c < choices_in t l → (AreTextsOf c → ⊥) → has_texts t l fleet shift c ≡ false
    not_tested c known others = elim (cases_Bool (has_texts t l fleet shift c)) [
      | inl passes ↦ absurd (others (tested c known passes))
      | inr fails ↦ fails
    ]

    pub texts_found : (c : ℕ) → choice_with t l fleet shift ≡ Some c → AreTextsOf c
    unfolding choice_with
    texts_found c found = let first = first_is (has_texts t l fleet shift) (choices_in t l) c found in tested c first.within first.passes

    pub choice_found : (c : ℕ) → AreTextsOf c → choice_with t l fleet shift ≡ Some c
    unfolding choice_with
    choice_found c texts =
        one_passes (has_texts t l fleet shift) (choices_in t l) c (λ k before. not_tested k (omega (arith, texts.known))
        (λ others. absurd (omega (arith, one_choice k c others.known texts.known (sym others.fleet_same ∙ texts.fleet_same) (sym others.shift_same ∙ texts.shift_same)))))
        (rw (texts.fleet_same, texts.shift_same, bytes_eq-self (fleet_text t (leg_on l c)), bytes_eq-self (shift_text t (leg_on l c))) refl) texts.known

    pub no_choice : ((c : ℕ) → AreTextsOf c → ⊥) → choice_with t l fleet shift ≡ None
    unfolding choice_with
    no_choice others = none_passes (has_texts t l fleet shift) (choices_in t l) (λ c known. not_tested c known (others c))

pub front_found : (p : ℕ → Bool) (k n : ℕ) → first_below (λ k. if p k then Some k else None) k ≡ None → p k ≡ true → k < n → Some k ≡ first_below (λ k. if p k then Some k else None) n
front_found p k n none passes within = sym (first_found (λ k. if p k then Some k else None) k n k none (ap (λ b. if b then Some k else None) passes) within)

-- ---- a leg that is left out
pub zero_text : signed_decimal (pos 0) ≡ codes "0"
zero_text = decimal_digit 0 (omega arith)

module _ (t : Tables) (l : ℕ) (leg : l < legs_in t) (shift : List ℕ) where
  out_known : t.optional ≡ true → left_out t l < choices_in t l
  unfolding choices_in
  out_known optional = subst (λ b. left_out t l < left_out t l + (if b then 1 else 0)) (sym optional) (omega arith)

  out_by_none : fleets_in t ≤ fleet_by t (leg_on l (left_out t l))
  out_by_none =
      let place : fleets_in t * shifts_in t l + 0 ≡ left_out t l = omega arith in
      let fleet = ap (λ c. fleet_by t (leg_on l c)) (sym place) ∙ block_fleet t l (fleets_in t) 0 (some_times t l) in
      omega (arith, fleet)

  pub left_out_found : t.optional ≡ true → shift ≡ codes "0" → Some (left_out t l) ≡ choice_with t l (codes "-") shift
  left_out_found optional own =
      sym (choice_found t l leg (codes "-") shift (left_out t l)
      (record {
        known = out_known optional;
        fleet_same = sym (out_name t (leg_on l (left_out t l)) out_by_none);
        shift_same = own ∙ sym zero_text ∙ ap signed_decimal (sym (out_minutes t (leg_on l (left_out t l)) out_by_none));
      }))

  may_be_left_out : (b : Bool) (c : ℕ) → c < left_out t l + (if b then 1 else 0) → left_out t l ≤ c → b ≡ true
  may_be_left_out true c within out = refl
  may_be_left_out false c within out = absurd (omega arith)

  out_optional : (c : ℕ) → c < choices_in t l → left_out t l ≤ c → t.optional ≡ true
  unfolding choices_in
  out_optional c within out = may_be_left_out t.optional c within out

  pub left_out_none : (t.optional ≡ true → shift ≡ codes "0" → ⊥) → None ≡ choice_with t l (codes "-") shift
  left_out_none refused =
      sym (no_choice t l leg (codes "-") shift (λ c texts. elim (cases_lt (fleet_by t (leg_on l c)) (fleets_in t)) [
        | inl flown ↦ not_dash t l leg c flown (sym texts.fleet_same)
        | inr out ↦
            let last = last_choice t l c texts.known out in
            let own = texts.shift_same ∙ ap signed_decimal (out_minutes t (leg_on l c) out) ∙ zero_text in
            refused (out_optional c texts.known (omega (arith, last))) own
      ]))

-- ---- a leg that a fleet flies
module _ (t : Tables) (l : ℕ) (leg : l < legs_in t) (fleet shift : List ℕ) where
  pub flown_found : (f s : ℕ) → number_of_name fleet (fleet_names t) ≡ Some f → slot_with (leg_of t l).shifts shift ≡ Some s → Some (f * shifts_in t l + s) ≡ choice_with t l fleet shift
  unfolding slot_with
  flown_found f s number slot =
      let name = named t fleet f number in
      let first = first_is (has_minutes (leg_of t l).shifts shift) (shifts_in t l) s slot in
      let by : fleet_by t (leg_on l (f * shifts_in t l + s)) ≡ f = block_fleet t l f s first.within in
      let flown : fleet_by t (leg_on l (f * shifts_in t l + s)) < fleets_in t = rw by name.within in
      let own = (bytes_eq-Decides shift (signed_decimal (slice_index_or (leg_of t l).shifts s (own_shift 0)).minutes)).0 first.passes in
      sym (choice_found t l leg fleet shift (f * shifts_in t l + s)
      (record {
        known = block_chosen t l f s name.within first.within;
        fleet_same = name.same ∙ ap (λ n. (fleet_of t n).name) (sym by) ∙ sym (flown_name t (leg_on l (f * shifts_in t l + s)) flown);
        shift_same =
            own ∙ ap (λ k. signed_decimal (slice_index_or (leg_of t l).shifts k (own_shift 0)).minutes) (sym (block_slot t l f s first.within))
            ∙ ap signed_decimal (sym (flown_minutes t (leg_on l (f * shifts_in t l + s)) flown));
      }))

  untested : (k : ℕ) (b : Bool) → ◌≡◌ {A = Option ℕ} (if b then Some k else None) None → b ≡ false
  untested k true found = absurd (none_some (sym found))
  untested k false found = refl

  pub flown_at_none : (f : ℕ) → number_of_name fleet (fleet_names t) ≡ Some f → slot_with (leg_of t l).shifts shift ≡ None → None ≡ choice_with t l fleet shift
  unfolding slot_with
  flown_at_none f number slot =
      sym (no_choice t l leg fleet shift (λ c texts. elim (cases_lt (fleet_by t (leg_on l c)) (fleets_in t)) [
        | inl flown ↦
            let s = slot_by t (leg_on l c) in
            let own = texts.shift_same ∙ ap signed_decimal (flown_minutes t (leg_on l c) flown) in
            let fails = untested s (has_minutes (leg_of t l).shifts shift s) (nothing_at (λ k. if has_minutes (leg_of t l).shifts shift k then Some k else None) (shifts_in t l) s slot (slot_within t (leg_on l c))) in
            unlike (sym ((bytes_eq-Decides shift (signed_decimal (slice_index_or (leg_of t l).shifts s (own_shift 0)).minutes)).1 own) ∙ fails)
        | inr out ↦
            let name = named t fleet f number in
            no_dash (fleet_of t f).name (t.in_range.fleets_fit.each f no_fleet name.within).name (sym name.same ∙ texts.fleet_same ∙ out_name t (leg_on l c) out)
      ]))

  pub flown_by_none : number_of_name fleet (fleet_names t) ≡ None → (fleet ≡ codes "-" → ⊥) → None ≡ choice_with t l fleet shift
  flown_by_none number other =
      sym (no_choice t l leg fleet shift (λ c texts. elim (cases_lt (fleet_by t (leg_on l c)) (fleets_in t)) [
        | inl flown ↦
            let name = texts.fleet_same ∙ flown_name t (leg_on l c) flown in
            none_some (sym number ∙ ap (λ n. number_of_name n (fleet_names t)) name ∙ numbered t (fleet_by t (leg_on l c)) flown)
        | inr out ↦ other (texts.fleet_same ∙ out_name t (leg_on l c) out)
      ]))

  -- its number is a small one
  pub small_choice : (f s : ℕ) → number_of_name fleet (fleet_names t) ≡ Some f → slot_with (leg_of t l).shifts shift ≡ Some s → f * shifts_in t l + s < 2 ^ 32
  unfolding slot_with
  small_choice f s number slot =
      let name = named t fleet f number in
      let first = first_is (has_minutes (leg_of t l).shifts shift) (shifts_in t l) s slot in
      omega (arith, block_chosen t l f s name.within first.within, few_choices t l)
