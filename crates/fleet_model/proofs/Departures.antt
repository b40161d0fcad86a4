-- The choices of a leg as blocks, one of its times for each fleet, and the list of departures, one block for each leg. What the
-- words for choices and departures stand for is looked at here.
use Rattle.std.proofs.Common.{◌≡◌, ℕ, zero, suc, ◌+◌, ◌-◌, ◌*◌, ◌<◌, ◌≤◌, Bool, true, false, if◌then◌else◌, ◌==◌, List, [], ◌∷◌, ◌++◌, append_assoc, length, length-append, slice_index_or, ℤ, pos, ◌+ℤ◌, refl, sym, ◌∙◌, ap, subst, inl, inr, arith, nat_lt}
use Rattle.std.proofs.Math.Nat.{mod-lt}
use Rattle.std.proofs.lemmas.Bool.{cases_lt}
use Rattle.std.proofs.lemmas.Bool.Decides.{nat_tests}
use Rattle.std.proofs.lemmas.Int.{ints}
use Rattle.std.proofs.lemmas.List.{get_or_past}
use Rattle.std.proofs.lemmas.Nat.{div-add-mod', div-mul-add, mod-mul-add, row_fits}
use Rattle.sums.specs.Below.{sum_below, sum_below_ℤ}
use Rattle.sums.specs.Places.{list_below}
use Rattle.sums.proofs.Blocks.{appended, appended_ℤ, behind, blocks, blocks_ℤ, in_front, sum_below-more}
use Rattle.sums.proofs.Naturals.{as_a_sum}
use Rattle.sums.proofs.Places.{get_or-list_below, length-list_below, list_below-more}
use Rattle.sums.proofs.Sums.{sum_below-agree, sum_below-at, sum_below-zero}
use Rattle.sums.proofs.WholeSums.{sum_below_ℤ-same}
use Rattle.sums.proofs.WholeSwaps.{sum_below_ℤ-one, sum_below_ℤ-zero, where_true}
use Rattle.sums.proofs.WholeTerms.{sum_below_ℤ-stretches}
use Rattle.fleet_model.specs.declared.limits.TheConstants.{MAX_SHIFTS}
use Rattle.fleet_model.specs.declared.parts.Departure.{Departure}
use Rattle.fleet_model.specs.declared.parts.Leg.{Leg}
use Rattle.fleet_model.specs.declared.parts.Pair.{Pair}
use Rattle.fleet_model.specs.declared.tables.Tables.{Tables}
use Rattle.fleet_model.specs.Schedule.{IsFlown, choice_on, choices_in, departures_in, fleet_by, fleets_in, leg_at, leg_of, leg_on, legs_in, no_departure, no_leg, pair_on, shifts_in, slot_by}
use Rattle.fleet_model.specs.Windows.{at_time, departures_below, departures_of_legs, departures_on, times_of}

-- ---- the times of a leg
pub some_times : (t : Tables) (l : ℕ) → 0 < shifts_in t l
some_times t l = elim (cases_lt l (legs_in t)) [
  | inl below ↦ omega (arith, (t.in_range.legs_fit.each l no_leg below).shifts.own_there)
  | inr past ↦ subst (λ (leg : Leg). 0 < length leg.shifts) (sym (get_or_past t.legs l no_leg past)) (omega arith)
]

pub few_times : (t : Tables) (l : ℕ) → shifts_in t l ≤ MAX_SHIFTS
few_times t l = elim (cases_lt l (legs_in t)) [
  | inl below ↦ (t.in_range.legs_fit.each l no_leg below).shifts.few
  | inr past ↦ subst (λ (leg : Leg). length leg.shifts ≤ MAX_SHIFTS) (sym (get_or_past t.legs l no_leg past)) (omega arith)
]

-- ---- a choice by its fleet and its time
pub block_fleet : (t : Tables) (l f i : ℕ) → i < shifts_in t l → fleet_by t (leg_on l (f * shifts_in t l + i)) ≡ f
unfolding fleet_by
block_fleet t l f i within = div-mul-add f (shifts_in t l) i within

pub block_slot : (t : Tables) (l f i : ℕ) → i < shifts_in t l → slot_by t (leg_on l (f * shifts_in t l + i)) ≡ i
unfolding slot_by
block_slot t l f i within = mod-mul-add f (shifts_in t l) i within

pub in_block : (t : Tables) (p : Pair) → fleet_by t p * shifts_in t p.leg + slot_by t p ≡ p.choice
unfolding fleet_by slot_by
in_block t p = div-add-mod' p.choice (shifts_in t p.leg)

pub slot_within : (t : Tables) (p : Pair) → slot_by t p < shifts_in t p.leg
unfolding slot_by
slot_within t p = mod-lt p.choice (some_times t p.leg)

pub block_chosen : (t : Tables) (l f i : ℕ) → f < fleets_in t → i < shifts_in t l → f * shifts_in t l + i < choices_in t l
unfolding choices_in
block_chosen t l f i known within = omega (arith, row_fits f (shifts_in t l) (fleets_in t) (shifts_in t l) known (omega arith))

pub block_flown : (t : Tables) (l f i : ℕ) → l < legs_in t → f < fleets_in t → i < shifts_in t l → IsFlown t (leg_on l (f * shifts_in t l + i))
block_flown t l f i below known within = record {
  pair = record { leg = below; choice = block_chosen t l f i known within };
  by = subst (λ n. n < fleets_in t) (sym (block_fleet t l f i within)) known;
}

-- ---- what the choices of a leg by which one fleet flies it come to
-- beside the fleets' blocks there is one choice at most, by which none flies
pub last_adds : (h : ℕ → ℕ) (o : Bool) → h 0 ≡ 0 → sum_below h (if o then 1 else 0) ≡ 0
last_adds h true none = omega (arith, none)
last_adds h false none = refl

last_adds_ℤ : (h : ℕ → ℤ) (o : Bool) → h 0 ≡ pos 0 → sum_below_ℤ h (if o then 1 else 0) ≡ pos 0
last_adds_ℤ h true none = omega (arith, ints, none)
last_adds_ℤ h false none = refl

where_sum : (b : Bool) (h : ℕ → ℕ) (n : ℕ) → sum_below (λ i. if b then h i else 0) n ≡ (if b then sum_below h n else 0)
where_sum true h n = refl
where_sum false h n = sum_below-zero n

where_sum_ℤ : (b : Bool) (h : ℕ → ℤ) (n : ℕ) → sum_below_ℤ (λ i. where_true b (h i)) n ≡ where_true b (sum_below_ℤ h n)
where_sum_ℤ true h n = refl
where_sum_ℤ false h n = sum_below_ℤ-zero n

module _ (t : Tables) (l f : ℕ) (known : f < fleets_in t) where
  abbrev times : ℕ
  times = shifts_in t l

  other_last : (f == fleet_by t (leg_on l (fleets_in t * times + 0))) ≡ false
  other_last = let last = block_fleet t l (fleets_in t) 0 (some_times t l) in grind (arith, nat_tests, last)

  pub on_fleet : (g : Pair → ℕ) → sum_below (λ c. if f == fleet_by t (leg_on l c) then g (leg_on l c) else 0) (choices_in t l) ≡ sum_below (λ i. g (leg_on l (f * times + i))) times
  unfolding choices_in
  on_fleet g =
      let h : ℕ → ℕ = λ c. if f == fleet_by t (leg_on l c) then g (leg_on l c) else 0 in
      let last : h (fleets_in t * times + 0) ≡ 0 = ap (λ b. if b then g (leg_on l (fleets_in t * times + 0)) else 0) other_last in
      let each : (b i : ℕ) → i < times → h (b * times + i) ≡ (if f == b then g (leg_on l (b * times + i)) else 0) = λ b i within. ap (λ n. if f == n then g (leg_on l (b * times + i)) else 0) (block_fleet t l b i within) in
      sum_below-more h (fleets_in t * times) (if t.optional then 1 else 0)
      ∙ ap (λ n. sum_below h (fleets_in t * times) + n) (last_adds (λ c. h (fleets_in t * times + c)) t.optional last)
      ∙ omega arith
      ∙ blocks h (fleets_in t) times
      ∙ sum_below-agree (λ b. sum_below (λ i. h (b * times + i)) times) (λ b. if f == b then sum_below (λ i. g (leg_on l (b * times + i))) times else 0) (fleets_in t)
      (record {
        each = λ b below. sum_below-agree (λ i. h (b * times + i)) (λ i. if f == b then g (leg_on l (b * times + i)) else 0) times (record { each = each b })
            ∙ where_sum (f == b) (λ i. g (leg_on l (b * times + i))) times;
      })
      ∙ sum_below-at f (fleets_in t) (λ b. sum_below (λ i. g (leg_on l (b * times + i))) times) known

  pub on_fleet_ℤ : (g : Pair → ℤ) → sum_below_ℤ (λ c. where_true (f == fleet_by t (leg_on l c)) (g (leg_on l c))) (choices_in t l) ≡ sum_below_ℤ (λ i. g (leg_on l (f * times + i))) times
  unfolding choices_in
  on_fleet_ℤ g =
      let h : ℕ → ℤ = λ c. where_true (f == fleet_by t (leg_on l c)) (g (leg_on l c)) in
      let last : h (fleets_in t * times + 0) ≡ pos 0 = ap (λ b. where_true b (g (leg_on l (fleets_in t * times + 0)))) other_last in
      let each : (b i : ℕ) → i < times → h (b * times + i) ≡ where_true (f == b) (g (leg_on l (b * times + i))) = λ b i within. ap (λ n. where_true (f == n) (g (leg_on l (b * times + i)))) (block_fleet t l b i within) in
      sum_below_ℤ-stretches h (fleets_in t * times) (if t.optional then 1 else 0)
      ∙ ap (λ n. sum_below_ℤ h (fleets_in t * times) +ℤ n) (last_adds_ℤ (λ c. h (fleets_in t * times + c)) t.optional last)
      ∙ omega (arith, ints)
      ∙ blocks_ℤ h (fleets_in t) times
      ∙ sum_below_ℤ-same (λ b. sum_below_ℤ (λ i. h (b * times + i)) times) (λ b. where_true (f == b) (sum_below_ℤ (λ i. g (leg_on l (b * times + i))) times)) (fleets_in t)
      (λ b below. sum_below_ℤ-same (λ i. h (b * times + i)) (λ i. where_true (f == b) (g (leg_on l (b * times + i)))) times (each b)
      ∙ where_sum_ℤ (f == b) (λ i. g (leg_on l (b * times + i))) times)
      ∙ sum_below_ℤ-one f (λ b. sum_below_ℤ (λ i. g (leg_on l (b * times + i))) times) (fleets_in t) known

-- ---- the list of departures
-- each is of a leg, at one of its times
pub record IsAmong (legs : List Leg) (n : ℕ) (departure : Departure) : Type 0 where
  pub leg : departure.leg < n
  pub slot : departure.slot < times_of legs departure.leg

entry_on : (legs : List Leg) (l k : ℕ) → k < times_of legs l → slice_index_or (departures_on legs l) k no_departure ≡ at_time l k
entry_on legs l k within = get_or-list_below (at_time l) (times_of legs l) k no_departure within

count_on : (legs : List Leg) (l : ℕ) → length (departures_on legs l) ≡ times_of legs l
count_on legs l = length-list_below (at_time l) (times_of legs l)

among_below : (legs : List Leg) (n k : ℕ) → k < length (departures_below legs n) → IsAmong legs n (slice_index_or (departures_below legs n) k no_departure)
among_below legs zero k within = absurd (omega arith)
among_below legs (suc n) k within = elim (cases_lt k (length (departures_below legs n))) [
  | inl before ↦
      let was = among_below legs n k before in
      subst (IsAmong legs (suc n)) (sym (in_front (departures_below legs n) (departures_on legs n) no_departure k before)) (record { leg = omega (arith, was.leg); slot = was.slot })
  | inr past ↦
      let place = length (departures_below legs n) in
      let inside : k - place < times_of legs n = omega (arith, within, length-append (departures_below legs n) (departures_on legs n), count_on legs n) in
      let is : slice_index_or (departures_below legs (suc n)) k no_departure ≡ at_time n (k - place) =
      ap (λ j. slice_index_or (departures_below legs (suc n)) j no_departure) (as_a_sum k place past)
      ∙ behind (departures_below legs n) (departures_on legs n) no_departure (k - place) ∙ entry_on legs n (k - place) inside in
      subst (IsAmong legs (suc n)) (sym is) (record { leg = omega arith; slot = inside })
]

pub among : (t : Tables) (d : ℕ) → d < departures_in t → IsAmong t.legs (legs_in t) (slice_index_or t.departures d no_departure)
unfolding departures_in
among t d below =
    subst (λ listed. d < length listed → IsAmong t.legs (legs_in t) (slice_index_or listed d no_departure)) (sym t.in_range.departures_fit) (among_below t.legs (legs_in t) d) below

-- each leg at each of its times is there
pub record IsPlaceOf (listed : List Departure) (l slot d : ℕ) : Type 0 where
  pub within : d < length listed
  pub is : slice_index_or listed d no_departure ≡ at_time l slot

place_below : (legs : List Leg) (n l slot : ℕ) → l < n → slot < times_of legs l → (d : ℕ) × IsPlaceOf (departures_below legs n) l slot d
place_below legs zero l slot below within = absurd (omega arith)
place_below legs (suc n) l slot below within = elim (cases_lt l n) [
  | inl before ↦
      let was = place_below legs n l slot before within in
      (was.0, record { within = omega (arith, was.1.within, length-append (departures_below legs n) (departures_on legs n)); is = in_front (departures_below legs n) (departures_on legs n) no_departure was.0 was.1.within ∙ was.1.is })
  | inr past ↦
      let last : l ≡ n = omega arith in
      let inside : slot < times_of legs n = subst (λ m. slot < times_of legs m) last within in (
        length (departures_below legs n) + slot,
        record {
          within = omega (arith, inside, length-append (departures_below legs n) (departures_on legs n), count_on legs n);
          is = behind (departures_below legs n) (departures_on legs n) no_departure slot ∙ entry_on legs n slot inside ∙ ap (λ m. at_time m slot) (sym last);
        },
      )
]

pub place_of : (t : Tables) (l slot : ℕ) → l < legs_in t → slot < shifts_in t l → (d : ℕ) × IsPlaceOf t.departures l slot d
place_of t l slot below within = subst (λ listed. (d : ℕ) × IsPlaceOf listed l slot d) (sym t.in_range.departures_fit) (place_below t.legs (legs_in t) l slot below within)

-- one time more of a leg
pub listed_more : (l slot : ℕ) (first now : List Departure) → now ≡ first ++ list_below (at_time l) slot → now ++ at_time l slot ∷ [] ≡ first ++ list_below (at_time l) (slot + 1)
listed_more l slot first now is =
    ap (λ listed. listed ++ at_time l slot ∷ []) is ∙ append_assoc first (list_below (at_time l) slot) (at_time l slot ∷ []) ∙ ap (λ listed. first ++ listed) (sym (list_below-more (at_time l) slot))

-- what departures come to is added up leg by leg
over_list : (h : Departure → ℕ) (legs : List Leg) (n : ℕ)
    → sum_below (λ d. h (slice_index_or (departures_below legs n) d no_departure)) (length (departures_below legs n)) ≡ sum_below (λ l. sum_below (λ i. h (at_time l i)) (times_of legs l)) n
over_list h legs zero = refl
over_list h legs (suc n) =
    let here : sum_below (λ d. h (slice_index_or (departures_on legs n) d no_departure)) (length (departures_on legs n)) ≡ sum_below (λ i. h (at_time n i)) (times_of legs n) =
    ap (sum_below (λ d. h (slice_index_or (departures_on legs n) d no_departure))) (count_on legs n)
    ∙ sum_below-agree (λ d. h (slice_index_or (departures_on legs n) d no_departure)) (λ i. h (at_time n i)) (times_of legs n) (record { each = λ i within. ap h (entry_on legs n i within) }) in
    appended h no_departure (departures_below legs n) (departures_on legs n)
    ∙ ap (λ m. m + sum_below (λ d. h (slice_index_or (departures_on legs n) d no_departure)) (length (departures_on legs n))) (over_list h legs n)
    ∙ ap (λ m. sum_below (λ l. sum_below (λ i. h (at_time l i)) (times_of legs l)) n + m) here

over_list_ℤ : (h : Departure → ℤ) (legs : List Leg) (n : ℕ)
    → sum_below_ℤ (λ d. h (slice_index_or (departures_below legs n) d no_departure)) (length (departures_below legs n)) ≡ sum_below_ℤ (λ l. sum_below_ℤ (λ i. h (at_time l i)) (times_of legs l)) n
over_list_ℤ h legs zero = refl
over_list_ℤ h legs (suc n) =
    let here : sum_below_ℤ (λ d. h (slice_index_or (departures_on legs n) d no_departure)) (length (departures_on legs n)) ≡ sum_below_ℤ (λ i. h (at_time n i)) (times_of legs n) =
    ap (sum_below_ℤ (λ d. h (slice_index_or (departures_on legs n) d no_departure))) (count_on legs n)
    ∙ sum_below_ℤ-same (λ d. h (slice_index_or (departures_on legs n) d no_departure)) (λ i. h (at_time n i)) (times_of legs n) (λ i within. ap h (entry_on legs n i within)) in
    appended_ℤ h no_departure (departures_below legs n) (departures_on legs n)
    ∙ ap (λ m. m +ℤ sum_below_ℤ (λ d. h (slice_index_or (departures_on legs n) d no_departure)) (length (departures_on legs n))) (over_list_ℤ h legs n)
    ∙ ap (λ m. sum_below_ℤ (λ l. sum_below_ℤ (λ i. h (at_time l i)) (times_of legs l)) n +ℤ m) here

module _ (t : Tables) (f : ℕ) where
  pub over_departures : (g : Pair → ℕ) → sum_below (λ l. sum_below (λ i. g (leg_on l (f * shifts_in t l + i))) (shifts_in t l)) (legs_in t) ≡ sum_below (λ d. g (pair_on t d f)) (departures_in t)
  unfolding departures_in leg_at choice_on
  over_departures g =
      let h : Departure → ℕ = λ departure. g (leg_on departure.leg (f * shifts_in t departure.leg + departure.slot)) in
      let Sums : List Departure → Type 0 = λ listed. sum_below (λ l. sum_below (λ i. h (at_time l i)) (shifts_in t l)) (legs_in t) ≡ sum_below (λ d. h (slice_index_or listed d no_departure)) (length listed) in
      let sums : Sums (departures_of_legs t.legs) = sym (over_list h t.legs (legs_in t)) in
      subst Sums (sym t.in_range.departures_fit) sums

  pub over_departures_ℤ : (g : Pair → ℤ) → sum_below_ℤ (λ l. sum_below_ℤ (λ i. g (leg_on l (f * shifts_in t l + i))) (shifts_in t l)) (legs_in t) ≡ sum_below_ℤ (λ d. g (pair_on t d f)) (departures_in t)
  unfolding departures_in leg_at choice_on
  over_departures_ℤ g =
      let h : Departure → ℤ = λ departure. g (leg_on departure.leg (f * shifts_in t departure.leg + departure.slot)) in
      let Sums : List Departure → Type 0 = λ listed. sum_below_ℤ (λ l. sum_below_ℤ (λ i. h (at_time l i)) (shifts_in t l)) (legs_in t) ≡ sum_below_ℤ (λ d. h (slice_index_or listed d no_departure)) (length listed) in
      let sums : Sums (departures_of_legs t.legs) = sym (over_list_ℤ h t.legs (legs_in t)) in
      subst Sums (sym t.in_range.departures_fit) sums
