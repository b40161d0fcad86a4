-- Legs flown at their own times; and where each leg departs once, all that is flown. What the words for departures and choices
-- stand for is looked at here for a leg's own time.
use Rattle.std.proofs.Common.{◌≡◌, ℕ, ◌+◌, ◌*◌, ◌<◌, false, nat_lt, if◌then◌else◌, length, slice_index_or, sym, ◌∙◌, ap, subst, inl, inr, arith}
use Rattle.std.proofs.lemmas.Bool.{cases_lt, lt-ltb}
use Rattle.std.proofs.lemmas.Bool.Decides.{nat_tests}
use Rattle.std.proofs.lemmas.List.{get_or_past}
use Rattle.sums.specs.Below.{sum_below}
use Rattle.sums.proofs.Blocks.{sum_below-more}
use Rattle.sums.proofs.Sums.{sum_below-agree}
use Rattle.fleet_model.specs.declared.parts.Leg.{Leg}
use Rattle.fleet_model.specs.declared.parts.Pair.{Pair}
use Rattle.fleet_model.specs.declared.tables.Tables.{Tables}
use Rattle.fleet_model.specs.OwnTimes.{own_choice, own_pair}
use Rattle.fleet_model.specs.Plain.{IsPlain}
use Rattle.fleet_model.specs.Schedule.{IsFlown, choices_in, departures_in, fleet_by, fleets_in, leg_of, leg_on, legs_in, no_leg, own_shift, pair_on, shifts_in}
use Rattle.fleet_model.specs.Times.{departure}
use Rattle.fleet_model.specs.Windows.{own_slot}
use Rattle.fleet_model.proofs.Departures.{block_flown, block_slot, last_adds}
use Rattle.fleet_model.proofs.PlainTables.{once_plain, one_time, plain_fleet, plain_pair}

-- a leg's own time is among its times
pub has_own : (t : Tables) (l : ℕ) → own_slot (leg_of t l).shifts < shifts_in t l
has_own t l = elim (cases_lt l (legs_in t)) [
  | inl below ↦ (t.in_range.legs_fit.each l no_leg below).shifts.own_there
  | inr past ↦ subst (λ (leg : Leg). own_slot leg.shifts < length leg.shifts) (sym (get_or_past t.legs l no_leg past)) (omega arith)
]

pub own_flown : (t : Tables) (l f : ℕ) → l < legs_in t → f < fleets_in t → IsFlown t (own_pair t l f)
unfolding own_choice
own_flown t l f below known = block_flown t l f (own_slot (leg_of t l).shifts) below known (has_own t l)

own_at : (t : Tables) (l f : ℕ) → departure t (own_pair t l f) ≡ (slice_index_or (leg_of t l).shifts (own_slot (leg_of t l).shifts) (own_shift 0)).dep
unfolding own_choice departure
own_at t l f = ap (λ k. (slice_index_or (leg_of t l).shifts k (own_shift 0)).dep) (block_slot t l f (own_slot (leg_of t l).shifts) (has_own t l))

-- a leg's own time is one, whichever fleet flies it
pub own_departure : (t : Tables) (l f g : ℕ) → departure t (own_pair t l f) ≡ departure t (own_pair t l g)
own_departure t l f g = own_at t l f ∙ sym (own_at t l g)

-- ---- where each leg departs once
plain_own : (t : Tables) (l f : ℕ) → IsPlain t → own_pair t l f ≡ leg_on l f
unfolding own_choice
plain_own t l f plain =
    let first : own_slot (leg_of t l).shifts ≡ 0 = omega (arith, has_own t l, one_time t plain l) in
    ap (λ n. leg_on l (f * n + own_slot (leg_of t l).shifts)) (one_time t plain l) ∙ ap (leg_on l) (omega (arith, first))

pub once_on : (t : Tables) (d f : ℕ) → departures_in t ≡ legs_in t → d < departures_in t → f < fleets_in t → pair_on t d f ≡ own_pair t d f
once_on t d f once below known = plain_pair t d f (once_plain t once) (subst (λ n. d < n) once below) ∙ sym (plain_own t d f (once_plain t once))

pub once_flown : (t : Tables) (p : Pair) → departures_in t ≡ legs_in t → IsFlown t p → own_pair t p.leg (fleet_by t p) ≡ p
once_flown t p once flown =
    let plain : IsPlain t = once_plain t once in
    plain_own t p.leg (fleet_by t p) plain ∙ ap (leg_on p.leg) (plain_fleet t p.leg p.choice plain)

-- what is added up over a leg's choices by which it is flown is added up over the fleets
pub once_by_fleets : (t : Tables) (g : Pair → ℕ) (l : ℕ) → departures_in t ≡ legs_in t → l < legs_in t
    → sum_below (λ c. if nat_lt (fleet_by t (leg_on l c)) (fleets_in t) then g (leg_on l c) else 0) (choices_in t l) ≡ sum_below (λ f. g (own_pair t l f)) (fleets_in t)
unfolding choices_in
once_by_fleets t g l once below =
    let plain : IsPlain t = once_plain t once in
    let h : ℕ → ℕ = λ c. if nat_lt (fleet_by t (leg_on l c)) (fleets_in t) then g (leg_on l c) else 0 in
    let is : (c : ℕ) → h c ≡ (if nat_lt c (fleets_in t) then g (leg_on l c) else 0) = λ c. ap (λ n. if nat_lt n (fleets_in t) then g (leg_on l c) else 0) (plain_fleet t l c plain) in
    let number : fleets_in t * shifts_in t l ≡ fleets_in t = ap (λ n. fleets_in t * n) (one_time t plain l) ∙ omega arith in
    let past : nat_lt (fleets_in t + 0) (fleets_in t) ≡ false = grind (arith, nat_tests) in
    ap (λ n. sum_below h (n + (if t.optional then 1 else 0))) number
    ∙ sum_below-more h (fleets_in t) (if t.optional then 1 else 0)
    ∙ ap (λ n. sum_below h (fleets_in t) + n) (last_adds (λ c. h (fleets_in t + c)) t.optional (is (fleets_in t + 0) ∙ ap (λ b. if b then g (leg_on l (fleets_in t + 0)) else 0) past))
    ∙ omega arith
    ∙ sum_below-agree h (λ f. g (own_pair t l f)) (fleets_in t)
    (record { each = λ c known. is c ∙ ap (λ b. if b then g (leg_on l c) else 0) (lt-ltb c (fleets_in t) known) ∙ ap g (sym (plain_own t l c plain)) })
