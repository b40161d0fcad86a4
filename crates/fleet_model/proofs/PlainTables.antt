-- On plain tables what is added up over departures is added up over legs. What the words for choices and departures stand
-- for is looked at here for legs that depart at one time.
use Rattle.std.proofs.Common.{◌≡◌, ℕ, zero, suc, ◌+◌, ◌*◌, ◌/◌, ◌<◌, ◌≤◌, if◌then◌else◌, List, ◌++◌, length, length-append, slice_index_or, refl, sym, ◌∙◌, ap, inl, inr, arith}
use Rattle.std.proofs.lemmas.Bool.{cases_lt}
use Rattle.std.proofs.lemmas.List.{get_or_past}
use Rattle.std.proofs.lemmas.Nat.{mul-le}
use Rattle.sums.specs.Below.{sum_below}
use Rattle.sums.specs.Places.{list_below}
use Rattle.sums.proofs.Places.{get_or-list_below, length-list_below, list_below-push}
use Rattle.sums.proofs.Sums.{sum_below-agree, sum_below-ones}
use Rattle.sums.proofs.Terms.{less_sum}
use Rattle.fleet_model.specs.declared.parts.Departure.{Departure}
use Rattle.fleet_model.specs.declared.parts.Leg.{Leg}
use Rattle.fleet_model.specs.declared.parts.Pair.{Pair}
use Rattle.fleet_model.specs.declared.tables.Tables.{Tables}
use Rattle.fleet_model.specs.Counts.{Weights, arrived, departed, has_come, has_left}
use Rattle.fleet_model.specs.Plain.{IsPlain}
use Rattle.fleet_model.specs.Schedule.{IsPair, choice_on, choices_in, departures_in, fleet_by, fleets_in, leg_at, leg_on, legs_in, no_departure, no_leg, pair_on, period_of, shifts_in}
use Rattle.fleet_model.specs.Times.{departure, laps_of}
use Rattle.fleet_model.specs.Use.{laps_flown}
use Rattle.fleet_model.specs.Windows.{at_time, departures_below, departures_on, times_of}
use Rattle.fleet_model.proofs.Departures.{some_times}
use Rattle.fleet_model.proofs.PeriodMinutes.{departs_always}

-- ---- the one time of a leg
-- .. and of what stands for no leg
pub one_time : (t : Tables) → IsPlain t → (l : ℕ) → shifts_in t l ≡ 1
unfolding IsPlain
one_time t plain l = elim (cases_lt l (legs_in t)) [
  | inl below ↦ plain l below
  | inr past ↦ ap (λ (leg : Leg). length leg.shifts) (get_or_past t.legs l no_leg past)
]

-- a leg has a choice for each fleet at least
pub fleet_chooses : (t : Tables) (l f : ℕ) → f < fleets_in t → f < choices_in t l
unfolding choices_in
fleet_chooses t l f known = omega (arith, known, mul-le (fleets_in t) 1 (fleets_in t) (shifts_in t l) (omega arith) (some_times t l))

pub fleet_pair : (t : Tables) (l f : ℕ) → l < legs_in t → f < fleets_in t → IsPair t (leg_on l f)
fleet_pair t l f below known = record { leg = below; choice = fleet_chooses t l f known }

-- .. and by that the fleet flies it, where it departs at one time
pub plain_fleet : (t : Tables) (l f : ℕ) → IsPlain t → fleet_by t (leg_on l f) ≡ f
unfolding fleet_by
plain_fleet t l f plain = ap (λ n. f / n) (one_time t plain l) ∙ omega arith

-- ---- the list of departures
one_each : (legs : List Leg) (n : ℕ) → ((l : ℕ) → l < n → times_of legs l ≡ 1) → departures_below legs n ≡ list_below (λ l. at_time l 0) n
one_each legs zero once = refl
one_each legs (suc n) once =
    ap (λ listed. departures_below legs n ++ listed) (ap (list_below (at_time n)) (once n (omega arith)))
    ∙ list_below-push (λ l. at_time l 0) n (departures_below legs n) (at_time n 0) (one_each legs n (λ l below. once l (omega arith))) refl
    ∙ ap (list_below (λ l. at_time l 0)) one_more
  where
    one_more : n + 1 ≡ suc n
    one_more = omega arith

plain_list : (t : Tables) → IsPlain t → t.departures ≡ list_below (λ l. at_time l 0) (legs_in t)
plain_list t plain = t.in_range.departures_fit ∙ one_each t.legs (legs_in t) (λ l below. one_time t plain l)

pub plain_count : (t : Tables) → IsPlain t → departures_in t ≡ legs_in t
unfolding departures_in
plain_count t plain = ap length (plain_list t plain) ∙ length-list_below (λ l. at_time l 0) (legs_in t)

plain_at : (t : Tables) (d : ℕ) → IsPlain t → d < legs_in t → slice_index_or t.departures d no_departure ≡ at_time d 0
plain_at t d plain below = ap (λ listed. slice_index_or listed d no_departure) (plain_list t plain) ∙ get_or-list_below (λ l. at_time l 0) (legs_in t) d no_departure below

-- a fleet flies a leg's one departure by the choice that has the fleet's number
pub plain_pair : (t : Tables) (d f : ℕ) → IsPlain t → d < legs_in t → pair_on t d f ≡ leg_on d f
unfolding leg_at choice_on
plain_pair t d f plain below =
    ap (λ (departure : Departure). leg_on departure.leg (f * shifts_in t departure.leg + departure.slot)) (plain_at t d plain below)
    ∙ ap (λ n. leg_on d (f * n + 0)) (one_time t plain d) ∙ ap (leg_on d) (omega arith)

-- what is added up over departures
over_legs : (t : Tables) (f : ℕ) (h : Pair → ℕ) → IsPlain t → sum_below (λ d. h (pair_on t d f)) (departures_in t) ≡ sum_below (λ l. h (leg_on l f)) (legs_in t)
over_legs t f h plain =
    ap (sum_below (λ d. h (pair_on t d f))) (plain_count t plain)
    ∙ sum_below-agree (λ d. h (pair_on t d f)) (λ l. h (leg_on l f)) (legs_in t) (record { each = λ d below. ap h (plain_pair t d f plain below) })

pub plain_departed : (t : Tables) (w : Weights) (f s m : ℕ) → IsPlain t
    → departed t w f s m ≡ sum_below (λ l. if has_left t (leg_on l f) s m then w (leg_on l f) else 0) (legs_in t)
unfolding departed
plain_departed t w f s m plain = over_legs t f (λ p. if has_left t p s m then w p else 0) plain

pub plain_arrived : (t : Tables) (w : Weights) (f s m : ℕ) → IsPlain t
    → arrived t w f s m ≡ sum_below (λ l. if has_come t (leg_on l f) s m then w (leg_on l f) else 0) (legs_in t)
unfolding arrived
plain_arrived t w f s m plain = over_legs t f (λ p. if has_come t p s m then w p else 0) plain

pub plain_laps : (t : Tables) (w : Weights) (f : ℕ) → IsPlain t → laps_flown t w f ≡ sum_below (λ l. w (leg_on l f) * laps_of t (leg_on l f)) (legs_in t)
unfolding laps_flown
plain_laps t w f plain = over_legs t f (λ p. w p * laps_of t p) plain

-- such a leg departs within the period, whatever number its choice has
pub plain_departs : (t : Tables) (l f : ℕ) → IsPlain t → l < legs_in t → departure t (leg_on l f) < period_of t
plain_departs t l f plain below = departs_always t (leg_on l f)

-- ---- tables with one departure a leg are plain
counted : (legs : List Leg) (n : ℕ) → length (departures_below legs n) ≡ sum_below (times_of legs) n
counted legs zero = refl
counted legs (suc n) = omega (arith, counted legs n, length-append (departures_below legs n) (departures_on legs n), length-list_below (at_time n) (times_of legs n))

all_ones : (f : ℕ → ℕ) (n : ℕ) → ((k : ℕ) → k < n → 1 ≤ f k) → sum_below f n ≡ n → (k : ℕ) → k < n → f k ≡ 1
all_ones f n some sum k below = elim (cases_lt 1 (f k)) [
  | inl more ↦ absurd (omega (arith, less_sum (λ j. 1) f n k below some more, sum_below-ones n, sum))
  | inr few ↦ omega (arith, few, some k below)
]

pub once_plain : (t : Tables) → departures_in t ≡ legs_in t → IsPlain t
unfolding departures_in IsPlain
once_plain t once =
    all_ones (shifts_in t) (legs_in t) (λ l below. some_times t l) (sym (counted t.legs (legs_in t)) ∙ ap length (sym t.in_range.departures_fit) ∙ once)
