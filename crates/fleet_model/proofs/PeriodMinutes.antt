-- Minutes and days of the period, and the times of a pair in it. What the words for them stand for is looked at here; all else
-- goes by these facts.
use Rattle.std.proofs.Common.{◌≡◌, true, ℕ, zero, suc, [], ◌∷◌, length, slice_index_or, ℤ, pos, negsuc, ◌+◌, ◌-◌, ◌*◌, ◌/◌, ◌%◌, ◌<◌, ◌≤◌, nat_le, refl, sym, ap, subst, inl, inr, arith}
use Rattle.std.proofs.Math.Nat.{div-add-mod, mod-lt, mul-le-mul_left}
use Rattle.std.proofs.lemmas.Bool.{cases_lt}
use Rattle.std.proofs.lemmas.Bool.Decides.{nat_tests}
use Rattle.std.proofs.lemmas.List.{get_or_past}
use Rattle.fleet_model.specs.declared.limits.TheConstants.{MAX_GROUND_MINUTES, MINUTES_PER_DAY}
use Rattle.fleet_model.specs.declared.parts.Leg.{Leg}
use Rattle.fleet_model.specs.declared.parts.Pair.{Pair}
use Rattle.fleet_model.specs.declared.shifts.Shift.{Shift}
use Rattle.fleet_model.specs.declared.tables.Tables.{Tables}
use Rattle.fleet_model.specs.Limits.{IsLeg, IsStation}
use Rattle.fleet_model.specs.Schedule.{IsPair, day_end, days_in, departures_in, fleet_by, fleet_of, fleets_in, last_of, leg_at, leg_of, legs_in, no_fleet, no_leg, no_station, own_shift, pair_on, period_of, shift_by, slot_by, station_of, stations_in}
use Rattle.fleet_model.specs.Times.{busy_minutes, departure, laps_of, nights_of, ready_minute}
use Rattle.fleet_model.specs.Windows.{moved}
use Rattle.fleet_model.proofs.Departures.{slot_within}

-- ---- the period
pub days_are_period : (t : Tables) → period_of t ≡ days_in t * MINUTES_PER_DAY
unfolding period_of days_in
days_are_period t = refl

pub some_days : (t : Tables) → 0 < days_in t
unfolding days_in
some_days t = t.in_range.settings_fit.some_days

-- a week at most
pub few_days : (t : Tables) → days_in t ≤ 7
unfolding days_in
few_days t = t.in_range.settings_fit.few_days

pub day_or_more : (t : Tables) → MINUTES_PER_DAY ≤ period_of t
day_or_more t = omega (arith, days_are_period t, some_days t)

pub at_most_week : (t : Tables) → period_of t ≤ 10080
at_most_week t = omega (arith, days_are_period t, few_days t)

pub some_minutes : (t : Tables) → 0 < period_of t
some_minutes t = omega (arith, day_or_more t)

pub last_in : (t : Tables) → last_of t < period_of t
last_in t = omega (arith, some_minutes t)

pub in_period : (t : Tables) (n : ℕ) → n % period_of t < period_of t
in_period t n = mod-lt n (some_minutes t)

pub by_last : (t : Tables) (m : ℕ) → m < period_of t → nat_le m (last_of t) ≡ true
by_last t m below = grind (arith, nat_tests)

-- the last day ends with the period
pub last_day_ends : (t : Tables) → day_end (days_in t) ≡ last_of t
last_day_ends t = ap (λ n. n - 1) (sym (days_are_period t))

-- ---- the times of a pair
moved_within : (period minute : ℕ) (by : ℤ) → 0 < period → moved period minute by < period
moved_within period minute (pos later) some = mod-lt (minute + later) some
moved_within period minute (negsuc earlier) some = mod-lt (minute + period - suc earlier) some

-- the one entry of a list, and what stands for it, are the same at each place
pub only_one : {X : Type 0} (x : X) (k : ℕ) → slice_index_or (x ∷ []) k x ≡ x
only_one x zero = refl
only_one x (suc k) = refl

-- a pair departs within the period, and so does what stands for no pair
pub departs_always : (t : Tables) (p : Pair) → departure t p < period_of t
unfolding departure slot_by period_of
departs_always t p = elim (cases_lt p.leg (legs_in t)) [
  | inl below ↦
      let shift = (t.in_range.legs_fit.each p.leg no_leg below).shifts.each (slot_by t p) (own_shift 0) (slot_within t p) in
      subst (λ n. n < period_of t) (sym shift.at) (moved_within (period_of t) (leg_of t p.leg).dep (shift_by t p).minutes (some_minutes t))
  | inr past ↦
      subst (λ (leg : Leg). (slice_index_or leg.shifts (p.choice % length leg.shifts) (own_shift 0)).dep < period_of t) (sym (get_or_past t.legs p.leg no_leg past))
      (subst (λ (shift : Shift). shift.dep < period_of t) (sym (only_one (own_shift 0) (p.choice % 1))) (some_minutes t))
]

pub departs_in : (t : Tables) (p : Pair) → IsPair t p → departure t p < period_of t
departs_in t p known = departs_always t p

-- a departure is within the period, whichever fleet flies it
pub departs_on : (t : Tables) (d f : ℕ) → d < departures_in t → departure t (pair_on t d f) < period_of t
departs_on t d f below = departs_always t (pair_on t d f)

-- the turn of a fleet, and of what stands for none
few_turns : (t : Tables) (f : ℕ) → (fleet_of t f).turn ≤ MAX_GROUND_MINUTES
few_turns t f = elim (cases_lt f (fleets_in t)) [
  | inl below ↦ (t.in_range.fleets_fit.each f no_fleet below).turn
  | inr past ↦ rw (get_or_past t.fleets f no_fleet past) (omega arith)
]

pub few_minutes : (t : Tables) (p : Pair) → IsPair t p → busy_minutes t p < 2 * MINUTES_PER_DAY
few_minutes t p known =
    let leg : IsLeg (stations_in t) t.settings.period (leg_of t p.leg) = t.in_range.legs_fit.each p.leg no_leg known.leg in
    let station : IsStation (station_of t (leg_of t p.leg).to) = t.in_range.stations_fit.each (leg_of t p.leg).to no_station leg.to in
    omega (arith, leg.block, few_turns t (fleet_by t p), station.extra)

-- departure and readiness, in periods and minutes
pub lap_split : (t : Tables) (p : Pair) → departure t p + busy_minutes t p ≡ period_of t * laps_of t p + ready_minute t p
lap_split t p = sym (div-add-mod (departure t p + busy_minutes t p) (period_of t))

-- a flight with its turn takes less than three periods
pub few_laps : (t : Tables) (p : Pair) → IsPair t p → laps_of t p ≤ 2
few_laps t p known = elim (cases_lt 2 (laps_of t p)) [
  | inl many ↦
      let three : period_of t * 3 ≤ period_of t * laps_of t p = mul-le-mul_left (period_of t) many in
      absurd (omega (arith, three, lap_split t p, few_minutes t p known, departs_in t p known, day_or_more t))
  | inr few ↦ few
]

-- where the period is one day, laps are nights
pub nights_are_laps : (t : Tables) (p : Pair) → days_in t ≡ 1 → departure t p < period_of t → nights_of t p ≡ laps_of t p
nights_are_laps t p one departs =
    let day : period_of t ≡ MINUTES_PER_DAY = omega (arith, days_are_period t, one) in
    let within : departure t p < MINUTES_PER_DAY = omega (arith, day, departs) in
    let none : departure t p / MINUTES_PER_DAY ≡ 0 = omega arith in
    let same : (departure t p + busy_minutes t p) / MINUTES_PER_DAY ≡ laps_of t p = ap (λ n. (departure t p + busy_minutes t p) / n) (sym day) in
    omega (arith, none, same)
