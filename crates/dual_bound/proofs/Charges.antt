-- Charges, and pairs that are flown. What the words for them stand for is looked at here, in `NoCharges`, and by the rules of `cert_check`.
use Rattle.std.proofs.Common.{◌≡◌, ℕ, ◌+◌, ◌-◌, ◌*◌, ◌<◌, ◌≤◌, ◌==◌, Bool, true, false, if◌then◌else◌, nat_lt, ℤ, pos, ◌+ℤ◌, ◌-ℤ◌, ◌*ℤ◌, ◌≤ℤ◌, refl, sym, ◌∙◌, ap, ap₂, arith}
use Rattle.std.proofs.lemmas.Int.{ints}
use lib.IntN.{*ℤ_comm}
use Rattle.std.proofs.lemmas.Bool.{eqb-true, lt-ltb}
use Rattle.sums.specs.Below.{sum_below_ℤ}
use Rattle.sums.proofs.Blocks.{blocks_ℤ}
use Rattle.sums.proofs.WholeSums.{sum_below_ℤ-same}
use Rattle.sums.proofs.WholeSwaps.{sum_below_ℤ-one, where_true}
use Rattle.sums.proofs.WholeTerms.{*ℤ-where_true}
use Rattle.fleet_model.specs.Period.{day_end, days_ended, ends_day, minute_of_day, minutes_of}
use Rattle.fleet_model.specs.declared.parts.Pair.{Pair}
use Rattle.fleet_model.specs.declared.tables.Tables.{Tables}
use Rattle.fleet_model.specs.Schedule.{IsPair, days_in, fleet_by, fleets_in, leg_of, parking_limit, period_of, stations_in}
use Rattle.fleet_model.specs.Times.{departure, laps_of, ready_minute}
use Rattle.fleet_model.proofs.PeriodMinutes.{days_are_period}
use Rattle.dual_bound.specs.Prices.{AreCharges, charge_of, price_of, rent_of, with_charge}
use Rattle.dual_bound.specs.Worth.{charges_of, cost_units, less_charges, pair_worth, where_flown}
use Rattle.dual_bound.specs.declared.prices.Prices.{Prices}

-- ---- flown pairs
pub where_flown_is : (t : Tables) (p : Pair) (z : ℤ) → IsPair t p → where_flown t p z ≡ where_true (nat_lt (fleet_by t p) (fleets_in t)) z
where_flown_is t p z pair = refl

pub flown : (t : Tables) (p : Pair) (z : ℤ) → IsPair t p → fleet_by t p < fleets_in t → where_flown t p z ≡ z
flown t p z pair by = where_flown_is t p z pair ∙ ap (λ b. where_true b z) (lt-ltb _ _ by)

pub not_flown : (t : Tables) (p : Pair) (z : ℤ) → IsPair t p → nat_lt (fleet_by t p) (fleets_in t) ≡ false → where_flown t p z ≡ pos 0
not_flown t p z pair none = where_flown_is t p z pair ∙ ap (λ b. where_true b z) none

-- what a flown pair is worth
pub flown_worth : (t : Tables) (prices : Prices) (k : ℕ) (p : Pair) → IsPair t p → fleet_by t p < fleets_in t → pair_worth t prices k p
    ≡ (pos k *ℤ prices.scale *ℤ cost_units t p)
    +ℤ (price_of prices (fleet_by t p) (leg_of t p.leg).from (departure t p) -ℤ price_of prices (fleet_by t p) (leg_of t p.leg).to (ready_minute t p)) +ℤ (rent_of prices (fleet_by t p) *ℤ pos (laps_of t p))
flown_worth t prices k p pair by = ap₂ (λ x y. (pos k *ℤ prices.scale *ℤ cost_units t p) +ℤ x +ℤ y) (flown t p _ pair by) (flown t p _ pair by)

-- ---- days and the minutes that end them
-- a minute that ends a day ends one of the period
pub some_day : (m : ℕ) → minute_of_day (m + 1) ≡ 0 → 0 < days_ended m
some_day m e = omega (arith, e)

pub day_within : (t : Tables) (m : ℕ) → m < period_of t → minute_of_day (m + 1) ≡ 0 → days_ended m ≤ days_in t
day_within t m below ends = last_day m (days_in t) (period_of t) (days_are_period t) below ends
  where
    last_day : (m days minutes : ℕ) → minutes ≡ minutes_of days → m < minutes → minute_of_day (m + 1) ≡ 0 → days_ended m ≤ days
    last_day m days minutes e below ends = omega (arith, e, below, ends)

-- ---- charges by minutes
-- the charge by the end of a minute, 0 where it ends no day
unfoldable pub charge_after : Prices → ℕ → ℕ → ℤ
charge_after prices s m = where_true (ends_day m) (charge_of prices s (days_ended m))

pub with_charge_is : (prices : Prices) (s m : ℕ) (price : ℤ) → with_charge prices s m price ≡ price +ℤ charge_after prices s m
unfolding charge_after with_charge
with_charge_is prices s m price = by_case (ends_day m) (charge_of prices s (days_ended m))
  where
    by_case : (b : Bool) (charge : ℤ) → (if b then price +ℤ charge else price) ≡ price +ℤ where_true b charge
    by_case true charge = refl
    by_case false charge = omega (arith, ints)

pub some_after : (t : Tables) (prices : Prices) → AreCharges t prices → (s m : ℕ) → s < stations_in t → m < period_of t → pos 0 ≤ℤ charge_after prices s m
unfolding charge_after
some_after t prices charges s m there within = by_case (ends_day m) (λ e. (charges s _ there (some_day m (eqb-true _ _ e)) (day_within t m within (eqb-true _ _ e))).some)
  where
    by_case : (b : Bool) → (b ≡ true → pos 0 ≤ℤ charge_of prices s (days_ended m)) → pos 0 ≤ℤ where_true b (charge_of prices s (days_ended m))
    by_case true some = some refl
    by_case false some = omega (arith, ints)

-- a price that doesn't rise rises by a charge at most
pub no_rise : (t : Tables) (prices : Prices) → AreCharges t prices → (s m : ℕ) → s < stations_in t → m < period_of t → (before after : ℤ) → after ≤ℤ before → after ≤ℤ with_charge prices s m before
no_rise t prices charges s m there within before after le = omega (arith, ints, le, with_charge_is prices s m before, some_after t prices charges s m there within)

-- what a station is charged by the end of a minute for as many as may stand there
unfoldable pub charges_at : Tables → Prices → ℕ → ℤ
charges_at t prices s = sum_below_ℤ (λ m. pos (parking_limit t s) *ℤ charge_after prices s m) (period_of t)

-- of the minutes of a day the last alone ends it
ends_last : (d i : ℕ) → i < minutes_of 1 → ends_day (minutes_of d + i) ≡ (day_end 1 == i)
ends_last d i below = grind arith

-- a sum over days is one over minutes of what stands at the end of each
over_days : (f : ℕ → ℤ) (n : ℕ) → sum_below_ℤ (λ m. where_true (ends_day m) (f (days_ended m))) (minutes_of n) ≡ sum_below_ℤ (λ d. f (d + 1)) n
over_days f n =
    blocks_ℤ (λ m. where_true (ends_day m) (f (days_ended m))) n (minutes_of 1)
    ∙ sum_below_ℤ-same _ (λ d. f (d + 1)) n (λ d below. one_day d)
  where
    at_end : (d : ℕ) → days_ended (minutes_of d + day_end 1) ≡ d + 1
    at_end d = omega arith

    one_day : (d : ℕ) → sum_below_ℤ (λ i. where_true (ends_day (minutes_of d + i)) (f (days_ended (minutes_of d + i)))) (minutes_of 1) ≡ f (d + 1)
    one_day d =
        sum_below_ℤ-same _ (λ i. where_true (day_end 1 == i) (f (days_ended (minutes_of d + i)))) (minutes_of 1)
        (λ i below. ap (λ b. where_true b (f (days_ended (minutes_of d + i)))) (ends_last d i below))
        ∙ sum_below_ℤ-one (day_end 1) (λ i. f (days_ended (minutes_of d + i))) (minutes_of 1) (omega arith)
        ∙ ap f (at_end d)

charges_by_minutes : (t : Tables) (prices : Prices) (s : ℕ) → charges_of t prices s ≡ charges_at t prices s
unfolding charges_at charge_after
charges_by_minutes t prices s =
    sym (over_days (λ d. charge_of prices s d *ℤ pos (parking_limit t s)) (days_in t))
    ∙ ap (sum_below_ℤ (λ m. where_true (ends_day m) (charge_of prices s (days_ended m) *ℤ pos (parking_limit t s)))) (sym (days_are_period t))
    ∙ sum_below_ℤ-same _ (λ m. pos (parking_limit t s) *ℤ where_true (ends_day m) (charge_of prices s (days_ended m))) (period_of t) (λ m below.
    ap (where_true (ends_day m)) (*ℤ_comm (charge_of prices s (days_ended m)) (pos (parking_limit t s)))
    ∙ sym (*ℤ-where_true (pos (parking_limit t s)) (ends_day m) (charge_of prices s (days_ended m))))

pub less_charges_is : (t : Tables) (prices : Prices) (z : ℤ) → less_charges t prices z ≡ z -ℤ sum_below_ℤ (charges_at t prices) (stations_in t)
unfolding less_charges
less_charges_is t prices z = ap (λ x. z -ℤ x) (sum_below_ℤ-same (charges_of t prices) (charges_at t prices) (stations_in t) (λ s below. charges_by_minutes t prices s))
