-- What prices say at each minute, and when they are proper.
use Rattle.std.specs.Prelude.{◌≡◌, ℕ, ◌+◌, ◌<◌, ◌≤◌, ◌^◌, Bool, ◌==◌, ◌&&◌, nat_le, if◌then◌else◌, List, [], ◌∷◌, slice_index_or, None, ℤ, pos, neg_ℤ, ◌≤ℤ◌, ◌+ℤ◌}
use Rattle.fleet_model.specs.Schedule.{days_in, fleets_in, last_of, parking_of, period_of, stations_in}
use Rattle.fleet_model.specs.Period.{days_ended, ends_day}
use Rattle.fleet_model.specs.declared.tables.Tables.{Tables}
use Rattle.dual_bound.specs.declared.prices.Charge.{Charge}
use Rattle.dual_bound.specs.declared.prices.Prices.{Prices}
use Rattle.dual_bound.specs.declared.prices.PriceStep.{PriceStep}

-- the step is one of the fleet at the station, and has come by the minute
abbrev pub step_has_come : PriceStep → ℕ → ℕ → ℕ → Bool
step_has_come step f s m = (step.fleet == f) && (step.station == s) && nat_le step.minute m

-- the price after steps, from a price before them: what the last step says that has come
unfoldable pub price_after : ℤ → List PriceStep → ℕ → ℕ → ℕ → ℤ
price_after value [] f s m = value
price_after value (step ∷ steps) f s m = price_after (if step_has_come step f s m then step.value else value) steps f s m

-- the price of a fleet at a station at a minute
abbrev pub price_of : Prices → ℕ → ℕ → ℕ → ℤ
price_of prices f s m = price_after (pos 0) prices.steps f s m

-- the rent of an aircraft of a fleet
abbrev pub rent_of : Prices → ℕ → ℤ
rent_of prices f = slice_index_or prices.rents f (pos 0)

-- ---- charges
-- an entry is one of the station and the day
abbrev pub is_charge_of : ℕ → ℕ → Charge → Bool
is_charge_of s d entry = (entry.station == s) && (entry.day == d)

-- the charge after entries, from a charge before them: what the last entry of the station and the day says
unfoldable pub last_charge : ℤ → List Charge → ℕ → ℕ → ℤ
last_charge charge [] s d = charge
last_charge charge (entry ∷ entries) s d = last_charge (if is_charge_of s d entry then entry.charge else charge) entries s d

-- what it costs that an aircraft stands at a station at the end of a day, days counted from 1
abbrev pub charge_of : Prices → ℕ → ℕ → ℤ
charge_of prices s d = last_charge (pos 0) prices.charges s d

-- what a price at a minute may be a minute later: itself, and the station's charge where the minute ends a day
unfoldable pub with_charge : Prices → ℕ → ℕ → ℤ → ℤ
with_charge prices s m price =
    if ends_day m then price +ℤ charge_of prices s (days_ended m) else price

-- ---- limits
-- the greatest scale of prices, and the greatest size of a rent, of a price and of a charge
abbrev pub max_scale : ℕ
max_scale = 10 ^ 18

abbrev pub max_price : ℕ
max_price = 10 ^ 30

-- a scale is 1 or more, and within its limit
pub record IsScale (scale : ℤ) : Type 0 where
  pub some : pos 1 ≤ℤ scale
  pub within : scale ≤ℤ pos max_scale

-- a rent is 0 or more, and within its limit
pub record IsRent (rent : ℤ) : Type 0 where
  pub some : pos 0 ≤ℤ rent
  pub within : rent ≤ℤ pos max_price

-- a price is within its limits
pub record IsPrice (price : ℤ) : Type 0 where
  pub no_less : neg_ℤ (pos max_price) ≤ℤ price
  pub no_more : price ≤ℤ pos max_price

-- the rents of all fleets are within their limits
abbrev pub AreRents : Tables → Prices → Type 0
AreRents t prices = (f : ℕ) → f < fleets_in t → IsRent (rent_of prices f)

-- a charge is 0 or more, within its limit, and 0 where any number of aircraft may stand at the station
pub record IsCharge (t : Tables) (prices : Prices) (s d : ℕ) : Type 0 where
  pub some : pos 0 ≤ℤ charge_of prices s d
  pub within : charge_of prices s d ≤ℤ pos max_price
  pub only_limited : parking_of t s ≡ None → charge_of prices s d ≡ pos 0

-- the charges of all stations and days are
abbrev pub AreCharges : Tables → Prices → Type 0
AreCharges t prices = (s d : ℕ) → s < stations_in t → 0 < d → d ≤ days_in t → IsCharge t prices s d

-- rents, prices and charges are within their limits
pub record AreWithin (t : Tables) (prices : Prices) : Type 0 where
  pub rents : AreRents t prices
  pub each : (f s m : ℕ) → f < fleets_in t → s < stations_in t → m < period_of t → IsPrice (price_of prices f s m)
  pub charges : AreCharges t prices

-- ---- rises
-- from one minute to the next no price rises, but by a charge
pub record NeverRise (t : Tables) (prices : Prices) : Type 0 where
  pub each : (f s m : ℕ) → f < fleets_in t → s < stations_in t → m + 1 < period_of t → price_of prices f s (m + 1) ≤ℤ with_charge prices s m (price_of prices f s m)

-- over the end of the period a price rises by the rent at most, and the charge of the last day
abbrev pub RisesOverEnd : Tables → Prices → ℕ → ℕ → Type 0
RisesOverEnd t prices f s = price_of prices f s 0 ≤ℤ with_charge prices s (last_of t) (price_of prices f s (last_of t) +ℤ rent_of prices f)

-- and so does each
pub record RiseByRent (t : Tables) (prices : Prices) : Type 0 where
  pub each : (f s : ℕ) → f < fleets_in t → s < stations_in t → RisesOverEnd t prices f s

-- prices within their limits, which never rise through the period, and over its end by the rent at most, but for charges
pub record ArePrices (t : Tables) (prices : Prices) : Type 0 where
  pub scale : IsScale prices.scale
  pub within : AreWithin t prices
  pub fall : NeverRise t prices
  pub rise : RiseByRent t prices
