-- What is looked at of prices where a step stands, rule by rule.
use Rattle.std.specs.Prelude.{◌≡◌, ℕ, ◌+◌, ◌-◌, ◌<◌, ◌==◌, Bool, false, if◌then◌else◌, length, slice_index_or, ◌≤◌, pos, ◌≤ℤ◌}
use Rattle.fleet_model.specs.Schedule.{days_in, period_of}
use Rattle.fleet_model.specs.declared.tables.Tables.{Tables}
use Rattle.dual_bound.specs.Order.{same_place}
use Rattle.dual_bound.specs.Rising.{step_at}
use Rattle.dual_bound.specs.Prices.{IsCharge, IsPrice, RisesOverEnd, price_of, with_charge}
use Rattle.dual_bound.specs.declared.prices.Charge.{Charge}
use Rattle.dual_bound.specs.declared.prices.Prices.{Prices}
use Rattle.dual_bound.specs.declared.prices.PriceStep.{PriceStep}

-- a price within its limits
pub record IsWithinAt (t : Tables) (prices : Prices) (step : PriceStep) : Type 0 where
  pub is : step.minute < period_of t → IsPrice (price_of prices step.fleet step.station step.minute)

-- what stands where there is no entry of charges, and the entry at a place
abbrev pub no_entry : Charge
no_entry = record { station = 0; day = 0; charge = pos 0 }

abbrev pub entry_at : Prices → ℕ → Charge
entry_at prices place = slice_index_or prices.charges place no_entry

-- a charge of a day of the period within its limits, by what the last entry of its station and day says
pub record IsChargeAt (t : Tables) (prices : Prices) (entry : Charge) : Type 0 where
  pub is : 0 < entry.day → entry.day ≤ days_in t → IsCharge t prices entry.station entry.day

-- a price no greater than a minute before, but for a charge
pub record FallsAt (t : Tables) (prices : Prices) (step : PriceStep) : Type 0 where
  pub is : (m : ℕ) → step.minute ≡ m + 1 → m + 1 < period_of t
      → price_of prices step.fleet step.station (m + 1) ≤ℤ with_charge prices step.station m (price_of prices step.fleet step.station m)

-- a price that rises by the rent at most over the end of the period, but for a charge
pub record RisesByRentAt (t : Tables) (prices : Prices) (step : PriceStep) : Type 0 where
  pub is : RisesOverEnd t prices step.fleet step.station

-- what is looked at where each step stands and of each entry of charges, rule by rule
abbrev pub AreWithinAtSteps : Tables → Prices → Type 0
AreWithinAtSteps t prices = (k : ℕ) → k < length prices.steps → IsWithinAt t prices (step_at prices k)

abbrev pub AreChargesAt : Tables → Prices → Type 0
AreChargesAt t prices = (k : ℕ) → k < length prices.charges → IsChargeAt t prices (entry_at prices k)

abbrev pub FallAtSteps : Tables → Prices → Type 0
FallAtSteps t prices = (k : ℕ) → k < length prices.steps → FallsAt t prices (step_at prices k)

abbrev pub RiseBefore : Tables → Prices → ℕ → Type 0
RiseBefore t prices place = (k : ℕ) → k < place → RisesByRentAt t prices (step_at prices k)

abbrev pub RiseAtSteps : Tables → Prices → Type 0
RiseAtSteps t prices = RiseBefore t prices (length prices.steps)

-- the step before a place is of the same fleet at the same station
abbrev pub goes_on_at : Prices → ℕ → Bool
goes_on_at prices place = if place == 0 then false else same_place (step_at prices (place - 1)) (step_at prices place)
