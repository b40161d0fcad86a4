-- Prices as a list of steps, minute by minute.
use Rattle.std.specs.Prelude.{ℕ, zero, suc, Bool, true, not, ◌&&◌, if◌then◌else◌, List, [], ◌∷◌, ◌++◌, ℤ, pos}
use Rattle.std.specs.Ordering.{int_eq}
use Rattle.fleet_model.specs.Schedule.{fleets_in, period_of, stations_in}
use Rattle.fleet_model.specs.declared.tables.Tables.{Tables}
use Rattle.dual_bound.specs.declared.prices.PriceStep.{PriceStep}

-- the prices of the first minutes are all 0
unfoldable pub all_zero : (ℕ → ℤ) → ℕ → Bool
all_zero price zero = true
all_zero price (suc n) = all_zero price n && int_eq (price n) (pos 0)

-- there is a step at one of so many minutes: at the first one where any price is other than 0, at a later one where the
-- price is another than a minute before
unfoldable pub is_minute_step : ℕ → (ℕ → ℤ) → ℕ → Bool
is_minute_step minutes price zero = not (all_zero price minutes)
is_minute_step minutes price (suc m) = not (int_eq (price (suc m)) (price m))

abbrev pub minute_step_where : ℕ → (ℕ → ℤ) → ℕ → ℕ → ℕ → List PriceStep
minute_step_where minutes price f s m = if is_minute_step minutes price m then record { fleet = f; station = s; minute = m; value = price m } ∷ [] else []

-- the steps of a fleet at a station at the first minutes, of a fleet at the first stations, and of the first fleets
unfoldable pub steps_below : ℕ → (ℕ → ℤ) → ℕ → ℕ → ℕ → List PriceStep
steps_below minutes price f s zero = []
steps_below minutes price f s (suc m) = steps_below minutes price f s m ++ minute_step_where minutes price f s m

unfoldable pub station_steps : ℕ → (ℕ → ℕ → ℤ) → ℕ → ℕ → List PriceStep
station_steps minutes price f zero = []
station_steps minutes price f (suc s) = station_steps minutes price f s ++ steps_below minutes (price s) f s minutes

unfoldable pub fleet_steps : Tables → (ℕ → ℕ → ℕ → ℤ) → ℕ → List PriceStep
fleet_steps t price zero = []
fleet_steps t price (suc f) = fleet_steps t price f ++ station_steps (period_of t) (price f) f (stations_in t)

-- the steps of all prices
abbrev pub steps_of : Tables → (ℕ → ℕ → ℕ → ℤ) → List PriceStep
steps_of t price = fleet_steps t price (fleets_in t)
