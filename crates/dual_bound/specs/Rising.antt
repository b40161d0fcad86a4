-- Lists of steps and of weights that rise, and where a moment and a pair come in them.
use Rattle.std.specs.Prelude.{◌≡◌, ℕ, ◌-◌, ◌<◌, ◌≤◌, ◌==◌, ◌&&◌, ◌||◌, nat_le, nat_lt, Bool, true, false, if◌then◌else◌, List, length, slice_index_or, IsTrue, ℤ, pos}
use Rattle.fleet_model.specs.declared.parts.Pair.{Pair}
use Rattle.dual_bound.specs.Prices.{price_of, rent_of}
use Rattle.dual_bound.specs.declared.mixed.Weight.{Weight}
use Rattle.dual_bound.specs.declared.prices.PriceStep.{PriceStep}
use Rattle.dual_bound.specs.declared.prices.Prices.{Prices}

-- what stands where there is no step, and where there is no weight
abbrev pub no_step : PriceStep
no_step = record { fleet = 0; station = 0; minute = 0; value = pos 0 }

abbrev pub no_weight : Weight
no_weight = record { leg = 0; choice = 0; weight = pos 0 }

-- a step comes before another: by fleet, then station, then minute
abbrev pub step_before : PriceStep → PriceStep → Bool
step_before a b = nat_lt a.fleet b.fleet || ((a.fleet == b.fleet) && (nat_lt a.station b.station || ((a.station == b.station) && nat_lt a.minute b.minute)))

-- a weight's pair comes before another's: by leg, then fleet
abbrev pub weight_before : Weight → Weight → Bool
weight_before a b = nat_lt a.leg b.leg || ((a.leg == b.leg) && nat_lt a.choice b.choice)

-- each step comes before all those after it
abbrev pub StepsRise : List PriceStep → Type 0
StepsRise steps = (i j : ℕ) → i < j → j < length steps → IsTrue (step_before (slice_index_or steps i no_step) (slice_index_or steps j no_step))

-- each weight's pair comes before those of all after it
abbrev pub WeightsRise : List Weight → Type 0
WeightsRise weights = (i j : ℕ) → i < j → j < length weights → IsTrue (weight_before (slice_index_or weights i no_weight) (slice_index_or weights j no_weight))

-- a step stands at a moment or before it: by fleet, then station, then minute
abbrev pub is_by : ℕ → ℕ → ℕ → PriceStep → Bool
is_by f s m step = nat_lt step.fleet f || ((step.fleet == f) && (nat_lt step.station s || ((step.station == s) && nat_le step.minute m)))

-- a place that parts steps by a moment: those before it are by then, those from it on are not
pub record IsPartingSteps (steps : List PriceStep) (f s m place : ℕ) : Type 0 where
  pub within : place ≤ length steps
  pub before : (k : ℕ) → k < place → is_by f s m (slice_index_or steps k no_step) ≡ true
  pub after : (k : ℕ) → place ≤ k → k < length steps → is_by f s m (slice_index_or steps k no_step) ≡ false

-- what a step says of a fleet at a station: its value where it is theirs, else 0
abbrev pub said_of : PriceStep → ℕ → ℕ → ℤ
said_of step f s = if (step.fleet == f) && (step.station == s) then step.value else pos 0

-- what the step before a place says of a fleet at a station, and 0 at the first place
abbrev pub said_before : List PriceStep → ℕ → ℕ → ℕ → ℤ
said_before steps place f s = if place == 0 then pos 0 else said_of (slice_index_or steps (place - 1) no_step) f s

-- the price where a step stands, of its fleet at its station, and the price there a minute before
abbrev pub step_at : Prices → ℕ → PriceStep
step_at prices place = slice_index_or prices.steps place no_step

abbrev pub price_at : Prices → ℕ → ℤ
price_at prices place = price_of prices (step_at prices place).fleet (step_at prices place).station (step_at prices place).minute

abbrev pub price_before : Prices → ℕ → ℤ
price_before prices place = price_of prices (step_at prices place).fleet (step_at prices place).station ((step_at prices place).minute - 1)

-- a fleet whose rent and prices are all 0
pub record IsUnpricedFleet (prices : Prices) (f : ℕ) : Type 0 where
  pub rent : rent_of prices f ≡ pos 0
  pub each : (s m : ℕ) → price_of prices f s m ≡ pos 0

-- no step is of a fleet
pub record AreOfOthers (steps : List PriceStep) (f : ℕ) : Type 0 where
  pub each : (k : ℕ) → k < length steps → ((slice_index_or steps k no_step).fleet == f) ≡ false

-- a weight is of a pair or of one before it: by leg, then fleet
abbrev pub is_weight_by : Pair → Weight → Bool
is_weight_by p entry = nat_lt entry.leg p.leg || ((entry.leg == p.leg) && nat_le entry.choice p.choice)

-- a place that parts weights by a pair: those before it are of it or of one before it, those from it on are not
pub record IsPairParting (weights : List Weight) (p : Pair) (place : ℕ) : Type 0 where
  pub within : place ≤ length weights
  pub before : (k : ℕ) → k < place → is_weight_by p (slice_index_or weights k no_weight) ≡ true
  pub after : (k : ℕ) → place ≤ k → k < length weights → is_weight_by p (slice_index_or weights k no_weight) ≡ false

-- the weight of a pair by the entry before a place: its weight where it is the pair's, else 0, and 0 at the first place
abbrev pub weight_of_entry : Weight → Pair → ℤ
weight_of_entry entry p = if (entry.leg == p.leg) && (entry.choice == p.choice) then entry.weight else pos 0

abbrev pub weight_before_place : List Weight → ℕ → Pair → ℤ
weight_before_place weights place p = if place == 0 then pos 0 else weight_of_entry (slice_index_or weights (place - 1) no_weight) p
