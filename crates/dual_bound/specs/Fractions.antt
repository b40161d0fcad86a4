-- Fractional assignments of a subproblem, by their scale and weights.
use Rattle.std.specs.Prelude.{◌≡◌, ℕ, ◌<◌, ◌⊎◌, ℤ, pos, ◌≤ℤ◌, ◌*ℤ◌, unsigned_abs}
use Rattle.fleet_model.specs.Counts.{Weights}
use Rattle.fleet_model.specs.Kept.{Domains}
use Rattle.fleet_model.specs.Mixed.{IsMixedPlan, mixed_cost}
use Rattle.fleet_model.specs.Schedule.{choices_in, leg_on, legs_in}
use Rattle.fleet_model.specs.declared.tables.Tables.{Tables}
use Rattle.dual_bound.specs.Mixed.{weight_in}
use Rattle.dual_bound.specs.Prices.{IsScale}
use Rattle.dual_bound.specs.Worth.{worth_of}
use Rattle.dual_bound.specs.declared.mixed.Mixed.{Mixed}
use Rattle.dual_bound.specs.declared.prices.Prices.{Prices}

-- how many parts of a leg a pair has
abbrev pub parts_in : Mixed → Weights
parts_in mixed p = unsigned_abs (weight_in mixed p)

-- how many parts a leg has
abbrev pub parts_of_leg : Mixed → ℕ
parts_of_leg mixed = unsigned_abs mixed.scale

-- a weight is 0 or more, and the scale at most
pub record IsWeight (scale weight : ℤ) : Type 0 where
  pub some : pos 0 ≤ℤ weight
  pub within : weight ≤ℤ scale

-- the weights of a leg's pairs are
abbrev pub HasWeights : Tables → Mixed → ℕ → Type 0
HasWeights t mixed l = (c : ℕ) → c < choices_in t l → IsWeight mixed.scale (weight_in mixed (leg_on l c))

-- and so are those of all legs
abbrev pub HasAllWeights : Tables → Mixed → Type 0
HasAllWeights t mixed = (l : ℕ) → l < legs_in t → HasWeights t mixed l

-- a scale and weights within their limits
pub record AreMixedParts (t : Tables) (mixed : Mixed) : Type 0 where
  pub scale : IsScale mixed.scale
  pub each : HasAllWeights t mixed

-- a fractional assignment of a subproblem: its limits, and a mixed plan
pub record IsMixedAt (t : Tables) (keeps : Domains) (mixed : Mixed) : Type 0 where
  pub parts : AreMixedParts t mixed
  pub plan : IsMixedPlan t keeps (parts_of_leg mixed) (parts_in mixed)

-- a weight is 0 or the scale
abbrev pub IsEndOfScale : ℤ → ℤ → Type 0
IsEndOfScale scale weight = (weight ≡ pos 0) ⊎ (weight ≡ scale)

-- a pair is flown wholly or not at all
abbrev pub IsWholePair : Mixed → ℕ → ℕ → Type 0
IsWholePair mixed l c = IsEndOfScale mixed.scale (weight_in mixed (leg_on l c))

-- each pair of a leg is
abbrev pub IsWholeLeg : Tables → Mixed → ℕ → Type 0
IsWholeLeg t mixed l = (c : ℕ) → c < choices_in t l → IsWholePair mixed l c

-- each pair of all legs is
abbrev pub IsMixedWhole : Tables → Mixed → Type 0
IsMixedWhole t mixed = (l : ℕ) → l < legs_in t → IsWholeLeg t mixed l

-- its cost is the worth of the prices, both over their scales
abbrev pub IsWorth : Tables → Domains → Prices → Mixed → Type 0
IsWorth t keeps prices mixed = (mixed_cost t (parts_in mixed) *ℤ prices.scale) ≡ (worth_of t keeps prices 1 *ℤ mixed.scale)

-- a fractional assignment that is not whole, and costs what the prices are worth
pub record IsFraction (t : Tables) (keeps : Domains) (prices : Prices) (mixed : Mixed) : Type 0 where
  pub partial : ¬ (IsMixedWhole t mixed)
  pub value : IsWorth t keeps prices mixed
