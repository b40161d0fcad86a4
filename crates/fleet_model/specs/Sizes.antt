-- How many aircraft fleets have, where one may have another number than the tables say.
use Rattle.std.specs.Prelude.{ℕ, ◌<◌, ◌≤◌, ◌==◌, if◌then◌else◌, ⊤}
use Rattle.fleet_model.specs.OtherSizes.{IsOtherSize}
use Rattle.fleet_model.specs.Schedule.{fleet_of, fleets_in}
use Rattle.fleet_model.specs.declared.limits.TheConstants.{MAX_AIRCRAFT}
use Rattle.fleet_model.specs.declared.sizes.Sizes.{Sizes}
use Rattle.fleet_model.specs.declared.sizes.Sizes.TheVariants as sizes
use Rattle.fleet_model.specs.declared.tables.Tables.{Tables}

-- how many aircraft a fleet has
abbrev pub aircraft_by : Tables → Sizes → ℕ → ℕ
aircraft_by t sizes.Own f = (fleet_of t f).aircraft
aircraft_by t (sizes.Other fleet count) f = if fleet == f then count else (fleet_of t f).aircraft

-- a fleet of the tables, and a number of aircraft that it may have
pub record IsSize (t : Tables) (fleet count : ℕ) : Type 0 where
  pub fleet_known : fleet < fleets_in t
  pub few : count ≤ MAX_AIRCRAFT

-- sizes that the tables may have
abbrev pub AreSizes : Tables → Sizes → Type 0
AreSizes t sizes.Own = ⊤
AreSizes t (sizes.Other fleet count) = IsSize t fleet count

-- something holds by these sizes: of the tables, or of all that are like them but for the one number
abbrev pub HoldsBy : Tables → Sizes → (Tables → Type 0) → Type 0
HoldsBy t sizes.Own Holds = Holds t
HoldsBy t (sizes.Other fleet count) Holds = (u : Tables) → IsOtherSize t fleet count u → Holds u
