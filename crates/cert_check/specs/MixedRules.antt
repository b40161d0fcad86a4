-- What is looked at of the fractional assignment of a node, one by one.
use Rattle.std.specs.Prelude.{◌≡◌, ℕ, ◌*◌, ◌<◌, ◌≤◌, false, Some, ℤ, pos, ◌≤ℤ◌}
use Rattle.fleet_model.specs.Counts.{arrived, departed}
use Rattle.fleet_model.specs.Kept.{Domains}
use Rattle.fleet_model.specs.Mixed.{weight_on}
use Rattle.fleet_model.specs.Schedule.{choices_in, days_in, fleet_of, fleets_in, last_of, leg_on, legs_in, parking_of, stations_in}
use Rattle.fleet_model.specs.Use.{parked, used_of}
use Rattle.fleet_model.specs.declared.tables.Tables.{Tables}
use Rattle.dual_bound.specs.Fractions.{parts_in, parts_of_leg}
use Rattle.dual_bound.specs.Prices.{max_scale}
use Rattle.dual_bound.specs.declared.mixed.Mixed.{Mixed}

-- a weight of any scale within its limit
pub record IsSmallWeight (weight : ℤ) : Type 0 where
  pub some : pos 0 ≤ℤ weight
  pub small : weight ≤ℤ pos max_scale

-- what is looked at leg by leg and choice by choice: no part is flown of a pair that is not kept
abbrev pub FliesKeptOn : Tables → Domains → Mixed → ℕ → Type 0
FliesKeptOn t keeps mixed l = (c : ℕ) → c < choices_in t l → keeps (leg_on l c) ≡ false → parts_in mixed (leg_on l c) ≡ 0

abbrev pub FliesKept : Tables → Domains → Mixed → Type 0
FliesKept t keeps mixed = (l : ℕ) → l < legs_in t → FliesKeptOn t keeps mixed l

-- each leg is flown in all its parts
abbrev pub Covers : Tables → Mixed → Type 0
Covers t mixed = (l : ℕ) → l < legs_in t → weight_on t (parts_in mixed) l ≡ parts_of_leg mixed

-- a fleet balances at each station
abbrev pub BalancesFleet : Tables → Mixed → ℕ → Type 0
BalancesFleet t mixed f = (s : ℕ) → s < stations_in t → arrived t (parts_in mixed) f s (last_of t) ≡ departed t (parts_in mixed) f s (last_of t)

-- no fleet uses more aircraft than it has, so many parts each
abbrev pub UsesNoMore : Tables → Mixed → Type 0
UsesNoMore t mixed = (f : ℕ) → f < fleets_in t → used_of t (parts_in mixed) f ≤ parts_of_leg mixed * (fleet_of t f).aircraft

-- at the end of a day no more aircraft stand at a station than may, so many parts each
abbrev pub HasMixedRoomOn : Tables → Mixed → ℕ → ℕ → Type 0
HasMixedRoomOn t mixed s d = (limit : ℕ) → parking_of t s ≡ Some limit → parked t (parts_in mixed) s d ≤ parts_of_leg mixed * limit

-- at the end of each of the first days no more than so many parts of aircraft stand there
abbrev pub HasMixedRoomUntil : Tables → Mixed → ℕ → ℕ → ℕ → Type 0
HasMixedRoomUntil t mixed s most days = (d : ℕ) → 0 < d → d ≤ days → parked t (parts_in mixed) s d ≤ most

-- .. of each day
abbrev pub HasMixedRoomAt : Tables → Mixed → ℕ → ℕ → Type 0
HasMixedRoomAt t mixed s most = HasMixedRoomUntil t mixed s most (days_in t)
