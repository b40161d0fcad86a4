-- Tables with another number of aircraft of one fleet.
use Rattle.std.specs.Prelude.{◌≡◌, ℕ, ◌<◌, ◌≤◌, List, slice_set}
use Rattle.fleet_model.specs.declared.limits.TheConstants.{MAX_AIRCRAFT}
use Rattle.fleet_model.specs.declared.parts.Fleet.{Fleet}
use Rattle.fleet_model.specs.declared.tables.Tables.{Tables}
use Rattle.fleet_model.specs.Schedule.{fleet_of, fleets_in}

-- a fleet of so many aircraft
abbrev pub with_aircraft : Fleet → ℕ → Fleet
with_aircraft fleet count = record { name = fleet.name; aircraft = count; turn = fleet.turn }

-- the fleets, where one has so many aircraft
abbrev pub resized : Tables → ℕ → ℕ → List Fleet
resized t fleet count = slice_set t.fleets fleet (with_aircraft (fleet_of t fleet) count)

-- the tables in all but that number
pub record IsOtherSize (t : Tables) (fleet count : ℕ) (u : Tables) : Type 0 where
  pub stations : u.stations ≡ t.stations
  pub fleets : u.fleets ≡ resized t fleet count
  pub legs : u.legs ≡ t.legs
  pub costs : u.costs ≡ t.costs
  pub throughs : u.throughs ≡ t.throughs
  pub settings : u.settings ≡ t.settings
  pub departures : u.departures ≡ t.departures
  pub windows : u.windows ≡ t.windows
  pub optional : u.optional ≡ t.optional

-- there are such tables, whichever fleet it is and however many aircraft a fleet may have
abbrev pub OtherSizeStands : Type 0
OtherSizeStands = (t : Tables) (fleet count : ℕ) → fleet < fleets_in t → count ≤ MAX_AIRCRAFT → (u : Tables) × IsOtherSize t fleet count u
