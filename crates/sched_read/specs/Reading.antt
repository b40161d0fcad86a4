-- Which tables five files read as, and their first fault.
use Rattle.std.specs.Prelude.{◌≡◌, ℕ, List, map, false, ⊤}
use Rattle.csv_fields.specs.Record.{records_of}
use Rattle.fleet_model.specs.declared.parts.Fleet.{Fleet}
use Rattle.fleet_model.specs.declared.parts.Leg.{Leg}
use Rattle.fleet_model.specs.declared.parts.PairCost.{PairCost}
use Rattle.fleet_model.specs.declared.parts.Settings.{Settings}
use Rattle.fleet_model.specs.declared.parts.Station.{Station}
use Rattle.fleet_model.specs.declared.tables.Tables.{Tables}
use Rattle.fleet_model.specs.declared.refusals.LoadError.{LoadError}
use Rattle.fleet_model.specs.declared.refusals.LoadError.TheVariants as load
use Rattle.fleet_model.specs.declared.refusals.TableFile.{TableFile}
use Rattle.fleet_model.specs.declared.refusals.TableFile.TheVariants as file
use Rattle.table_rows.specs.fleet_tables.Costs.{CostsBad, CostsRead, flight_of}
use Rattle.table_rows.specs.fleet_tables.Fleets.{FleetsBad, FleetsRead, fleet_name_of}
use Rattle.sched_read.specs.Legs.{LegsBad, LegsRead}
use Rattle.sched_read.specs.Throughs.{ThroughsBad, ThroughsRead}
use Rattle.table_rows.specs.station_table.Stations.{StationsBad, StationsRead, code_of}

-- the bytes of the five files
pub record TableBytes : Type 0 where
  pub stations : List ℕ
  pub fleets : List ℕ
  pub legs : List ℕ
  pub costs : List ℕ
  pub throughs : List ℕ

-- the files of stations and fleets read as these
pub record ReadFleets (bytes : TableBytes) (s : List Station) (f : List Fleet) : Type 0 where
  pub stations : StationsRead (records_of bytes.stations) s
  pub fleets : FleetsRead (records_of bytes.fleets) f

-- and that of legs, by the settings
pub record ReadLegs (bytes : TableBytes) (settings : Settings) (s : List Station) (f : List Fleet) (l : List Leg) : Type 0 where
  pub stations : StationsRead (records_of bytes.stations) s
  pub fleets : FleetsRead (records_of bytes.fleets) f
  pub legs : LegsRead (map code_of s) settings (records_of bytes.legs) l

-- and that of costs
pub record ReadCosts (bytes : TableBytes) (settings : Settings) (s : List Station) (f : List Fleet) (l : List Leg) (c : List PairCost) : Type 0 where
  pub stations : StationsRead (records_of bytes.stations) s
  pub fleets : FleetsRead (records_of bytes.fleets) f
  pub legs : LegsRead (map code_of s) settings (records_of bytes.legs) l
  pub costs : CostsRead (map flight_of l) (map fleet_name_of f) (records_of bytes.costs) c

-- The five files read as these tables, by these settings: each leg has its own time alone and must be flown, since other files
-- say of further times and of legs that may be left out.
pub record Reads (bytes : TableBytes) (settings : Settings) (t : Tables) : Type 0 where
  pub stations : StationsRead (records_of bytes.stations) t.stations
  pub fleets : FleetsRead (records_of bytes.fleets) t.fleets
  pub legs : LegsRead (map code_of t.stations) settings (records_of bytes.legs) t.legs
  pub costs : CostsRead (map flight_of t.legs) (map fleet_name_of t.fleets) (records_of bytes.costs) t.costs
  pub throughs : ThroughsRead (map flight_of t.legs) bytes.throughs t.throughs
  pub settings_are : t.settings ≡ settings
  pub no_windows : t.windows ≡ false
  pub none_optional : t.optional ≡ false

-- The first fault of the five files: the files before it read. Another file has none here.
abbrev pub BadAt : TableBytes → Settings → TableFile → ℕ → ℕ → Type 0
BadAt bytes settings file.Stations row kind = StationsBad (records_of bytes.stations) row kind
BadAt bytes settings file.Fleets row kind =
    (s : List Station) × StationsRead (records_of bytes.stations) s × FleetsBad (records_of bytes.fleets) row kind
BadAt bytes settings file.Legs row kind =
    (s : List Station) × (f : List Fleet) × ReadFleets bytes s f × LegsBad (map code_of s) settings (records_of bytes.legs) row kind
BadAt bytes settings file.Costs row kind =
    (s : List Station) × (f : List Fleet) × (l : List Leg) × ReadLegs bytes settings s f l
    × CostsBad (map flight_of l) (map fleet_name_of f) (records_of bytes.costs) row kind
BadAt bytes settings file.Throughs row kind =
    (s : List Station) × (f : List Fleet) × (l : List Leg) × (c : List PairCost) × ReadCosts bytes settings s f l c
    × ThroughsBad (map flight_of l) bytes.throughs row kind
BadAt bytes settings file.Windows row kind = ⊥
BadAt bytes settings file.Optional row kind = ⊥
BadAt bytes settings file.Tails row kind = ⊥

-- the error is the first fault of the five files, unless memory ran out
abbrev pub IsFirstBad : TableBytes → Settings → LoadError → Type 0
IsFirstBad bytes settings (load.Bad bad) = BadAt bytes settings bad.file bad.row bad.kind
IsFirstBad bytes settings load.NoMemory = ⊤
