-- The first fault of a later file, where the files before it read.
use Rattle.std.proofs.Common.{List, map}
use Rattle.csv_fields.specs.Record.{records_of}
use Rattle.fleet_model.specs.declared.parts.Fleet.{Fleet}
use Rattle.fleet_model.specs.declared.parts.Leg.{Leg}
use Rattle.fleet_model.specs.declared.parts.PairCost.{PairCost}
use Rattle.fleet_model.specs.declared.parts.Settings.{Settings}
use Rattle.fleet_model.specs.declared.parts.Station.{Station}
use Rattle.fleet_model.specs.declared.refusals.LoadError.{LoadError}
use Rattle.fleet_model.specs.declared.refusals.LoadError.TheVariants as load
use Rattle.fleet_model.specs.declared.refusals.TableFile.TheVariants as file
use Rattle.table_rows.specs.fleet_tables.Costs.{CostsBad, flight_of}
use Rattle.table_rows.specs.fleet_tables.Fleets.{fleet_name_of}
use Rattle.sched_read.specs.Reading.{IsFirstBad, ReadCosts, ReadLegs, TableBytes}
use Rattle.sched_read.specs.Throughs.{ThroughsBad}
use Rattle.table_rows.specs.Outcome.{IsFirstFault}

pub costs_refused : (bytes : TableBytes) (settings : Settings) (s : List Station) (f : List Fleet) (l : List Leg) (error : LoadError) → ReadLegs bytes settings s f l
    → IsFirstFault file.Costs (CostsBad (map flight_of l) (map fleet_name_of f) (records_of bytes.costs)) error → IsFirstBad bytes settings error
costs_refused bytes settings s f l (load.Bad bad) reads fault = rw fault.0 (s, f, l, reads, fault.1)
costs_refused bytes settings s f l load.NoMemory reads fault = tt

pub throughs_refused : (bytes : TableBytes) (settings : Settings) (s : List Station) (f : List Fleet) (l : List Leg) (c : List PairCost) (error : LoadError) → ReadCosts bytes settings s f l c
    → IsFirstFault file.Throughs (ThroughsBad (map flight_of l) bytes.throughs) error → IsFirstBad bytes settings error
throughs_refused bytes settings s f l c (load.Bad bad) reads fault = rw fault.0 (s, f, l, c, reads, fault.1)
throughs_refused bytes settings s f l c load.NoMemory reads fault = tt
