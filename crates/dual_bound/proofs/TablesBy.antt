-- The tables of lists by some settings.
use Rattle.std.proofs.Common.{Bool, List}
use Rattle.fleet_model.specs.Limits.{AreTables}
use Rattle.fleet_model.specs.declared.parts.Departure.{Departure}
use Rattle.fleet_model.specs.declared.parts.Fleet.{Fleet}
use Rattle.fleet_model.specs.declared.parts.Leg.{Leg}
use Rattle.fleet_model.specs.declared.parts.PairCost.{PairCost}
use Rattle.fleet_model.specs.declared.parts.Settings.{Settings}
use Rattle.fleet_model.specs.declared.parts.Station.{Station}
use Rattle.fleet_model.specs.declared.parts.Through.{Through}
use Rattle.fleet_model.specs.declared.tables.Tables.{Tables}

module _ (s : List Station) (f : List Fleet) (l : List Leg) (c : List PairCost) (h : List Through) (d : List Departure) (w o : Bool) where
  -- settings by which the lists keep their limits
  abbrev pub Fits : Type 0
  Fits = (settings : Settings) × AreTables s f l c h settings d w o

  abbrev pub tables_by : Fits → Tables
  tables_by fits = record { stations = s; fleets = f; legs = l; costs = c; throughs = h; settings = fits.0; departures = d; windows = w; optional = o; in_range = fits.1 }
