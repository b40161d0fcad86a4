-- Lists that keep their limits are those of tables, where each leg has its own time alone and none may be left out.
use Rattle.std.proofs.Common.{◌≡◌, false, List, length}
use Rattle.fleet_model.specs.Limits.{AreCosts, AreFleets, AreLegs, AreSettings, AreStations, AreTables, AreThroughs}
use Rattle.fleet_model.specs.Windows.{departures_of_legs}
use Rattle.fleet_model.specs.declared.parts.Departure.{Departure}
use Rattle.fleet_model.specs.declared.parts.Fleet.{Fleet}
use Rattle.fleet_model.specs.declared.parts.Leg.{Leg}
use Rattle.fleet_model.specs.declared.parts.PairCost.{PairCost}
use Rattle.fleet_model.specs.declared.parts.Settings.{Settings}
use Rattle.fleet_model.specs.declared.parts.Station.{Station}
use Rattle.fleet_model.specs.declared.parts.Through.{Through}
use Rattle.fleet_model.proofs.NotAsked.{once_few}
use Rattle.sched_read.specs.Legs.{ArePlain}

pub tables_fit : (s : List Station) (f : List Fleet) (l : List Leg) (c : List PairCost) (h : List Through) (settings : Settings) (d : List Departure)
    → AreStations s → AreFleets f → AreLegs (length s) settings.period l → AreCosts (length l) (length f) c → AreThroughs (length l) h → AreSettings settings
    → d ≡ departures_of_legs l → ArePlain l → AreTables s f l c h settings d false false
tables_fit s f l c h settings d stations fleets legs costs throughs fit departures plain = record {
  stations_fit = stations;
  fleets_fit = fleets;
  legs_fit = legs;
  costs_fit = costs;
  throughs_fit = throughs;
  settings_fit = fit;
  departures_fit = departures;
  few_triples = once_few (length f) l c fleets.few legs.few plain.once;
  moved_where_asked = λ _. plain.once;
  left_out_where_asked = λ _. plain.flown;
}
