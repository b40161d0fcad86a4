-- The tables that the texts of round trips read as.
use Rattle.std.proofs.Common.{◌≡◌, ℕ, ◌+◌, ◌-◌, ◌*◌, ◌<◌, ◌≤◌, false, List, length, map, refl, sym, subst, arith}
use Rattle.csv_fields.specs.Record.{records_of}
use Rattle.fleet_model.specs.Windows.{departures_of_legs}
use Rattle.fleet_model.specs.Limits.{AreCosts, AreLegs, AreSettings, AreThroughs}
use Rattle.fleet_model.specs.declared.parts.Fleet.{Fleet}
use Rattle.fleet_model.specs.declared.parts.Leg.{Leg}
use Rattle.fleet_model.specs.declared.parts.PairCost.{PairCost}
use Rattle.fleet_model.specs.declared.parts.Settings.{Settings}
use Rattle.fleet_model.specs.declared.parts.Station.{Station}
use Rattle.fleet_model.specs.declared.parts.Through.{Through}
use Rattle.fleet_model.specs.declared.tables.Tables.{Tables}
use Rattle.table_rows.specs.fleet_tables.Costs.{CostsRead, flight_of}
use Rattle.table_rows.specs.fleet_tables.Fleets.{fleet_name_of}
use Rattle.table_rows.proofs.fleet_tables.CostsFit.{costs_keep}
use Rattle.table_rows.proofs.fleet_tables.FleetsFit.{fleets_keep}
use Rattle.sched_read.specs.Legs.{LegsRead}
use Rattle.sched_read.specs.Reading.{Reads, TableBytes}
use Rattle.sched_read.specs.Throughs.{ThroughsRead}
use Rattle.sched_read.proofs.LegsFit.{legs_keep, legs_plain}
use Rattle.sched_read.proofs.TablesFit.{tables_fit}
use Rattle.sched_read.proofs.ThroughsFit.{throughs_keep}
use Rattle.table_rows.specs.station_table.Stations.{code_of}
use Rattle.table_rows.proofs.station_table.StationsFit.{stations_keep}
use Rattle.sums.specs.Places.{list_below}
use Rattle.table_maker.specs.Fields.{flight_name}
use Rattle.table_maker.specs.Laws.{made_bytes}
use Rattle.table_maker.specs.Made.{tables_of_trips}
use Rattle.table_maker.specs.Trips.{spokes_for, trip_of}
use Rattle.table_maker.specs.declared.trips.RoundTrip.{RoundTrip}
use Rattle.table_maker.proofs.MadeEntries.{AreTrips, IsRoundTrip, cost_entry, fleet_entry, leg_entry, station_entry, through_entry}
use Rattle.table_maker.proofs.MadeTexts.{costs_back, fleets_back, legs_back, stations_back, throughs_back}
use Rattle.sums.proofs.Lists.{map-list_below}

abbrev pub stations_for : List RoundTrip → ℕ
stations_for trips = 1 + spokes_for (length trips)

abbrev pub station_list : List RoundTrip → List Station
station_list trips = list_below station_entry (stations_for trips)

abbrev pub fleet_list : List RoundTrip → List Fleet
fleet_list trips = list_below (fleet_entry (length trips)) 2

abbrev pub leg_list : Settings → List RoundTrip → List Leg
leg_list settings trips = list_below (leg_entry settings trips) (2 * length trips)

abbrev pub cost_list : List RoundTrip → List PairCost
cost_list trips = list_below (cost_entry trips) (4 * length trips)

abbrev pub through_list : List RoundTrip → List Through
through_list trips = list_below (through_entry trips) (length trips - 1)

abbrev bytes : List RoundTrip → TableBytes
bytes trips = made_bytes (tables_of_trips trips)

module _ (trips : List RoundTrip) (settings : Settings) (one : settings.period ≡ 1) (are : AreTrips trips) where
  each_fits : (i : ℕ) → i < length trips → IsRoundTrip (stations_for trips - 1) (trip_of trips i)
  each_fits i within = subst (λ spokes. IsRoundTrip spokes (trip_of trips i)) (omega arith) (are.each i within)

  pub stations_few : stations_for trips ≤ 200
  stations_few = omega (arith, are.few)

  pub legs_read : LegsRead (map code_of (station_list trips)) settings (records_of (bytes trips).legs) (leg_list settings trips)
  unfolding tables_of_trips
  legs_read =
      subst (λ names. LegsRead names settings (records_of (bytes trips).legs) (leg_list settings trips)) (sym (map-list_below code_of station_entry (stations_for trips)))
      (legs_back trips (length trips) (stations_for trips) are.few stations_few each_fits settings one)

  flights_are : map flight_of (leg_list settings trips) ≡ list_below flight_name (2 * length trips)
  flights_are = map-list_below flight_of (leg_entry settings trips) (2 * length trips)

  pub costs_read : CostsRead (map flight_of (leg_list settings trips)) (map fleet_name_of (fleet_list trips)) (records_of (bytes trips).costs) (cost_list trips)
  unfolding tables_of_trips
  costs_read =
      subst (λ flights. CostsRead flights (map fleet_name_of (fleet_list trips)) (records_of (bytes trips).costs) (cost_list trips)) (sym flights_are)
      (costs_back trips (length trips) (stations_for trips) are.few stations_few each_fits)

  pub throughs_read : ThroughsRead (map flight_of (leg_list settings trips)) (bytes trips).throughs (through_list trips)
  unfolding tables_of_trips
  throughs_read =
      subst (λ flights. ThroughsRead flights (bytes trips).throughs (through_list trips)) (sym flights_are)
      (throughs_back trips (length trips) (stations_for trips) are.few stations_few each_fits)

  module _ (settings_fit : AreSettings settings) where
    pub legs_fit : AreLegs (length (station_list trips)) settings.period (leg_list settings trips)
    legs_fit = legs_keep (station_list trips) settings (records_of (bytes trips).legs) (leg_list settings trips) legs_read

    pub costs_fit : AreCosts (length (leg_list settings trips)) (length (fleet_list trips)) (cost_list trips)
    costs_fit = costs_keep (leg_list settings trips) (fleet_list trips) (records_of (bytes trips).costs) (cost_list trips) costs_read

    pub throughs_fit : AreThroughs (length (leg_list settings trips)) (through_list trips)
    throughs_fit = throughs_keep (leg_list settings trips) (bytes trips).throughs (through_list trips) throughs_read

    abbrev pub made_schedule : Tables
    made_schedule = record {
      stations = station_list trips;
      fleets = fleet_list trips;
      legs = leg_list settings trips;
      costs = cost_list trips;
      throughs = through_list trips;
      settings = settings;
      departures = departures_of_legs (leg_list settings trips);
      windows = false;
      optional = false;
      in_range =
          tables_fit (station_list trips) (fleet_list trips) (leg_list settings trips) (cost_list trips) (through_list trips) settings (departures_of_legs (leg_list settings trips))
          (stations_keep _ (station_list trips) (stations_back (stations_for trips) stations_few)) (fleets_keep _ (fleet_list trips) (fleets_back (length trips) are.few))
          legs_fit costs_fit throughs_fit settings_fit refl (legs_plain (map code_of (station_list trips)) settings (records_of (bytes trips).legs) (leg_list settings trips) legs_read);
    }

    pub schedule_reads : Reads (bytes trips) settings made_schedule
    unfolding tables_of_trips
    schedule_reads = record {
      stations = stations_back (stations_for trips) stations_few;
      fleets = fleets_back (length trips) are.few;
      legs = legs_read;
      costs = costs_read;
      throughs = throughs_read;
      settings_are = refl;
      no_windows = refl;
      none_optional = refl;
    }
