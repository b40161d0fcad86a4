-- Five files read as tables, or they have a first fault.
use Rattle.std.proofs.Common.{◌==◌, ◌⊎◌, ℕ, true, false, List, [], ◌∷◌, map, refl, inl, inr}
use Rattle.csv_fields.specs.Record.{records_of}
use Rattle.fleet_model.specs.Limits.{AreSettings}
use Rattle.fleet_model.specs.Windows.{departures_of_legs}
use Rattle.fleet_model.specs.declared.parts.Fleet.{Fleet}
use Rattle.fleet_model.specs.declared.parts.Leg.{Leg}
use Rattle.fleet_model.specs.declared.parts.PairCost.{PairCost}
use Rattle.fleet_model.specs.declared.parts.Settings.{Settings}
use Rattle.fleet_model.specs.declared.parts.Station.{Station}
use Rattle.fleet_model.specs.declared.parts.Through.{Through}
use Rattle.fleet_model.specs.declared.refusals.TableFile.TheVariants as file
use Rattle.table_rows.specs.fleet_tables.Costs.{cost_header, cost_key, cost_read, flight_of}
use Rattle.table_rows.specs.fleet_tables.Fleets.{fleet_header, fleet_name_of, fleet_read}
use Rattle.table_rows.proofs.fleet_tables.CostsFit.{costs_keep}
use Rattle.table_rows.proofs.fleet_tables.FleetsFit.{fleets_keep}
use Rattle.sched_read.specs.Laws.{HaveFirstFault, ReadAsTables}
use Rattle.sched_read.specs.Legs.{leg_headers, leg_read}
use Rattle.sched_read.specs.Reading.{ReadCosts, TableBytes}
use Rattle.sched_read.specs.Throughs.{ThroughsBad, ThroughsRead, connection_of, through_header, through_read}
use Rattle.sched_read.proofs.LegsFit.{headers_differ, legs_keep, legs_plain}
use Rattle.sched_read.proofs.TablesFit.{tables_fit}
use Rattle.sched_read.proofs.ThroughsFit.{throughs_keep}
use Rattle.table_rows.specs.station_table.Stations.{code_of, station_headers, station_read}
use Rattle.table_rows.proofs.station_table.StationsFit.{stations_differ, stations_keep}
use Rattle.table_rows.proofs.FormReading.{form_end_exists}
use Rattle.table_rows.proofs.OneReading.{table_end_exists}

abbrev End : TableBytes → Settings → Type 0
End bytes settings = ReadAsTables bytes settings ⊎ HaveFirstFault bytes settings

throughs_end : (flights : List (List ℕ)) (bytes : List ℕ) → ((throughs : List Through) × ThroughsRead flights bytes throughs) ⊎ ((row : ℕ) × (kind : ℕ) × ThroughsBad flights bytes row kind)
throughs_end flights [] = inl ([], inl (refl, refl))
throughs_end flights (b ∷ bytes) = elim (table_end_exists connection_of (through_read flights) through_header (records_of (b ∷ bytes))) [
  | inl all ↦ inl (all.0, inr all.1)
  | inr fault ↦ inr (fault.0, fault.1, ((λ none. cc), fault.2))
]

-- lists that five files read as are tables
tables_of : (bytes : TableBytes) (settings : Settings) → AreSettings settings → (s : List Station) (f : List Fleet) (l : List Leg) (c : List PairCost) (h : List Through)
    → ReadCosts bytes settings s f l c → ThroughsRead (map flight_of l) bytes.throughs h → ReadAsTables bytes settings
tables_of bytes settings fit s f l c h reads throughs = record {
  tables = record {
    stations = s;
    fleets = f;
    legs = l;
    costs = c;
    throughs = h;
    settings = settings;
    departures = departures_of_legs l;
    windows = false;
    optional = false;
    in_range =
        tables_fit s f l c h settings (departures_of_legs l)
        (stations_keep (records_of bytes.stations) s reads.stations) (fleets_keep (records_of bytes.fleets) f reads.fleets) (legs_keep s settings (records_of bytes.legs) l reads.legs)
        (costs_keep l f (records_of bytes.costs) c reads.costs) (throughs_keep l bytes.throughs h throughs) fit
        refl (legs_plain (map code_of s) settings (records_of bytes.legs) l reads.legs);
  };
  reads = record { stations = reads.stations; fleets = reads.fleets; legs = reads.legs; costs = reads.costs; throughs = throughs; settings_are = refl; no_windows = refl; none_optional = refl };
}

pub read_or_fault : (bytes : TableBytes) (settings : Settings) → AreSettings settings → End bytes settings
read_or_fault bytes settings fit = elim (form_end_exists code_of station_read station_headers true stations_differ (records_of bytes.stations)) [
  | inr bad ↦ inr (record { file = file.Stations; row = bad.0; kind = bad.1; bad = bad.2 })
  | inl s ↦ elim (table_end_exists fleet_name_of fleet_read fleet_header (records_of bytes.fleets)) [
    | inr bad ↦ inr (record { file = file.Fleets; row = bad.0; kind = bad.1; bad = (s.0, s.1, bad.2) })
    | inl f ↦ elim (form_end_exists flight_of (leg_read (map code_of s.0) settings) leg_headers (settings.period == 1) headers_differ (records_of bytes.legs)) [
      | inr bad ↦ inr (record { file = file.Legs; row = bad.0; kind = bad.1; bad = (s.0, f.0, record { stations = s.1; fleets = f.1 }, bad.2) })
      | inl l ↦ elim (table_end_exists cost_key (cost_read (map flight_of l.0) (map fleet_name_of f.0)) cost_header (records_of bytes.costs)) [
        | inr bad ↦ inr (record { file = file.Costs; row = bad.0; kind = bad.1; bad = (s.0, f.0, l.0, record { stations = s.1; fleets = f.1; legs = l.1 }, bad.2) })
        | inl c ↦
            let before : ReadCosts bytes settings s.0 f.0 l.0 c.0 = record { stations = s.1; fleets = f.1; legs = l.1; costs = c.1 } in
            elim (throughs_end (map flight_of l.0) bytes.throughs) [
              | inr bad ↦ inr (record { file = file.Throughs; row = bad.0; kind = bad.1; bad = (s.0, f.0, l.0, c.0, before, bad.2) })
              | inl h ↦ inl (tables_of bytes settings fit s.0 f.0 l.0 c.0 h.0 before h.1)
            ]
      ]
    ]
  ]
]
