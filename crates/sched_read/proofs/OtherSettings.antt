-- Of the settings, reading looks at the day start and the period alone.
use Rattle.std.proofs.Common.{◌≡◌, ℕ, List, length, map, refl, subst}
use Rattle.csv_fields.specs.Record.{records_of}
use Rattle.fleet_model.specs.Limits.{AreLegs, AreSettings}
use Rattle.fleet_model.specs.declared.parts.Fleet.{Fleet}
use Rattle.fleet_model.specs.declared.parts.Leg.{Leg}
use Rattle.fleet_model.specs.declared.parts.PairCost.{PairCost}
use Rattle.fleet_model.specs.declared.parts.Settings.{Settings}
use Rattle.fleet_model.specs.declared.parts.Station.{Station}
use Rattle.fleet_model.specs.declared.refusals.TableFile.{TableFile}
use Rattle.fleet_model.specs.declared.refusals.TableFile.TheVariants as file
use Rattle.fleet_model.specs.declared.tables.Tables.{Tables}
use Rattle.sched_read.specs.Legs.{LegsBad, LegsRead, leg_read}
use Rattle.sched_read.specs.Reading.{BadAt, ReadCosts, ReadLegs, Reads, TableBytes}
use Rattle.table_rows.specs.station_table.Stations.{code_of}
use Rattle.table_rows.specs.Rows.{Fields}

-- the lists of tables, by other settings of as many days
abbrev pub with_settings : (t : Tables) (settings : Settings) → AreSettings settings → t.settings.period ≡ settings.period → Tables
with_settings t settings fit as_long = record {
  stations = t.stations;
  fleets = t.fleets;
  legs = t.legs;
  costs = t.costs;
  throughs = t.throughs;
  settings = settings;
  departures = t.departures;
  windows = t.windows;
  optional = t.optional;
  in_range = record {
    stations_fit = t.in_range.stations_fit;
    fleets_fit = t.in_range.fleets_fit;
    legs_fit = subst (λ days. AreLegs (length t.stations) days t.legs) as_long t.in_range.legs_fit;
    costs_fit = t.in_range.costs_fit;
    throughs_fit = t.in_range.throughs_fit;
    settings_fit = fit;
    departures_fit = t.in_range.departures_fit;
    few_triples = t.in_range.few_triples;
    moved_where_asked = t.in_range.moved_where_asked;
    left_out_where_asked = t.in_range.left_out_where_asked;
  };
}

module _ (a b : Settings) (same : a.day_start ≡ b.day_start) (as_long : a.period ≡ b.period) where
  -- what reading legs looks at
  abbrev plain : ℕ → ℕ → Settings
  plain day_start period = record a { day_start = day_start; period = period }

  legs_read : (stations : List (List ℕ)) (records : List Fields) (legs : List Leg) → LegsRead stations a records legs → LegsRead stations b records legs
  unfolding leg_read
  legs_read stations records legs reads =
      subst (λ period. LegsRead stations (plain b.day_start period) records legs) as_long (subst (λ day. LegsRead stations (plain day a.period) records legs) same reads)

  legs_bad : (stations : List (List ℕ)) (records : List Fields) (row kind : ℕ) → LegsBad stations a records row kind → LegsBad stations b records row kind
  unfolding leg_read
  legs_bad stations records row kind bad =
      subst (λ period. LegsBad stations (plain b.day_start period) records row kind) as_long (subst (λ day. LegsBad stations (plain day a.period) records row kind) same bad)

module _ (bytes : TableBytes) (a b : Settings) (same : a.day_start ≡ b.day_start) (as_long : a.period ≡ b.period) where
  -- files that read by settings read by others with the same day start and as many days
  pub reads_by_day : (t : Tables) (fit : AreSettings b) (days : t.settings.period ≡ b.period) → Reads bytes a t → Reads bytes b (with_settings t b fit days)
  reads_by_day t fit days reads = record {
    stations = reads.stations;
    fleets = reads.fleets;
    legs = legs_read a b same as_long (map code_of t.stations) (records_of bytes.legs) t.legs reads.legs;
    costs = reads.costs;
    throughs = reads.throughs;
    settings_are = refl;
    no_windows = reads.no_windows;
    none_optional = reads.none_optional;
  }

  read_legs : (s : List Station) (f : List Fleet) (l : List Leg) → ReadLegs bytes a s f l → ReadLegs bytes b s f l
  read_legs s f l reads = record {
    stations = reads.stations;
    fleets = reads.fleets;
    legs = legs_read a b same as_long (map code_of s) (records_of bytes.legs) l reads.legs;
  }

  read_costs : (s : List Station) (f : List Fleet) (l : List Leg) (c : List PairCost) → ReadCosts bytes a s f l c → ReadCosts bytes b s f l c
  read_costs s f l c reads = record {
    stations = reads.stations;
    fleets = reads.fleets;
    legs = legs_read a b same as_long (map code_of s) (records_of bytes.legs) l reads.legs;
    costs = reads.costs;
  }

  -- so is their first fault
  pub bad_by_day : (at : TableFile) (row kind : ℕ) → BadAt bytes a at row kind → BadAt bytes b at row kind
  bad_by_day file.Stations row kind bad = bad
  bad_by_day file.Fleets row kind bad = bad
  bad_by_day file.Legs row kind (s, f, before, bad) = (s, f, before, legs_bad a b same as_long (map code_of s) (records_of bytes.legs) row kind bad)
  bad_by_day file.Costs row kind (s, f, l, before, bad) = (s, f, l, read_legs s f l before, bad)
  bad_by_day file.Throughs row kind (s, f, l, c, before, bad) = (s, f, l, c, read_costs s f l c before, bad)
  bad_by_day file.Windows row kind bad = bad
  bad_by_day file.Optional row kind bad = bad
  bad_by_day file.Tails row kind bad = bad
