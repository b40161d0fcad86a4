-- Five files read in one way at most, or have one first fault at most, and not both.
use Rattle.std.proofs.Common.{◌≡◌, ◌==◌, ℕ, true, List, [], map, refl, sym, ap, subst, ◌∙◌, inl, inr}
use Rattle.csv_fields.proofs.NoBytes.{no_bytes_no_record}
use Rattle.csv_fields.specs.Record.{records_of}
use Rattle.fleet_model.proofs.TablesSame.{tables_same}
use Rattle.fleet_model.specs.declared.parts.Fleet.{Fleet}
use Rattle.fleet_model.specs.declared.parts.Leg.{Leg}
use Rattle.fleet_model.specs.declared.parts.PairCost.{PairCost}
use Rattle.fleet_model.specs.declared.parts.Settings.{Settings}
use Rattle.fleet_model.specs.declared.parts.Station.{Station}
use Rattle.fleet_model.specs.declared.parts.Through.{Through}
use Rattle.fleet_model.specs.declared.refusals.TableFile.{TableFile}
use Rattle.fleet_model.specs.declared.refusals.TableFile.TheVariants as file
use Rattle.fleet_model.specs.declared.tables.Tables.{Tables}
use Rattle.table_rows.specs.fleet_tables.Costs.{CostsBad, CostsRead, cost_header, cost_key, cost_read, flight_of}
use Rattle.table_rows.specs.fleet_tables.Fleets.{FleetsBad, FleetsRead, fleet_header, fleet_name_of, fleet_read}
use Rattle.sched_read.specs.Laws.{SameFault}
use Rattle.sched_read.specs.Legs.{LegsBad, LegsRead, leg_headers, leg_read}
use Rattle.sched_read.specs.Reading.{BadAt, ReadCosts, ReadFleets, ReadLegs, Reads, TableBytes}
use Rattle.sched_read.specs.Throughs.{ThroughTableBad, ThroughTableReads, ThroughsBad, ThroughsRead, connection_of, through_header, through_read}
use Rattle.sched_read.proofs.LegsFit.{headers_differ}
use Rattle.table_rows.specs.station_table.Stations.{StationsBad, StationsRead, code_of, station_headers, station_read}
use Rattle.table_rows.proofs.station_table.StationsFit.{stations_differ}
use Rattle.table_rows.proofs.FormReading.{form_bad_same, form_reads_no_fault, form_reads_same}
use Rattle.table_rows.proofs.OneReading.{table_bad_same, table_reads_no_fault, table_reads_same}

-- files of stations and fleets read as one list each
stations_same : (bytes : TableBytes) (a b : List Station) → StationsRead (records_of bytes.stations) a → StationsRead (records_of bytes.stations) b → a ≡ b
stations_same bytes a b = form_reads_same code_of station_read station_headers true stations_differ (records_of bytes.stations) a b

fleets_same : (bytes : TableBytes) (a b : List Fleet) → FleetsRead (records_of bytes.fleets) a → FleetsRead (records_of bytes.fleets) b → a ≡ b
fleets_same bytes a b = table_reads_same fleet_name_of fleet_read fleet_header (records_of bytes.fleets) a b

-- a later file by the entries of the files before it, where these are the same
legs_same : (bytes : TableBytes) (settings : Settings) (s s' : List Station) (a b : List Leg) → s ≡ s'
    → LegsRead (map code_of s) settings (records_of bytes.legs) a → LegsRead (map code_of s') settings (records_of bytes.legs) b → a ≡ b
legs_same bytes settings s s' a b same reads_a reads_b =
    form_reads_same flight_of (leg_read (map code_of s') settings) leg_headers (settings.period == 1) headers_differ (records_of bytes.legs) a b (subst (λ stations. LegsRead (map code_of stations) settings (records_of bytes.legs) a) same reads_a) reads_b

costs_same : (bytes : TableBytes) (l l' : List Leg) (f f' : List Fleet) (a b : List PairCost) → l ≡ l' → f ≡ f'
    → CostsRead (map flight_of l) (map fleet_name_of f) (records_of bytes.costs) a → CostsRead (map flight_of l') (map fleet_name_of f') (records_of bytes.costs) b → a ≡ b
costs_same bytes l l' f f' a b legs fleets reads_a reads_b =
    table_reads_same cost_key (cost_read (map flight_of l') (map fleet_name_of f')) cost_header (records_of bytes.costs) a b
    (subst (λ k. CostsRead (map flight_of l') (map fleet_name_of k) (records_of bytes.costs) a) fleets (subst (λ k. CostsRead (map flight_of k) (map fleet_name_of f) (records_of bytes.costs) a) legs reads_a)) reads_b

-- a file of zero bytes has no header
no_header : (flights : List (List ℕ)) (bytes : List ℕ) (throughs : List Through) → bytes ≡ [] → ThroughTableReads flights (records_of bytes) throughs → ⊥
no_header flights bytes throughs none reads =
    let empty : records_of bytes ≡ [] = ap records_of none ∙ no_bytes_no_record in
    let under = reads.under in
    cc

throughs_same : (bytes : TableBytes) (l l' : List Leg) (a b : List Through) → l ≡ l'
    → ThroughsRead (map flight_of l) bytes.throughs a → ThroughsRead (map flight_of l') bytes.throughs b → a ≡ b
throughs_same bytes l l' a b same (inl none_a) (inl none_b) = none_a.1 ∙ sym none_b.1
throughs_same bytes l l' a b same (inl none) (inr reads) = absurd (no_header (map flight_of l') bytes.throughs b none.0 reads)
throughs_same bytes l l' a b same (inr reads) (inl none) = absurd (no_header (map flight_of l) bytes.throughs a none.0 reads)
throughs_same bytes l l' a b same (inr reads_a) (inr reads_b) =
    table_reads_same connection_of (through_read (map flight_of l')) through_header (records_of bytes.throughs) a b
    (subst (λ legs. ThroughTableReads (map flight_of legs) (records_of bytes.throughs) a) same reads_a) reads_b

-- a file that reads has no fault
stations_sound : (bytes : TableBytes) (a : List Station) (row kind : ℕ) → StationsRead (records_of bytes.stations) a → StationsBad (records_of bytes.stations) row kind → ⊥
stations_sound bytes a row kind = form_reads_no_fault code_of station_read station_headers true stations_differ (records_of bytes.stations) a row kind

fleets_sound : (bytes : TableBytes) (a : List Fleet) (row kind : ℕ) → FleetsRead (records_of bytes.fleets) a → FleetsBad (records_of bytes.fleets) row kind → ⊥
fleets_sound bytes a row kind = table_reads_no_fault fleet_name_of fleet_read fleet_header (records_of bytes.fleets) a row kind

legs_sound : (bytes : TableBytes) (settings : Settings) (s s' : List Station) (a : List Leg) (row kind : ℕ) → s ≡ s'
    → LegsRead (map code_of s) settings (records_of bytes.legs) a → LegsBad (map code_of s') settings (records_of bytes.legs) row kind → ⊥
legs_sound bytes settings s s' a row kind same reads =
    form_reads_no_fault flight_of (leg_read (map code_of s') settings) leg_headers (settings.period == 1) headers_differ (records_of bytes.legs) a row kind
    (subst (λ stations. LegsRead (map code_of stations) settings (records_of bytes.legs) a) same reads)

costs_sound : (bytes : TableBytes) (l l' : List Leg) (f f' : List Fleet) (a : List PairCost) (row kind : ℕ) → l ≡ l' → f ≡ f'
    → CostsRead (map flight_of l) (map fleet_name_of f) (records_of bytes.costs) a → CostsBad (map flight_of l') (map fleet_name_of f') (records_of bytes.costs) row kind → ⊥
costs_sound bytes l l' f f' a row kind legs fleets reads =
    table_reads_no_fault cost_key (cost_read (map flight_of l') (map fleet_name_of f')) cost_header (records_of bytes.costs) a row kind
    (subst (λ k. CostsRead (map flight_of l') (map fleet_name_of k) (records_of bytes.costs) a) fleets (subst (λ k. CostsRead (map flight_of k) (map fleet_name_of f) (records_of bytes.costs) a) legs reads))

throughs_sound : (bytes : TableBytes) (l l' : List Leg) (a : List Through) (row kind : ℕ) → l ≡ l'
    → ThroughsRead (map flight_of l) bytes.throughs a → ThroughsBad (map flight_of l') bytes.throughs row kind → ⊥
throughs_sound bytes l l' a row kind same (inl none) bad = bad.0 none.0
throughs_sound bytes l l' a row kind same (inr reads) bad =
    table_reads_no_fault connection_of (through_read (map flight_of l')) through_header (records_of bytes.throughs) a row kind
    (subst (λ legs. ThroughTableReads (map flight_of legs) (records_of bytes.throughs) a) same reads) bad.1

-- the entries of files that read twice
read_legs_same : (bytes : TableBytes) (settings : Settings) (s s' : List Station) (f f' : List Fleet) (l l' : List Leg) → ReadLegs bytes settings s f l → ReadLegs bytes settings s' f' l'
    → l ≡ l'
read_legs_same bytes settings s s' f f' l l' a b = legs_same bytes settings s s' l l' (stations_same bytes s s' a.stations b.stations) a.legs b.legs

-- files that read as tables have no first fault
pub reads_no_fault : (bytes : TableBytes) (settings : Settings) (t : Tables) (at : TableFile) (row kind : ℕ) → Reads bytes settings t → BadAt bytes settings at row kind → ⊥
reads_no_fault bytes settings t file.Stations row kind reads bad = stations_sound bytes t.stations row kind reads.stations bad
reads_no_fault bytes settings t file.Fleets row kind reads bad = fleets_sound bytes t.fleets row kind reads.fleets bad.2
reads_no_fault bytes settings t file.Legs row kind reads (s, f, before, bad) =
    legs_sound bytes settings t.stations s t.legs row kind (stations_same bytes t.stations s reads.stations before.stations) reads.legs bad
reads_no_fault bytes settings t file.Costs row kind reads (s, f, l, before, bad) =
    costs_sound bytes t.legs l t.fleets f t.costs row kind (legs_same bytes settings t.stations s t.legs l (stations_same bytes t.stations s reads.stations before.stations) reads.legs before.legs)
    (fleets_same bytes t.fleets f reads.fleets before.fleets) reads.costs bad
reads_no_fault bytes settings t file.Throughs row kind reads (s, f, l, c, before, bad) =
    throughs_sound bytes t.legs l t.throughs row kind (legs_same bytes settings t.stations s t.legs l (stations_same bytes t.stations s reads.stations before.stations) reads.legs before.legs) reads.throughs bad
reads_no_fault bytes settings t file.Windows row kind reads bad = bad
reads_no_fault bytes settings t file.Optional row kind reads bad = bad
reads_no_fault bytes settings t file.Tails row kind reads bad = bad

-- files read as one set of tables at most
pub one_reading : (bytes : TableBytes) (settings : Settings) (a b : Tables) → Reads bytes settings a → Reads bytes settings b → a ≡ b
one_reading bytes settings a b reads_a reads_b =
    let stations = stations_same bytes a.stations b.stations reads_a.stations reads_b.stations in
    let fleets = fleets_same bytes a.fleets b.fleets reads_a.fleets reads_b.fleets in
    let legs = legs_same bytes settings a.stations b.stations a.legs b.legs stations reads_a.legs reads_b.legs in
    let costs = costs_same bytes a.legs b.legs a.fleets b.fleets a.costs b.costs legs fleets reads_a.costs reads_b.costs in
    let throughs = throughs_same bytes a.legs b.legs a.throughs b.throughs legs reads_a.throughs reads_b.throughs in
    tables_same a b stations fleets legs costs throughs (reads_a.settings_are ∙ sym reads_b.settings_are) (reads_a.no_windows ∙ sym reads_b.no_windows) (reads_a.none_optional ∙ sym reads_b.none_optional)

-- two first faults of one file
same_fault : (at : TableFile) (row other kind other_kind : ℕ) → (row ≡ other) × (kind ≡ other_kind) → SameFault at at row other kind other_kind
same_fault at row other kind other_kind same = record { file_is = refl; row_is = same.0; kind_is = same.1 }

-- a first fault of stations is the only first fault, and so on for the files after it
stations_first : (bytes : TableBytes) (settings : Settings) (at : TableFile) (row other kind other_kind : ℕ) → StationsBad (records_of bytes.stations) row kind → BadAt bytes settings at other other_kind
    → SameFault file.Stations at row other kind other_kind
stations_first bytes settings file.Stations row other kind other_kind bad found =
    same_fault file.Stations row other kind other_kind (form_bad_same code_of station_read station_headers true stations_differ (records_of bytes.stations) row other kind other_kind bad found)
stations_first bytes settings file.Fleets row other kind other_kind bad (s, reads, found) = absurd (stations_sound bytes s row kind reads bad)
stations_first bytes settings file.Legs row other kind other_kind bad (s, f, before, found) = absurd (stations_sound bytes s row kind before.stations bad)
stations_first bytes settings file.Costs row other kind other_kind bad (s, f, l, before, found) = absurd (stations_sound bytes s row kind before.stations bad)
stations_first bytes settings file.Throughs row other kind other_kind bad (s, f, l, c, before, found) = absurd (stations_sound bytes s row kind before.stations bad)
stations_first bytes settings file.Windows row other kind other_kind bad found = absurd found
stations_first bytes settings file.Optional row other kind other_kind bad found = absurd found
stations_first bytes settings file.Tails row other kind other_kind bad found = absurd found

fleets_first : (bytes : TableBytes) (settings : Settings) (at : TableFile) (row other kind other_kind : ℕ) (s : List Station) → StationsRead (records_of bytes.stations) s
    → FleetsBad (records_of bytes.fleets) row kind → BadAt bytes settings at other other_kind → SameFault file.Fleets at row other kind other_kind
fleets_first bytes settings file.Stations row other kind other_kind s reads bad found = absurd (stations_sound bytes s other other_kind reads found)
fleets_first bytes settings file.Fleets row other kind other_kind s reads bad (z, again, found) =
    same_fault file.Fleets row other kind other_kind (table_bad_same fleet_name_of fleet_read fleet_header (records_of bytes.fleets) row other kind other_kind bad found)
fleets_first bytes settings file.Legs row other kind other_kind s reads bad (z, f, before, found) = absurd (fleets_sound bytes f row kind before.fleets bad)
fleets_first bytes settings file.Costs row other kind other_kind s reads bad (z, f, l, before, found) = absurd (fleets_sound bytes f row kind before.fleets bad)
fleets_first bytes settings file.Throughs row other kind other_kind s reads bad (z, f, l, c, before, found) = absurd (fleets_sound bytes f row kind before.fleets bad)
fleets_first bytes settings file.Windows row other kind other_kind s reads bad found = absurd found
fleets_first bytes settings file.Optional row other kind other_kind s reads bad found = absurd found
fleets_first bytes settings file.Tails row other kind other_kind s reads bad found = absurd found

legs_first : (bytes : TableBytes) (settings : Settings) (at : TableFile) (row other kind other_kind : ℕ) (s : List Station) (f : List Fleet) → ReadFleets bytes s f
    → LegsBad (map code_of s) settings (records_of bytes.legs) row kind → BadAt bytes settings at other other_kind → SameFault file.Legs at row other kind other_kind
legs_first bytes settings file.Stations row other kind other_kind s f reads bad found = absurd (stations_sound bytes s other other_kind reads.stations found)
legs_first bytes settings file.Fleets row other kind other_kind s f reads bad (z, again, found) = absurd (fleets_sound bytes f other other_kind reads.fleets found)
legs_first bytes settings file.Legs row other kind other_kind s f reads bad (z, g, before, found) =
    same_fault file.Legs row other kind other_kind (form_bad_same flight_of (leg_read (map code_of z) settings) leg_headers (settings.period == 1) headers_differ (records_of bytes.legs) row other kind other_kind
    (subst (λ stations. LegsBad (map code_of stations) settings (records_of bytes.legs) row kind) (stations_same bytes s z reads.stations before.stations) bad) found)
legs_first bytes settings file.Costs row other kind other_kind s f reads bad (z, g, l, before, found) =
    absurd (legs_sound bytes settings z s l row kind (stations_same bytes z s before.stations reads.stations) before.legs bad)
legs_first bytes settings file.Throughs row other kind other_kind s f reads bad (z, g, l, c, before, found) =
    absurd (legs_sound bytes settings z s l row kind (stations_same bytes z s before.stations reads.stations) before.legs bad)
legs_first bytes settings file.Windows row other kind other_kind s f reads bad found = absurd found
legs_first bytes settings file.Optional row other kind other_kind s f reads bad found = absurd found
legs_first bytes settings file.Tails row other kind other_kind s f reads bad found = absurd found

costs_first : (bytes : TableBytes) (settings : Settings) (at : TableFile) (row other kind other_kind : ℕ) (s : List Station) (f : List Fleet) (l : List Leg) → ReadLegs bytes settings s f l
    → CostsBad (map flight_of l) (map fleet_name_of f) (records_of bytes.costs) row kind → BadAt bytes settings at other other_kind → SameFault file.Costs at row other kind other_kind
costs_first bytes settings file.Stations row other kind other_kind s f l reads bad found = absurd (stations_sound bytes s other other_kind reads.stations found)
costs_first bytes settings file.Fleets row other kind other_kind s f l reads bad (z, again, found) = absurd (fleets_sound bytes f other other_kind reads.fleets found)
costs_first bytes settings file.Legs row other kind other_kind s f l reads bad (z, g, before, found) =
    absurd (legs_sound bytes settings s z l other other_kind (stations_same bytes s z reads.stations before.stations) reads.legs found)
costs_first bytes settings file.Costs row other kind other_kind s f l reads bad (z, g, m, before, found) =
    let legs = read_legs_same bytes settings s z f g l m reads before in
    let fleets = fleets_same bytes f g reads.fleets before.fleets in
    same_fault file.Costs row other kind other_kind (table_bad_same cost_key (cost_read (map flight_of m) (map fleet_name_of g)) cost_header (records_of bytes.costs) row other kind other_kind
    (subst (λ k. CostsBad (map flight_of m) (map fleet_name_of k) (records_of bytes.costs) row kind) fleets (subst (λ k. CostsBad (map flight_of k) (map fleet_name_of f) (records_of bytes.costs) row kind) legs bad)) found)
costs_first bytes settings file.Throughs row other kind other_kind s f l reads bad (z, g, m, c, before, found) =
    let legs = legs_same bytes settings z s m l (stations_same bytes z s before.stations reads.stations) before.legs reads.legs in
    absurd (costs_sound bytes m l g f c row kind legs (fleets_same bytes g f before.fleets reads.fleets) before.costs bad)
costs_first bytes settings file.Windows row other kind other_kind s f l reads bad found = absurd found
costs_first bytes settings file.Optional row other kind other_kind s f l reads bad found = absurd found
costs_first bytes settings file.Tails row other kind other_kind s f l reads bad found = absurd found

throughs_first : (bytes : TableBytes) (settings : Settings) (at : TableFile) (row other kind other_kind : ℕ) (s : List Station) (f : List Fleet) (l : List Leg) (c : List PairCost) → ReadCosts bytes settings s f l c
    → ThroughsBad (map flight_of l) bytes.throughs row kind → BadAt bytes settings at other other_kind → SameFault file.Throughs at row other kind other_kind
throughs_first bytes settings file.Stations row other kind other_kind s f l c reads bad found = absurd (stations_sound bytes s other other_kind reads.stations found)
throughs_first bytes settings file.Fleets row other kind other_kind s f l c reads bad (z, again, found) = absurd (fleets_sound bytes f other other_kind reads.fleets found)
throughs_first bytes settings file.Legs row other kind other_kind s f l c reads bad (z, g, before, found) =
    absurd (legs_sound bytes settings s z l other other_kind (stations_same bytes s z reads.stations before.stations) reads.legs found)
throughs_first bytes settings file.Costs row other kind other_kind s f l c reads bad (z, g, m, before, found) =
    let legs = legs_same bytes settings s z l m (stations_same bytes s z reads.stations before.stations) reads.legs before.legs in
    absurd (costs_sound bytes l m f g c other other_kind legs (fleets_same bytes f g reads.fleets before.fleets) reads.costs found)
throughs_first bytes settings file.Throughs row other kind other_kind s f l c reads bad (z, g, m, d, before, found) =
    let legs = legs_same bytes settings s z l m (stations_same bytes s z reads.stations before.stations) reads.legs before.legs in
    same_fault file.Throughs row other kind other_kind (table_bad_same connection_of (through_read (map flight_of m)) through_header (records_of bytes.throughs) row other kind other_kind
    (subst (λ k. ThroughTableBad (map flight_of k) (records_of bytes.throughs) row kind) legs bad.1) found.1)
throughs_first bytes settings file.Windows row other kind other_kind s f l c reads bad found = absurd found
throughs_first bytes settings file.Optional row other kind other_kind s f l c reads bad found = absurd found
throughs_first bytes settings file.Tails row other kind other_kind s f l c reads bad found = absurd found

pub one_first_fault : (bytes : TableBytes) (settings : Settings) (at again : TableFile) (row other kind other_kind : ℕ) → BadAt bytes settings at row kind → BadAt bytes settings again other other_kind
    → SameFault at again row other kind other_kind
one_first_fault bytes settings file.Stations again row other kind other_kind bad found = stations_first bytes settings again row other kind other_kind bad found
one_first_fault bytes settings file.Fleets again row other kind other_kind (s, reads, bad) found = fleets_first bytes settings again row other kind other_kind s reads bad found
one_first_fault bytes settings file.Legs again row other kind other_kind (s, f, reads, bad) found = legs_first bytes settings again row other kind other_kind s f reads bad found
one_first_fault bytes settings file.Costs again row other kind other_kind (s, f, l, reads, bad) found = costs_first bytes settings again row other kind other_kind s f l reads bad found
one_first_fault bytes settings file.Throughs again row other kind other_kind (s, f, l, c, reads, bad) found = throughs_first bytes settings again row other kind other_kind s f l c reads bad found
one_first_fault bytes settings file.Windows again row other kind other_kind bad found = absurd bad
one_first_fault bytes settings file.Optional again row other kind other_kind bad found = absurd bad
one_first_fault bytes settings file.Tails again row other kind other_kind bad found = absurd bad
