-- A record whose fields have their forms reads as its entry, below entries with other names.
use Rattle.std.proofs.Common.{◌≡◌, ◌==◌, ℕ, ◌<◌, ◌≤◌, pos, neg_ℤ, Bool, false, List, [], ◌∷◌, length, codes, Some, None, Ok, refl, ap, arith}
use Rattle.std.specs.Fmt.{decimal, digits}
use Rattle.std.proofs.lemmas.Int.{ints}
use Rattle.std.proofs.lemmas.Bool.{lt-leb}
use Rattle.csv_fields.specs.Flag.{flag_text}
use Rattle.entries.specs.Names.{IsName, IsStationCode}
use Rattle.fleet_model.specs.declared.limits.TheConstants.{MAX_AIRCRAFT, MAX_COST, MAX_FLEETS, MAX_GROUND_MINUTES, MAX_LEGS, MAX_STATIONS, MAX_THROUGHS}
use Rattle.fleet_model.specs.Period.{minute_of_day}
use Rattle.fleet_model.specs.declared.parts.Settings.{Settings}
use Rattle.table_rows.specs.fleet_tables.Costs.{cost_read}
use Rattle.table_rows.specs.fleet_tables.Fleets.{fleet_read}
use Rattle.sched_read.specs.Legs.{block_between, day_read, from_day_start, leg_between, leg_read}
use Rattle.sched_read.specs.Throughs.{through_read}
use Rattle.sched_read.proofs.OneDay.{one_day}
use Rattle.table_rows.specs.station_table.Stations.{station_read}
use Rattle.table_rows.specs.Fields.{as_natural, natural_of}
use Rattle.table_rows.specs.Names.{is_among, number_of_name}
use Rattle.table_rows.specs.declared.forms.Form.TheVariants as form
use Rattle.table_maker.specs.Fields.{clock_text}
use Rattle.table_maker.proofs.FieldForms.{clock_kept, clock_reads, code_reads, flag_kept, flag_reads, hyphen_is_text, name_kept, name_reads, natural_reads, number_is_name, whole_reads}
use Rattle.table_maker.proofs.NamesDiffer.{code_is_name}

pub station_one : (earlier : List (List ℕ)) (code : List ℕ) (maintenance : Bool) → IsStationCode code → is_among code earlier ≡ false → length earlier < 200
    → station_read form.Old earlier (code ∷ codes "0" ∷ flag_text maintenance ∷ []) ≡ Ok (record { code = code; extra = 0; maintenance = maintenance; parking = None })
unfolding station_read digits
station_one earlier code maintenance form fresh few =
    let zero_is : natural_of (codes "0") MAX_GROUND_MINUTES ≡ Ok 0 = natural_reads 0 MAX_GROUND_MINUTES (omega arith) (omega arith) in
    let zero_text = (name_kept (codes "0") (number_is_name 0 (omega arith))).text in
    let text = (name_kept code (code_is_name code form)).text in
    rw (text, zero_text, (flag_kept maintenance).text, hyphen_is_text, code_reads code form, zero_is, flag_reads maintenance, fresh, lt-leb MAX_STATIONS (length earlier) few) refl

pub fleet_one : (earlier : List (List ℕ)) (name : List ℕ) (aircraft turn : ℕ) → IsName name → aircraft ≤ 500 → turn ≤ 600 → is_among name earlier ≡ false → length earlier < 20
    → fleet_read earlier (name ∷ decimal aircraft ∷ decimal turn ∷ []) ≡ Ok (record { name = name; aircraft = aircraft; turn = turn })
unfolding fleet_read
fleet_one earlier name aircraft turn form enough short fresh few =
    let text = (name_kept name form).text in
    let count_text = (name_kept (decimal aircraft) (number_is_name aircraft (omega arith))).text in
    let turn_text = (name_kept (decimal turn) (number_is_name turn (omega arith))).text in
    rw (text, count_text, turn_text, name_reads name form, natural_reads aircraft MAX_AIRCRAFT (omega arith) (omega arith))
    (rw (natural_reads turn MAX_GROUND_MINUTES (omega arith) (omega arith), fresh, lt-leb MAX_FLEETS (length earlier) few) refl)

-- the day of a record that has none
first_day : (settings : Settings) → settings.period ≡ 1 → day_read settings (codes "1") ≡ Ok 1
unfolding digits
first_day settings one = ap as_natural (whole_reads 1 (pos 1) (pos settings.period) (omega arith) (omega (arith, ints)) (omega (arith, ints, one)))

pub leg_one : (stations : List (List ℕ)) (settings : Settings) (earlier : List (List ℕ)) (flight from to : List ℕ) (a b leaves lands block : ℕ) → settings.period ≡ 1
    → IsName flight → IsStationCode from → IsStationCode to → number_of_name from stations ≡ Some a → number_of_name to stations ≡ Some b → (a == b) ≡ false
    → is_among flight earlier ≡ false → length earlier < 1000 → block_between (minute_of_day leaves) (minute_of_day lands) ≡ block → (block == 0) ≡ false
    → leg_read stations settings form.Old earlier (flight ∷ from ∷ clock_text leaves ∷ to ∷ clock_text lands ∷ [])
    ≡ Ok (leg_between flight a b (from_day_start settings (minute_of_day leaves)) block)
unfolding leg_read digits
leg_one stations settings earlier flight from to a b leaves lands block one form from_form to_form from_is to_is away fresh few is some =
    let text = (name_kept flight form).text in
    let from_text = (name_kept from (code_is_name from from_form)).text in
    let to_text = (name_kept to (code_is_name to to_form)).text in
    rw (text, from_text, (clock_kept leaves).text, to_text, (clock_kept lands).text)
    (rw (name_reads flight form, first_day settings one, code_reads from from_form, clock_reads leaves, code_reads to to_form, clock_reads lands)
    (rw (fresh, from_is, to_is, is, some, away, lt-leb MAX_LEGS (length earlier) few, one_day settings (minute_of_day leaves) one) refl))

pub cost_one : (flights fleets earlier : List (List ℕ)) (flight fleet : List ℕ) (l f cost : ℕ) → IsName flight → IsName fleet
    → number_of_name flight flights ≡ Some l → number_of_name fleet fleets ≡ Some f → cost < 10000 → is_among (l ∷ f ∷ []) earlier ≡ false
    → cost_read flights fleets earlier (flight ∷ fleet ∷ decimal cost ∷ []) ≡ Ok (record { leg = l; fleet = f; cost = pos cost })
unfolding cost_read
cost_one flights fleets earlier flight fleet l f cost form fleet_form leg_is fleet_is small fresh =
    let text = (name_kept flight form).text in
    let fleet_text = (name_kept fleet fleet_form).text in
    let cost_text = (name_kept (decimal cost) (number_is_name cost small)).text in
    rw (text, fleet_text, cost_text, name_reads flight form, name_reads fleet fleet_form)
    (rw (whole_reads cost (neg_ℤ MAX_COST) MAX_COST small (omega (arith, ints)) (omega (arith, ints)), leg_is, fleet_is, fresh) refl)

pub through_one : (flights earlier : List (List ℕ)) (arriving departing : List ℕ) (l m value : ℕ) → IsName arriving → IsName departing
    → number_of_name arriving flights ≡ Some l → number_of_name departing flights ≡ Some m → value < 10000
    → is_among (l ∷ m ∷ []) earlier ≡ false → length earlier < 2000
    → through_read flights earlier (arriving ∷ departing ∷ decimal value ∷ []) ≡ Ok (record { arriving = l; departing = m; value = pos value })
unfolding through_read
through_one flights earlier arriving departing l m value form other_form leg_is next_is small fresh few =
    let text = (name_kept arriving form).text in
    let other_text = (name_kept departing other_form).text in
    let value_text = (name_kept (decimal value) (number_is_name value small)).text in
    rw (text, other_text, value_text, name_reads arriving form, name_reads departing other_form)
    (rw (whole_reads value (pos 0) MAX_COST small (omega (arith, ints)) (omega (arith, ints)), leg_is, next_is, fresh, lt-leb MAX_THROUGHS (length earlier) few) refl)
