-- The entries that the records of made tables read as.
use Rattle.std.proofs.Common.{◌≡◌, ◌==◌, bytes_eq, ℕ, zero, suc, ◌+◌, ◌-◌, ◌*◌, ◌/◌, ◌%◌, ◌<◌, ◌≤◌, pos, Bool, true, false, List, [], ◌∷◌, length, codes, slice_index, None, Ok, refl, arith}
use Rattle.std.specs.Prelude.{if◌then◌else◌}
use Rattle.std.specs.Fmt.{digits}
use Rattle.std.proofs.lemmas.Bool.Decides.{nat_tests}
use Rattle.std.proofs.lemmas.List.Folds.{list_any_none}
use Rattle.fleet_model.specs.Period.{minute_of_day, minutes_of}
use Rattle.fleet_model.specs.declared.parts.Fleet.{Fleet}
use Rattle.fleet_model.specs.declared.parts.Leg.{Leg}
use Rattle.fleet_model.specs.declared.parts.PairCost.{PairCost}
use Rattle.fleet_model.specs.declared.parts.Settings.{Settings}
use Rattle.fleet_model.specs.declared.parts.Station.{Station}
use Rattle.fleet_model.specs.declared.parts.Through.{Through}
use Rattle.table_rows.specs.fleet_tables.Costs.{cost_key, cost_read, flight_of}
use Rattle.table_rows.specs.fleet_tables.Fleets.{fleet_name_of, fleet_read}
use Rattle.sched_read.specs.Legs.{block_between, from_day_start, leg_between, leg_read}
use Rattle.sched_read.specs.Throughs.{connection_of, through_read}
use Rattle.table_rows.specs.station_table.Stations.{code_of, station_read}
use Rattle.sums.specs.Places.{list_below}
use Rattle.sums.proofs.Places.{get_or-list_below, length-list_below}
use Rattle.table_rows.specs.Names.{is_among}
use Rattle.table_rows.specs.declared.forms.Form.TheVariants as form
use Rattle.entries.specs.Names.{IsName}
use Rattle.table_maker.specs.Fields.{fleet_name, flight_name, is_out, maintains, station_code}
use Rattle.table_maker.specs.Records.{back_fields, cost_fields, fleet_fields, made_leg_fields, made_station_fields, out_fields, through_fields}
use Rattle.table_maker.specs.Trips.{spokes_for, trip_of}
use Rattle.table_maker.specs.declared.trips.RoundTrip.{RoundTrip}
use Rattle.table_maker.proofs.NamesDiffer.{code_is_code, fleet_is_name, fleets_differ, flight_is_name, flights_differ, stations_differ}
use Rattle.table_maker.proofs.NumberedNames.{fresh, numbered}
use Rattle.table_maker.proofs.RecordsRead.{cost_one, fleet_one, leg_one, station_one, through_one}

-- a round trip to one of so many spokes, in the ranges of its draws
pub record IsRoundTrip (spokes : ℕ) (trip : RoundTrip) : Type 0 where
  pub there : trip.spoke < spokes
  pub departs_fit : trip.departs < minutes_of 1
  pub block_least : 60 ≤ trip.block
  pub block_most : trip.block ≤ 180
  pub stay_least : 60 ≤ trip.stay
  pub stay_most : trip.stay ≤ 120
  pub costs_fit : (k : ℕ) → slice_index trip.costs k < 1500
  pub value_fits : trip.value < 100

-- so few round trips, each to one of the spokes that there are for so many
pub record AreTrips (trips : List RoundTrip) : Type 0 where
  pub few : length trips ≤ 500
  pub each : (i : ℕ) → i < length trips → IsRoundTrip (spokes_for (length trips)) (trip_of trips i)

abbrev pub station_entry : ℕ → Station
station_entry station = record { code = station_code station; extra = 0; maintenance = maintains station; parking = None }

abbrev pub fleet_entry : ℕ → ℕ → Fleet
fleet_entry trips zero = record { name = fleet_name 0; aircraft = trips; turn = 30 }
fleet_entry trips (suc fleet) = record { name = fleet_name 1; aircraft = trips / 2; turn = 45 }

-- the flight of a round trip, out or back
abbrev pub flown : Settings → List ℕ → Bool → RoundTrip → Leg
flown settings flight out trip =
    leg_between flight (if out then 0 else suc trip.spoke) (if out then suc trip.spoke else 0)
    (from_day_start settings (minute_of_day (if out then trip.departs else trip.departs + trip.block + trip.stay))) trip.block

abbrev pub leg_entry : Settings → List RoundTrip → ℕ → Leg
leg_entry settings trips leg = flown settings (flight_name leg) (is_out leg) (trip_of trips (leg / 2))

abbrev pub cost_entry : List RoundTrip → ℕ → PairCost
cost_entry trips pair = record { leg = pair / 2; fleet = pair % 2; cost = pos (slice_index (trip_of trips (pair / 4)).costs (pair % 4)) }

abbrev pub through_entry : List RoundTrip → ℕ → Through
through_entry trips trip = record { arriving = 2 * trip + 1; departing = 2 * trip + 2; value = pos (trip_of trips trip).value }

pub station_reads : (k : ℕ) → k < 200 → station_read form.Old (list_below (λ j. code_of (station_entry j)) k) (made_station_fields k) ≡ Ok (station_entry k)
station_reads k few =
    station_one (list_below station_code k) (station_code k) (maintains k) (code_is_code k (omega arith)) (fresh station_code 200 k (stations_differ 200) few)
    (omega (arith, length-list_below station_code k))

pub fleet_reads : (trips k : ℕ) → trips ≤ 500 → k < 2 → fleet_read (list_below (λ j. fleet_name_of (fleet_entry trips j)) k) (fleet_fields trips k) ≡ Ok (fleet_entry trips k)
unfolding digits
fleet_reads trips zero few within = fleet_one [] (codes "F1") trips 30 (fleet_is_name 0) few (omega arith) refl (omega arith)
fleet_reads trips (suc zero) few within = fleet_one (codes "F1" ∷ []) (codes "F2") (trips / 2) 45 (fleet_is_name 1) (omega arith) (omega arith) refl (omega arith)
fleet_reads trips (suc (suc k)) few within = absurd (omega arith)

-- the minutes of a flight are those between what the clock shows
between : (leaves lands block : ℕ) → lands ≡ leaves + block → block < minutes_of 1 → block_between (minute_of_day leaves) (minute_of_day lands) ≡ block
between leaves lands block is short = omega (arith, is)

some_minutes : (block : ℕ) → 60 ≤ block → (block == 0) ≡ false
some_minutes block least = grind (arith, nat_tests)

not_hub : (spoke : ℕ) → (suc spoke == 0) ≡ false
not_hub spoke = grind (arith, nat_tests)

hub_not : (spoke : ℕ) → (0 == suc spoke) ≡ false
hub_not spoke = grind (arith, nat_tests)

flown_reads : (settings : Settings) (stations : ℕ) (earlier : List (List ℕ)) (flight : List ℕ) (out : Bool) (trip : RoundTrip) → settings.period ≡ 1 → stations ≤ 200
    → IsRoundTrip (stations - 1) trip
    → IsName flight → is_among flight earlier ≡ false → length earlier < 1000
    → leg_read (list_below station_code stations) settings form.Old earlier (flight ∷ (if out then out_fields trip else back_fields trip)) ≡ Ok (flown settings flight out trip)
flown_reads settings stations earlier flight true trip one few is form new room =
    let hub = numbered station_code stations 0 (stations_differ stations) (omega (arith, is.there)) in
    let spoke = numbered station_code stations (suc trip.spoke) (stations_differ stations) (omega (arith, is.there)) in
    leg_one (list_below station_code stations) settings earlier flight (station_code 0) (station_code (suc trip.spoke)) 0 (suc trip.spoke) trip.departs (trip.departs + trip.block) trip.block
    one form (code_is_code 0 (omega arith)) (code_is_code (suc trip.spoke) (omega (arith, is.there))) hub spoke (hub_not trip.spoke) new room
    (between trip.departs (trip.departs + trip.block) trip.block refl (omega (arith, is.block_most))) (some_minutes trip.block is.block_least)
flown_reads settings stations earlier flight false trip one few is form new room =
    let hub = numbered station_code stations 0 (stations_differ stations) (omega (arith, is.there)) in
    let spoke = numbered station_code stations (suc trip.spoke) (stations_differ stations) (omega (arith, is.there)) in
    let leaves = trip.departs + trip.block + trip.stay in
    let lands = trip.departs + 2 * trip.block + trip.stay in
    leg_one (list_below station_code stations) settings earlier flight (station_code (suc trip.spoke)) (station_code 0) (suc trip.spoke) 0 leaves lands trip.block
    one form (code_is_code (suc trip.spoke) (omega (arith, is.there))) (code_is_code 0 (omega arith)) spoke hub (not_hub trip.spoke) new room
    (between leaves lands trip.block (omega arith) (omega (arith, is.block_most))) (some_minutes trip.block is.block_least)

another_pair : (p q : ℕ) → q < p → bytes_eq ((p / 2) ∷ (p % 2) ∷ []) ((q / 2) ∷ (q % 2) ∷ []) ≡ false
another_pair p q before = grind (arith, nat_tests)

another_trip : (i j : ℕ) → j < i → bytes_eq ((2 * i + 1) ∷ (2 * i + 2) ∷ []) ((2 * j + 1) ∷ (2 * j + 2) ∷ []) ≡ false
another_trip i j before = grind (arith, nat_tests)

-- round trips of a list, each to one of the spokes
module _ (trips : List RoundTrip) (n stations : ℕ) (few : n ≤ 500) (there : stations ≤ 200) (fit : (i : ℕ) → i < n → IsRoundTrip (stations - 1) (trip_of trips i)) where
  pub leg_reads : (settings : Settings) → settings.period ≡ 1 → (l : ℕ) → l < 2 * n
      → leg_read (list_below station_code stations) settings form.Old (list_below (λ j. flight_of (leg_entry settings trips j)) l) (made_leg_fields trips l) ≡ Ok (leg_entry settings trips l)
  leg_reads settings one l within =
      flown_reads settings stations (list_below flight_name l) (flight_name l) (is_out l) (trip_of trips (l / 2)) one there (fit (l / 2) (omega arith)) (flight_is_name l (omega arith))
      (fresh flight_name (2 * n) l (flights_differ (2 * n) (omega arith)) within) (omega (arith, length-list_below flight_name l))

  pub cost_reads : (p : ℕ) → p < 4 * n
      → cost_read (list_below flight_name (2 * n)) (list_below fleet_name 2) (list_below (λ j. cost_key (cost_entry trips j)) p) (cost_fields trips p) ≡ Ok (cost_entry trips p)
  cost_reads p within =
      let cost = slice_index (trip_of trips (p / 4)).costs (p % 4) in
      let small = (fit (p / 4) (omega arith)).costs_fit (p % 4) in
      let earlier = list_below (λ j. cost_key (cost_entry trips j)) p in
      let new : is_among ((p / 2) ∷ (p % 2) ∷ []) earlier ≡ false = list_any_none (bytes_eq ((p / 2) ∷ (p % 2) ∷ [])) earlier (λ q d below.
      (let before : q < p = omega (arith, length-list_below (λ j. cost_key (cost_entry trips j)) p, below) in
      rw (get_or-list_below (λ j. cost_key (cost_entry trips j)) p q d before) (another_pair p q before))) in
      cost_one (list_below flight_name (2 * n)) (list_below fleet_name 2) earlier (flight_name (p / 2)) (fleet_name (p % 2)) (p / 2) (p % 2) cost
      (flight_is_name (p / 2) (omega arith)) (fleet_is_name (p % 2)) (numbered flight_name (2 * n) (p / 2) (flights_differ (2 * n) (omega arith)) (omega arith))
      (numbered fleet_name 2 (p % 2) fleets_differ (omega arith)) (omega (arith, small)) new

  pub through_reads : (i : ℕ) → i < n - 1
      → through_read (list_below flight_name (2 * n)) (list_below (λ j. connection_of (through_entry trips j)) i) (through_fields trips i) ≡ Ok (through_entry trips i)
  through_reads i within =
      let small = (fit i (omega arith)).value_fits in
      let pair : List ℕ = (2 * i + 1) ∷ (2 * i + 2) ∷ [] in
      let earlier = list_below (λ j. connection_of (through_entry trips j)) i in
      let new : is_among pair earlier ≡ false = list_any_none (bytes_eq pair) earlier (λ j d below.
      (let before : j < i = omega (arith, length-list_below (λ j. connection_of (through_entry trips j)) i, below) in
      rw (get_or-list_below (λ j. connection_of (through_entry trips j)) i j d before) (another_trip i j before))) in
      let differ = flights_differ (2 * n) (omega arith) in
      through_one (list_below flight_name (2 * n)) earlier (flight_name (2 * i + 1)) (flight_name (2 * i + 2)) (2 * i + 1) (2 * i + 2) (trip_of trips i).value
      (flight_is_name (2 * i + 1) (omega arith)) (flight_is_name (2 * i + 2) (omega arith)) (numbered flight_name (2 * n) (2 * i + 1) differ (omega arith))
      (numbered flight_name (2 * n) (2 * i + 2) differ (omega arith)) (omega (arith, small)) new (omega (arith, length-list_below (λ j. connection_of (through_entry trips j)) i))
