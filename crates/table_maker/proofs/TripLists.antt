-- Round trips drawn one after another, and stations written so.
use Rattle.std.proofs.Common.{◌≡◌, ◌==◌, ℕ, suc, ◌+◌, ◌/◌, ◌%◌, List, [], ◌∷◌, ◌++◌, length, codes, refl, sym, ap, ◌∙◌, add-one, arith}
use Rattle.std.proofs.lemmas.List.FromFn.{length-map-range_with_len, map-range_with_len_more}
use Rattle.csv_fields.specs.Flag.{flag_text}
use Rattle.plan_text.specs.Text.{record_line}
use Rattle.table_rows.specs.station_table.Stations.{station_header}
use Rattle.sums.specs.Places.{list_below}
use Rattle.table_maker.specs.Draws.{state_after}
use Rattle.table_maker.specs.Fields.{spoke_code}
use Rattle.table_maker.specs.Made.{made_tables, tables_of_trips}
use Rattle.table_maker.specs.Records.{made_station_fields, table_text}
use Rattle.table_maker.proofs.Lines.{text_grown}
use Rattle.table_maker.specs.Trips.{round_trip, spokes_for, state_before, trip_drawn}
use Rattle.table_maker.specs.declared.made.MadeTables.{MadeTables}
use Rattle.table_maker.specs.declared.trips.RoundTrip.{RoundTrip}

pub trips_grown : (number spokes trips state : ℕ) (made grown : List RoundTrip) (trip : RoundTrip) → made ≡ list_below (trip_drawn number spokes) trips
    → state ≡ state_before number trips → trip ≡ round_trip spokes state → grown ≡ made ++ trip ∷ [] → grown ≡ list_below (trip_drawn number spokes) (trips + 1)
trips_grown number spokes trips state made grown trip so_far at is added =
    added ∙ rw (so_far, is, at) (sym (map-range_with_len_more (trip_drawn number spokes) 0 trips trips (omega arith)))

pub state_grown : (number trips state next : ℕ) → state ≡ state_before number trips → next ≡ state_after state 9 → next ≡ state_before number (trips + 1)
unfolding state_before
state_grown number trips state next at is = is ∙ ap (λ s. state_after s 9) at ∙ sym (ap (state_before number) (add-one trips))

pub drawn_count : (number spokes count : ℕ) (trips : List RoundTrip) → trips ≡ list_below (trip_drawn number spokes) count → length trips ≡ count
drawn_count number spokes count trips are = ap length are ∙ length-map-range_with_len (trip_drawn number spokes) 0 count

pub made_of_drawn : (number legs spokes : ℕ) (trips : List RoundTrip) (made : MadeTables) → trips ≡ list_below (trip_drawn number spokes) (legs / 2)
    → spokes ≡ spokes_for (legs / 2) → made ≡ tables_of_trips trips → made ≡ made_tables number legs
unfolding made_tables
made_of_drawn number legs spokes trips made drawn are is =
    is ∙ ap tables_of_trips (drawn ∙ ap (λ n. list_below (trip_drawn number n) (legs / 2)) are)

-- one spoke's station more
pub spoke_grown : (spoke : ℕ) (text grown code : List ℕ) → text ≡ table_text station_header made_station_fields (1 + spoke) → code ≡ spoke_code spoke
    → grown ≡ text ++ record_line (code ∷ codes "0" ∷ flag_text (spoke % 3 == 0) ∷ []) → grown ≡ table_text station_header made_station_fields (1 + (spoke + 1))
spoke_grown spoke text grown code so_far is added =
    let next : 1 + spoke ≡ suc spoke = omega arith in
    let fields : code ∷ codes "0" ∷ flag_text (spoke % 3 == 0) ∷ [] ≡ made_station_fields (1 + spoke) = rw (next, is) refl in
    let last : 1 + spoke + 1 ≡ 1 + (spoke + 1) = omega arith in
    text_grown station_header made_station_fields (1 + spoke) text grown so_far (added ∙ ap (λ row. text ++ record_line row) fields) ∙ ap (table_text station_header made_station_fields) last
