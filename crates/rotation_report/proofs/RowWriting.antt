-- Rows of rounds written one after the other.
use Rattle.std.proofs.Common.{◌≡◌, ℕ, zero, suc, ◌+◌, ◌<◌, Bool, true, false, if◌then◌else◌, List, [], ◌∷◌, ◌++◌, length, map, replicate, take, get_or, refl, sym, ap, subst, ◌∙◌, add-one, append_assoc, codes, slice_index}
use Rattle.std.specs.Fmt.{decimal, digits}
use Rattle.std.proofs.lemmas.List.{map-append, map_push, take_more}
use Rattle.fleet_model.specs.declared.parts.Connection.{Connection}
use Rattle.fleet_model.specs.declared.tables.Tables.{Tables}
use Rattle.fleet_model.specs.Schedule.{leg_on, station_of}
use Rattle.fleet_model.specs.Times.{nights_of}
use Rattle.lines_of_flying.specs.ground_turns.Maps.{turn_after}
use Rattle.lines_of_flying.specs.ground_turns.Nights.{is_short, night_of_stay, nights_in_turn}
use Rattle.lines_of_flying.specs.ground_turns.Turns.{nights_waited, station_at}
use Rattle.lines_of_flying.specs.declared.ground_turns.nights.Night.{Night}
use Rattle.lines_of_flying.specs.declared.ground_turns.nights.Night.TheVariants as night
use Rattle.plan_text.proofs.CsvWriting.{text_more, written_more}
use Rattle.plan_text.specs.CsvText.{HasWritten, TextWriter, csv_text, written_text}
use Rattle.rotation_report.specs.RotationRecords.{Row, begun_tour_rows, fleet_records, fleets_records, leg_row, night_row, rotation_header, round_records, row_record, short_no, yes_no}
use Rattle.euler_rotation.specs.FleetRotations.{rotation_of}
use Rattle.euler_rotation.specs.declared.fleet_rotation.FleetRotation.{FleetRotation}

-- nought in decimal
pub zero_digit : decimal 0 ≡ codes "0"
unfolding digits
zero_digit = refl

-- rows of a round, and then more
pub rows_more : (name number : List ℕ) (a b c : TextWriter) (xs ys : List Row) → HasWritten a b (round_records name number xs)
    → HasWritten b c (round_records name number ys) → HasWritten a c (round_records name number (xs ++ ys))
rows_more name number a b c xs ys front rest =
    subst (HasWritten a c) (sym (map-append (row_record name number) xs ys))
    (written_more a b c (round_records name number xs) (round_records name number ys) front rest)

-- a row for each entry of a list, and that of the next entry
pub row_more : {X : Type 0} (row : X → Row) (entries : List X) (name number : List ℕ) (a b c : TextWriter) (i : ℕ) (d : X) → i < length entries
    → HasWritten a b (round_records name number (map row (take i entries)))
    → HasWritten b c (round_records name number (row (get_or entries i d) ∷ []))
    → HasWritten a c (round_records name number (map row (take (i + 1) entries)))
row_more row entries name number a b c i d within front rest =
    let next : map row (take (i + 1) entries) ≡ map row (take i entries) ++ row (get_or entries i d) ∷ [] =
    ap (map row) (take_more entries i d within) ∙ map_push row (take i entries) (get_or entries i d) in
    subst (λ rows. HasWritten a c (round_records name number rows)) (sym next)
    (rows_more name number a b c (map row (take i entries)) (row (get_or entries i d) ∷ []) front rest)

-- the nights of a turn, the same ones together
pub night_rows : (t : Tables) (n m : ℕ) (x : Night) → map (night_row t) (replicate n night.Aloft ++ replicate m x) ≡ replicate n (night_row t night.Aloft) ++ replicate m (night_row t x)
night_rows t n m x =
    map-append (night_row t) (replicate n night.Aloft) (replicate m x)
    ∙ ap (λ rows. rows ++ map (night_row t) (replicate m x)) (map-replicate n night.Aloft)
    ∙ ap (λ rows. replicate n (night_row t night.Aloft) ++ rows) (map-replicate m x)
  where
    map-replicate : (k : ℕ) (x : Night) → map (night_row t) (replicate k x) ≡ replicate k (night_row t x)
    map-replicate zero x = refl
    map-replicate (suc k) x = ap (λ rows. night_row t x ∷ rows) (map-replicate k x)

-- a leg of a tour more, and the nights after it
pub tour_more : (t : Tables) (f : ℕ) (tour : List ℕ) (n : ℕ) (name number : List ℕ) (a b c d : TextWriter)
    → HasWritten a b (round_records name number (begun_tour_rows t f tour n))
    → HasWritten b c (round_records name number (leg_row t f tour n ∷ []))
    → HasWritten c d (round_records name number (map (night_row t) (nights_in_turn t f (turn_after tour n))))
    → HasWritten a d (round_records name number (begun_tour_rows t f tour (n + 1)))
tour_more t f tour n name number a b c d front leg nights =
    let begun = begun_tour_rows t f tour n in
    let after = map (night_row t) (nights_in_turn t f (turn_after tour n)) in
    let all : begun_tour_rows t f tour (n + 1) ≡ (begun ++ leg_row t f tour n ∷ []) ++ after =
    ap (begun_tour_rows t f tour) (add-one n) ∙ sym (append_assoc begun (leg_row t f tour n ∷ []) after) in
    subst (λ rows. HasWritten a d (round_records name number rows)) (sym all)
    (rows_more name number a c d (begun ++ leg_row t f tour n ∷ []) after (rows_more name number a b c begun (leg_row t f tour n ∷ []) front leg) nights)

-- the records of a fleet more
pub fleet_more : (t : Tables) (visits : ℕ) (rotations : List FleetRotation) (n : ℕ) (b c : TextWriter)
    → written_text b ≡ csv_text (rotation_header ∷ fleets_records t visits rotations n)
    → HasWritten b c (fleet_records t visits (rotation_of rotations n) n)
    → written_text c ≡ csv_text (rotation_header ∷ fleets_records t visits rotations (n + 1))
fleet_more t visits rotations n b c front rest =
    text_more b c (rotation_header ∷ fleets_records t visits rotations n) (fleet_records t visits (rotation_of rotations n) n) front rest
    ∙ ap (λ k. csv_text (rotation_header ∷ fleets_records t visits rotations k)) (sym (add-one n))

-- the row of a night of a wait
abbrev stay_word : Tables → ℕ → Connection → List ℕ
stay_word t f turn = if is_short t f turn then short_no (station_of t (station_at t turn)).maintenance else yes_no (station_of t (station_at t turn)).maintenance

stay_row : (t : Tables) (f : ℕ) (turn : Connection) → record { kind = codes "night"; a = (station_of t (station_at t turn)).code; b = stay_word t f turn } ≡ night_row t (night_of_stay t f turn)
stay_row t f turn = by_stay (is_short t f turn)
  where
    by_stay : (b : Bool) → ◌≡◌ {A = Row} (record {
      kind = codes "night";
      a = (station_of t (station_at t turn)).code;
      b = if b then short_no (station_of t (station_at t turn)).maintenance else yes_no (station_of t (station_at t turn)).maintenance;
    }) (night_row t (if b then night.Short (station_at t turn) else night.At (station_at t turn)))
    by_stay true = refl
    by_stay false = refl

-- the nights after a leg of a tour, by their numbers, the station's code and what is told of its maintenance
pub nights_written : (t : Tables) (f : ℕ) (tour : List ℕ) (place : ℕ) (name number : List ℕ) (a b c : TextWriter) (n m : ℕ) (code word : List ℕ)
    → HasWritten a b (round_records name number (replicate n (record { kind = codes "night"; a = codes "-"; b = codes "aloft" })))
    → HasWritten b c (round_records name number (replicate m (record { kind = codes "night"; a = code; b = word })))
    → n ≡ nights_of t (leg_on (slice_index tour place) f) → m ≡ nights_waited t f (turn_after tour place)
    → code ≡ (station_of t (station_at t (turn_after tour place))).code
    → word ≡ stay_word t f (turn_after tour place)
    → HasWritten a c (round_records name number (map (night_row t) (nights_in_turn t f (turn_after tour place))))
nights_written t f tour place name number a b c n m code word aloft waited is_n is_m is_code is_word =
    let up : Row = record { kind = codes "night"; a = codes "-"; b = codes "aloft" } in
    let down : Row = record { kind = codes "night"; a = code; b = word } in
    let below : down ≡ night_row t (night_of_stay t f (turn_after tour place)) = rw (is_code, is_word) (stay_row t f (turn_after tour place)) in
    let all : replicate n up ++ replicate m down ≡ map (night_row t) (nights_in_turn t f (turn_after tour place)) =
    ap (λ row. replicate n up ++ replicate m row) below ∙ ap (λ k. replicate k up ++ replicate m (night_row t (night_of_stay t f (turn_after tour place)))) is_n
    ∙ ap (λ k. replicate (nights_of t (leg_on (slice_index tour place) f)) up ++ replicate k (night_row t (night_of_stay t f (turn_after tour place)))) is_m
    ∙ sym (night_rows t (nights_of t (leg_on (slice_index tour place) f)) (nights_waited t f (turn_after tour place)) (night_of_stay t f (turn_after tour place))) in
    subst (λ rows. HasWritten a c (round_records name number rows)) all
    (rows_more name number a b c (replicate n up) (replicate m down) aloft waited)
