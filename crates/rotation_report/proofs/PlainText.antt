-- No field of a record calls for quotes, so its line is what `csv` writes.
use Rattle.std.proofs.Common.{◌≡◌, ℕ, zero, suc, ◌/◌, ◌%◌, ◌<◌, ◌≤◌, ◌==◌, Bool, true, false, if◌then◌else◌, List, [], ◌∷◌, ◌++◌, length, map, replicate, slice_index, slice_index_or, codes, Option, Some, None, refl, sym, ap, ◌∙◌, inl, inr, IfSome, arith}
use Rattle.std.specs.Char.{IsAsciiUppercase}
use Rattle.std.specs.Fmt.{decimal, digit_glyph, digits, digits_onto}
use Rattle.std.specs.List.{flat_map, list_any}
use Rattle.std.proofs.lemmas.Bool.{cases_Bool}
use Rattle.std.proofs.lemmas.Bool.Decides.{nat_tests}
use Rattle.std.proofs.lemmas.Grind.{flat_map-append}
use Rattle.std.proofs.lemmas.List.{append-nil, map-append}
use Rattle.std.proofs.lemmas.List.Folds.{list_any_none}
use Rattle.csv.specs.Writing.{default_writer, fields_text, is_blank, needs_byte, row_text}
use Rattle.entries.specs.Names.{IsStationCode}
use Rattle.euler_rotation.specs.declared.rotation.Rotation.{Rotation}
use Rattle.euler_rotation.specs.declared.rotation.Rotation.TheVariants as rotation
use Rattle.fleet_model.specs.declared.parts.Connection.{Connection}
use Rattle.fleet_model.specs.declared.tables.Tables.{Tables}
use Rattle.fleet_model.specs.Schedule.{fleet_of, fleets_in, leg_of, legs_in, no_fleet, no_leg, no_station, station_of, stations_in}
use Rattle.lines_of_flying.specs.ground_turns.Maps.{turn_after}
use Rattle.lines_of_flying.specs.ground_turns.Nights.{is_short, night_of_stay, nights_in_turn}
use Rattle.lines_of_flying.specs.ground_turns.Turns.{station_at}
use Rattle.lines_of_flying.specs.declared.ground_turns.nights.Night.{Night}
use Rattle.lines_of_flying.specs.declared.ground_turns.nights.Night.TheVariants as night
use Rattle.lines_of_flying.specs.Lines.{AreLegsOfTables}
use Rattle.plan_text.proofs.NameText.{name_is_plain}
use Rattle.plan_text.specs.CsvText.{csv_text}
use Rattle.rotation_report.specs.RotationRecords.{RecordFields, Row, fleet_records, fleets_records, leg_flight, leg_row, listed_row, night_row, pair_row, rotation_header, rotation_records, rotation_rows, rotation_text, round_records, second_round, short_no, tour_rows, yes_no}
use Rattle.euler_rotation.specs.FleetRotations.{AreConnections, AreRotations, IsFleetRotation, IsOfLegs, rotation_of}
use Rattle.euler_rotation.specs.declared.fleet_rotation.FleetRotation.{FleetRotation}
use Rattle.plan_text.proofs.CsvWriting.{csv_text-append}
use Rattle.plan_text.specs.Text.{record_line}

abbrev needs : List ℕ → Bool
needs field = list_any (needs_byte default_writer) field

-- numbers are digits
plain_digit : (d : ℕ) → d < 10 → needs_byte default_writer (digit_glyph false d) ≡ false
plain_digit d small = grind (arith, nat_tests)

digits_plain : (k n : ℕ) (rest : List ℕ) → needs rest ≡ false → needs (digits_onto k 10 false n rest) ≡ false
digits_plain zero n rest plain = plain
digits_plain (suc k) n rest plain =
    let one : needs (digit_glyph false (n % 10) ∷ rest) ≡ false = rw (plain_digit (n % 10) (omega arith), plain) refl in
    elim (cases_Bool (n / 10 == 0)) [
      | inl last ↦ rw last one
      | inr more ↦ rw more (digits_plain k (n / 10) (digit_glyph false (n % 10) ∷ rest) one)
    ]

number_plain : (n : ℕ) → needs (decimal n) ≡ false
unfolding digits
number_plain n = digits_plain 64 n [] refl

plain_letter : (byte : ℕ) → IsAsciiUppercase byte → needs_byte default_writer byte ≡ false
plain_letter byte is = grind (arith, nat_tests)

code_plain : (code : List ℕ) → IsStationCode code → needs code ≡ false
code_plain code form = list_any_none (needs_byte default_writer) code (λ k d within. plain_letter (slice_index_or code k d) (form.1 k d within))

yes_no_plain : (maintained : Bool) → needs (yes_no maintained) ≡ false
yes_no_plain true = refl
yes_no_plain false = refl

short_no_plain : (maintained : Bool) → needs (short_no maintained) ≡ false
short_no_plain true = refl
short_no_plain false = refl

-- rows whose fields are plain
record IsPlain (row : Row) : Type 0 where
  kind : needs row.kind ≡ false
  a : needs row.a ≡ false
  b : needs row.b ≡ false

abbrev ArePlain : List Row → Type 0
ArePlain [] = Unit {0}
ArePlain (row ∷ rows) = IsPlain row × ArePlain rows

plain-append : (xs ys : List Row) → ArePlain xs → ArePlain ys → ArePlain (xs ++ ys)
plain-append [] ys none rest = rest
plain-append (x ∷ xs) ys front rest = (front.0, plain-append xs ys front.1 rest)

module _ (t : Tables) where
  flight_plain : (l : ℕ) → l < legs_in t → needs (leg_flight t l) ≡ false
  flight_plain l within = name_is_plain (leg_of t l).flight (t.in_range.legs_fit.each l no_leg within).flight

  name_plain : (f : ℕ) → f < fleets_in t → needs (fleet_of t f).name ≡ false
  name_plain f within = name_is_plain (fleet_of t f).name (t.in_range.fleets_fit.each f no_fleet within).name

  listed_plain : (kind legs : List ℕ) → needs kind ≡ false → AreLegsOfTables t legs → ArePlain (map (listed_row kind t) legs)
  listed_plain kind [] plain known = tt
  listed_plain kind (leg ∷ legs) plain known = (
    record { kind = plain; a = flight_plain leg (known.each 0 (omega arith)); b = refl },
    listed_plain kind legs plain (record { each = λ k below. known.each (suc k) (omega arith) }),
  )

  pairs_plain : (pairs : List Connection) → AreConnections t pairs → ArePlain (map (pair_row t) pairs)
  pairs_plain [] known = tt
  pairs_plain (pair ∷ pairs) known =
      let here = known.each 0 (omega arith) in (
        record { kind = refl; a = flight_plain pair.arriving here.arriving; b = flight_plain pair.departing here.departing },
        pairs_plain pairs (record { each = λ k below. known.each (suc k) (omega arith) }),
      )

  same_plain : (n : ℕ) (x : Night) → IsPlain (night_row t x) → ArePlain (map (night_row t) (replicate n x))
  same_plain zero x plain = tt
  same_plain (suc n) x plain = (plain, same_plain n x plain)

  station_plain : (s : ℕ) → s < stations_in t → (short : Bool) → IsPlain (night_row t (if short then night.Short s else night.At s))
  station_plain s within true = record {
    kind = refl;
    a = code_plain (station_of t s).code (t.in_range.stations_fit.each s no_station within).code;
    b = short_no_plain (station_of t s).maintenance;
  }
  station_plain s within false = record {
    kind = refl;
    a = code_plain (station_of t s).code (t.in_range.stations_fit.each s no_station within).code;
    b = yes_no_plain (station_of t s).maintenance;
  }

  nights_plain : (n m : ℕ) (x : Night) → IsPlain (night_row t x) → ArePlain (map (night_row t) (replicate n night.Aloft ++ replicate m x))
  nights_plain n m x plain =
      rw (map-append (night_row t) (replicate n night.Aloft) (replicate m x))
      (plain-append (map (night_row t) (replicate n night.Aloft)) (map (night_row t) (replicate m x))
      (same_plain n night.Aloft (record { kind = refl; a = refl; b = refl })) (same_plain m x plain))

  tour_plain : (f : ℕ) (tour : List ℕ) → AreLegsOfTables t tour → (n : ℕ) → n ≤ length tour → ArePlain (tour_rows t f tour n)
  tour_plain f tour known zero within = tt
  tour_plain f tour known (suc n) within =
      let leg = known.each n (omega arith) in
      plain-append (tour_rows t f tour n) (leg_row t f tour n ∷ map (night_row t) (nights_in_turn t f (turn_after tour n)))
      (tour_plain f tour known n (omega arith)) (
        record { kind = refl; a = flight_plain (slice_index tour n) leg; b = number_plain _ },
        nights_plain _ _ (night_of_stay t f (turn_after tour n))
            (station_plain (station_at t (turn_after tour n)) (t.in_range.legs_fit.each (slice_index tour n) no_leg leg).to (is_short t f (turn_after tour n))),
      )

  rotation_plain : (f visits : ℕ) (r : Rotation) → IsOfLegs t r → ArePlain (rotation_rows t f visits r)
  rotation_plain f visits rotation.Unused known = (record { kind = refl; a = refl; b = refl }, tt)
  rotation_plain f visits (rotation.TooFewNights have used) known = (record { kind = refl; a = number_plain have; b = number_plain used }, tt)
  rotation_plain f visits (rotation.Apart legs) known = (record { kind = refl; a = number_plain (length legs); b = refl }, listed_plain (codes "leg") legs refl known.known)
  rotation_plain f visits (rotation.Tour tour) known = (record { kind = refl; a = number_plain _; b = number_plain (length tour) }, tour_plain f tour known.known (length tour) (omega arith))
  rotation_plain f visits rotation.None known = (record { kind = refl; a = refl; b = refl }, tt)
  rotation_plain f visits (rotation.Spent order prefix) known = (
    record { kind = refl; a = number_plain visits; b = number_plain (length prefix) },
    plain-append (map (listed_row (codes "order") t) order) (map (listed_row (codes "leg") t) prefix)
        (listed_plain (codes "order") order refl known.0.known) (listed_plain (codes "leg") prefix refl known.1.known),
  )

-- the lines of records are what `csv` writes
five_plain : (n k x a b : List ℕ) → needs n ≡ false → needs k ≡ false → needs x ≡ false → needs a ≡ false → needs b ≡ false
    → record_line (n ∷ k ∷ x ∷ a ∷ b ∷ []) ≡ row_text default_writer (n ∷ k ∷ x ∷ a ∷ b ∷ [])
unfolding fields_text is_blank
five_plain n k x a b plain_n plain_k plain_x plain_a plain_b = rw (plain_n, plain_k, plain_x, plain_a, plain_b, append-nil b) refl

-- the text of records is what `csv` writes
record IsCsv (records : List RecordFields) : Type 0 where
  same : flat_map record_line records ≡ csv_text records

csv-append : (xs ys : List RecordFields) → IsCsv xs → IsCsv ys → IsCsv (xs ++ ys)
csv-append xs ys front rest = record {
  same = flat_map-append record_line xs ys ∙ ap (λ t. t ++ flat_map record_line ys) front.same ∙ ap (λ t. csv_text xs ++ t) rest.same ∙ sym (csv_text-append xs ys);
}

csv-none : IsCsv []
unfolding csv_text
csv-none = record { same = refl }

round_csv : (name number : List ℕ) (rows : List Row) → needs name ≡ false → needs number ≡ false → ArePlain rows → IsCsv (round_records name number rows)
unfolding csv_text
round_csv name number [] plain_name plain_number plain = record { same = refl }
round_csv name number (row ∷ rows) plain_name plain_number plain = record {
  same =
      ap (λ t. t ++ flat_map record_line (round_records name number rows)) (five_plain name number row.kind row.a row.b plain_name plain_number plain.0.kind plain.0.a plain.0.b)
      ∙ ap (λ t. row_text default_writer (name ∷ number ∷ row.kind ∷ row.a ∷ row.b ∷ []) ++ t) (round_csv name number rows plain_name plain_number plain.1).same;
}

header_csv : IsCsv (rotation_header ∷ [])
unfolding csv_text
header_csv = record { same = ap (λ t. t ++ []) (five_plain (codes "fleet") (codes "round") (codes "kind") (codes "a") (codes "b") refl refl refl refl refl) }

second_csv : (t : Tables) (f visits : ℕ) (second : Option Rotation) → f < fleets_in t → IfSome second (IsOfLegs t) → IsCsv (second_round t f visits second)
second_csv t f visits None within known = csv-none
second_csv t f visits (Some r) within known = round_csv (fleet_of t f).name (codes "2") (rotation_rows t f visits r) (name_plain t f within) refl (rotation_plain t f visits r known)

fleet_csv : (t : Tables) (visits : ℕ) (made : FleetRotation) (f : ℕ) → f < fleets_in t → IsFleetRotation t made → IsCsv (fleet_records t visits made f)
unfolding fleet_records
fleet_csv t visits made f within known =
    csv-append (round_records (fleet_of t f).name (codes "1") (map (pair_row t) made.pairs ++ rotation_rows t f visits made.first)) (second_round t f visits made.second)
    (round_csv (fleet_of t f).name (codes "1") (map (pair_row t) made.pairs ++ rotation_rows t f visits made.first) (name_plain t f within) refl
    (plain-append (map (pair_row t) made.pairs) (rotation_rows t f visits made.first) (pairs_plain t made.pairs known.pairs) (rotation_plain t f visits made.first known.first)))
    (second_csv t f visits made.second within known.second)

fleets_csv : (t : Tables) (visits : ℕ) (rotations : List FleetRotation) → AreRotations t rotations → (n : ℕ) → n ≤ length rotations → IsCsv (fleets_records t visits rotations n)
fleets_csv t visits rotations known zero within = csv-none
fleets_csv t visits rotations known (suc n) within =
    csv-append (fleets_records t visits rotations n) (fleet_records t visits (rotation_of rotations n) n)
    (fleets_csv t visits rotations known n (omega arith)) (fleet_csv t visits (rotation_of rotations n) n (omega (arith, known.few)) (known.each n (omega arith)))

pub written_as_csv : (t : Tables) (rotations : List FleetRotation) (visits : ℕ) → AreRotations t rotations → rotation_text t rotations visits ≡ csv_text (rotation_records t rotations visits)
unfolding rotation_text
written_as_csv t rotations visits known =
    (csv-append (rotation_header ∷ []) (fleets_records t visits rotations (length rotations)) header_csv
    (fleets_csv t visits rotations known (length rotations) (omega arith))).same
