-- Made names have the form of names, and no two are the same.
use Rattle.std.proofs.Common.{◌≡◌, ℕ, zero, suc, ◌+◌, ◌/◌, ◌%◌, ◌<◌, ◌≤◌, ◌^◌, Bool, true, false, List, [], ◌∷◌, ◌++◌, length, codes, slice_index_or, refl, arith}
use Rattle.std.specs.Prelude.{if◌then◌else◌}
use Rattle.std.specs.Char.{IsAsciiUppercase}
use Rattle.std.specs.Fmt.{decimal}
use Rattle.std.proofs.lemmas.Bool.Decides.{nat_tests}
use Rattle.std.proofs.lemmas.Fmt.{decimal_injective, length-decimal-le}
use Rattle.std.proofs.lemmas.List.Elements.{All-cons, All-from_recursion}
use Rattle.entries.specs.Names.{IsName, IsNameByte, IsStationCode}
use Rattle.table_maker.specs.Fields.{fleet_name, flight_name, is_out, spoke_code, station_code}
use Rattle.table_maker.proofs.FieldForms.{number_is_name}
use Rattle.sums.proofs.Lists.{tail_is, unlike}
use Rattle.table_maker.proofs.NumberedNames.{Differ}

-- flights
lettered : (letter : ℕ) (n : ℕ) → IsNameByte letter → n < 1000 → IsName (letter ∷ decimal n)
lettered letter n byte small =
    let form = number_is_name n (omega arith) in
    let few : length (decimal n) ≤ 3 = length-decimal-le 3 n (omega arith) (omega arith) (omega arith) in
    (omega arith, omega (arith, few), All-cons IsNameByte letter (decimal n) byte form.2)

pub flight_is_name : (leg : ℕ) → leg < 2000 → IsName (flight_name leg)
flight_is_name leg small = by_way (is_out leg)
  where
    by_way : (out : Bool) → IsName ((if out then codes "O" else codes "R") ++ decimal (leg / 2))
    by_way true = lettered 79 (leg / 2) refl (omega arith)
    by_way false = lettered 82 (leg / 2) refl (omega arith)

-- two numbers with the same half and the same test of evenness
same_leg : (l m : ℕ) → l / 2 ≡ m / 2 → is_out l ≡ is_out m → l ≡ m
same_leg l m half way = grind (arith, nat_tests)

same_flight : (out other : Bool) (i j : ℕ) → i < 2 ^ 64 → j < 2 ^ 64
    → (if out then codes "O" else codes "R") ++ decimal i ≡ (if other then codes "O" else codes "R") ++ decimal j → (out ≡ other) × (i ≡ j)
same_flight true true i j small less same = (refl, decimal_injective i j small less cc)
same_flight false false i j small less same = (refl, decimal_injective i j small less cc)
same_flight true false i j small less same = unlike 79 82 (decimal i) (decimal j) (λ e. omega (arith, e)) same
same_flight false true i j small less same = unlike 82 79 (decimal i) (decimal j) (λ e. omega (arith, e)) same

pub flights_differ : (legs : ℕ) → legs ≤ 2000 → Differ flight_name legs
flights_differ legs few = record {
  each = λ l m within there same.
      let parts = same_flight (is_out l) (is_out m) (l / 2) (m / 2) (omega arith) (omega arith) same in
      same_leg l m parts.1 parts.0;
}

-- stations
letter_is : (n : ℕ) → n < 26 → IsAsciiUppercase (65 + n)
letter_is n small = grind (arith, nat_tests)

pub code_is_code : (station : ℕ) → station ≤ 676 → IsStationCode (station_code station)
code_is_code zero few = (refl, All-from_recursion IsAsciiUppercase (codes "HUB") (letter_is 7 (omega arith), (letter_is 20 (omega arith), (letter_is 1 (omega arith), tt))))
code_is_code (suc spoke) few =
    (refl, All-from_recursion IsAsciiUppercase (spoke_code spoke) (letter_is 18 (omega arith), (letter_is (spoke / 26) (omega arith), (letter_is (spoke % 26) (omega arith), tt))))

uppercase_is_name : (byte : ℕ) → IsAsciiUppercase byte → IsNameByte byte
uppercase_is_name byte upper = grind (arith, nat_tests)

pub code_is_name : (code : List ℕ) → IsStationCode code → IsName code
code_is_name code (three, each) = (omega (arith, three), omega (arith, three), λ k d within. uppercase_is_name (slice_index_or code k d) (each k d within))

same_spoke : (i j : ℕ) → 65 + i / 26 ≡ 65 + j / 26 → 65 + i % 26 ≡ 65 + j % 26 → i ≡ j
same_spoke i j tens ones = omega (arith, tens, ones)

same_station : (j k : ℕ) → station_code j ≡ station_code k → j ≡ k
same_station zero zero same = refl
same_station zero (suc k) same = unlike 72 83 _ _ (λ e. omega (arith, e)) same
same_station (suc j) zero same = unlike 83 72 _ _ (λ e. omega (arith, e)) same
same_station (suc j) (suc k) same =
    let tens : 65 + j / 26 ≡ 65 + k / 26 = cc in
    let ones : 65 + j % 26 ≡ 65 + k % 26 = cc in
    let one = same_spoke j k tens ones in
    omega (arith, one)

pub stations_differ : (stations : ℕ) → Differ station_code stations
stations_differ stations = record { each = λ j k within there same. same_station j k same }

-- fleets
lettered_fleet : (digit : ℕ) → IsNameByte digit → IsName (70 ∷ digit ∷ [])
lettered_fleet digit byte = (omega arith, omega arith, All-from_recursion IsNameByte (70 ∷ digit ∷ []) (refl, (byte, tt)))

pub fleet_is_name : (fleet : ℕ) → IsName (fleet_name fleet)
fleet_is_name zero = lettered_fleet 49 refl
fleet_is_name (suc fleet) = lettered_fleet 50 refl

same_fleet : (j k : ℕ) → j < 2 → k < 2 → fleet_name j ≡ fleet_name k → j ≡ k
same_fleet zero zero within there same = refl
same_fleet zero (suc k) within there same = unlike 49 50 [] [] (λ e. omega (arith, e)) (tail_is 70 70 _ _ same)
same_fleet (suc j) zero within there same = unlike 50 49 [] [] (λ e. omega (arith, e)) (tail_is 70 70 _ _ same)
same_fleet (suc j) (suc k) within there same = omega arith

pub fleets_differ : Differ fleet_name 2
fleets_differ = record { each = λ j k within there same. same_fleet j k within there same }
