-- The fields of made records. Station 0 is the hub, and the spokes stand after it; fleet 0 is F1 and fleet 1 F2; the
-- legs of a round trip follow each other, out and back, so they have the numbers 2 i and 2 i + 1.
use Rattle.std.specs.Prelude.{ℕ, zero, suc, ◌+◌, ◌/◌, ◌%◌, ◌==◌, Bool, true, if◌then◌else◌, List, [], ◌∷◌, ◌++◌, codes}
use Rattle.std.specs.Fmt.{decimal}
use Rattle.csv_fields.specs.Time.{colon, two_digits_of}
use Rattle.fleet_model.specs.Period.{minute_of_day}

abbrev pub hub_code : List ℕ
hub_code = codes "HUB"

-- S and two letters, which count from AA
abbrev pub spoke_code : ℕ → List ℕ
spoke_code spoke = codes "S" ++ (65 + spoke / 26) ∷ (65 + spoke % 26) ∷ []

abbrev pub station_code : ℕ → List ℕ
station_code zero = hub_code
station_code (suc spoke) = spoke_code spoke

-- the hub maintains, and so does each third spoke, from the first on
abbrev pub maintains : ℕ → Bool
maintains zero = true
maintains (suc spoke) = spoke % 3 == 0

abbrev pub fleet_name : ℕ → List ℕ
fleet_name zero = codes "F1"
fleet_name (suc fleet) = codes "F2"

abbrev pub is_out : ℕ → Bool
is_out leg = leg % 2 == 0

-- O or R, and the number of the round trip
abbrev pub flight_name : ℕ → List ℕ
flight_name leg = (if is_out leg then codes "O" else codes "R") ++ decimal (leg / 2)

-- a minute from some midnight on, as the clock shows it
abbrev pub clock_text : ℕ → List ℕ
clock_text minute = two_digits_of (minute_of_day minute / 60) ++ colon ∷ two_digits_of (minute_of_day minute % 60)
