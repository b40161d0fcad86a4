-- What each aircraft of a fleet, by its tail, flies on each date.
use Rattle.std.specs.Prelude.{ℕ, zero, suc, ◌+◌, ◌*◌, ◌%◌, ◌<◌, ◌≡◌, List, [], ◌∷◌, ◌++◌, codes, length, slice_index_or}
use Rattle.std.specs.Fmt.{decimal}
use Rattle.std.specs.List.{flat_map}
use Rattle.euler_rotation.specs.declared.rotation.Rotation.{Rotation}
use Rattle.euler_rotation.specs.declared.rotation.Rotation.TheVariants as rotation
use Rattle.fleet_model.specs.Schedule.{days_in, fleet_of, fleets_in, leg_of}
use Rattle.fleet_model.specs.declared.tables.Tables.{Tables}
use Rattle.lines_of_flying.specs.Lines.{AreLegsOfTables, lines_of}
use Rattle.calendar_dates.specs.Days.{Day, day_text, days_from, no_day}
use Rattle.euler_rotation.specs.FleetRotations.{last_made, rotation_of}
use Rattle.rotation_report.specs.RotationWords.{rotation_words}
use Rattle.printed_lines.specs.Lines.{line_of}
use Rattle.euler_rotation.specs.declared.fleet_rotation.FleetRotation.{FleetRotation}
use Rattle.rotation_report.specs.declared.flying.FleetLines.{FleetLines}

-- the lines of a fleet's tour, and how many aircraft fly them
abbrev pub lines_by : Tables → ℕ → ℕ → List ℕ → FleetLines
lines_by t f used tour = record { fleet = f; used = used; lines = lines_of t f tour }

-- lines of the tables' legs, one for each day that the aircraft take
pub record AreFleetLines (t : Tables) (flown : FleetLines) : Type 0 where
  pub fleet : flown.fleet < fleets_in t
  pub each_day : length flown.lines ≡ flown.used * days_in t
  pub legs : (k : ℕ) → k < length flown.lines → AreLegsOfTables t (slice_index_or flown.lines k [])

-- the line that an aircraft flies so many days after a date on which it begins with the line after so many: it comes to the next
-- line each day
abbrev pub line_from : Tables → FleetLines → ℕ → ℕ → List ℕ
line_from t flown d first = slice_index_or flown.lines ((first + d) % (flown.used * days_in t)) []

-- so many days after a first day of the period, on which it begins a period after the aircraft before it
abbrev pub line_on : Tables → FleetLines → ℕ → ℕ → List ℕ
line_on t flown d k = line_from t flown d (k * days_in t)

-- a flight, with a space before it
abbrev pub spaced_flight : Tables → ℕ → List ℕ
spaced_flight t l = 32 ∷ (leg_of t l).flight

-- the flights of a line, and a dash where it has none
abbrev pub flights_text : Tables → List ℕ → List ℕ
flights_text t [] = codes " -"
flights_text t (leg ∷ legs) = flat_map (spaced_flight t) (leg ∷ legs)

-- what the aircraft after so many flies on a date, so many days after a first day of the period. Its tail is the fleet's name
-- with its number, from 1
abbrev pub dated_line : Tables → FleetLines → List ℕ → ℕ → ℕ → List ℕ
dated_line t flown date d k =
    line_of (date ∷ codes " " ∷ (fleet_of t flown.fleet).name ∷ codes "/" ∷ decimal (k + 1) ∷ codes ":" ∷ flights_text t (line_on t flown d k) ∷ [])

-- the lines of a day, for the first aircraft
abbrev pub day_lines : Tables → FleetLines → Day → ℕ → ℕ → List ℕ
day_lines t flown day d zero = []
day_lines t flown day d (suc k) = day_lines t flown day d k ++ dated_line t flown (day_text day) d k

-- those of the first of some days, for all aircraft: the first comes so many days after a first day of the period
abbrev pub days_lines : Tables → FleetLines → ℕ → List Day → ℕ → List ℕ
days_lines t flown past days zero = []
days_lines t flown past days (suc d) =
    days_lines t flown past days d ++ day_lines t flown (slice_index_or days d no_day) (past + d) flown.used

-- that a fleet has no tour
abbrev pub no_tour_line : Tables → ℕ → FleetRotation → List ℕ
no_tour_line t f made = line_of ((fleet_of t f).name ∷ codes ": " ∷ rotation_words t made ∷ [])

-- the lines of a fleet on some days
abbrev pub rotation_tails : Tables → ℕ → FleetRotation → ℕ → List Day → Rotation → List ℕ
rotation_tails t f made past days rotation.Unused = no_tour_line t f made
rotation_tails t f made past days (rotation.TooFewNights have used) = no_tour_line t f made
rotation_tails t f made past days (rotation.Apart legs) = no_tour_line t f made
rotation_tails t f made past days (rotation.Tour tour) = days_lines t (lines_by t f made.used tour) past days (length days)
rotation_tails t f made past days rotation.None = no_tour_line t f made
rotation_tails t f made past days (rotation.Spent order prefix) = no_tour_line t f made

abbrev pub fleet_tails : Tables → ℕ → FleetRotation → ℕ → List Day → List ℕ
fleet_tails t f made past days = rotation_tails t f made past days (last_made made)

-- the lines of the first fleets
abbrev pub fleets_tails : Tables → List FleetRotation → ℕ → List Day → ℕ → List ℕ
fleets_tails t rotations past days zero = []
fleets_tails t rotations past days (suc f) = fleets_tails t rotations past days f ++ fleet_tails t f (rotation_of rotations f) past days

-- the lines of tails for so many dates, from the first on, which comes so many days after a first day of the period
unfoldable pub tails_text : Tables → List FleetRotation → ℕ → Day → ℕ → List ℕ
tails_text t rotations past first count = fleets_tails t rotations past (days_from first count) (length rotations)
