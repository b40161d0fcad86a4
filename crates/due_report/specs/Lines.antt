-- What each named tail flies on each date.
use Rattle.std.specs.Prelude.{◌≡◌, ℕ, zero, suc, ◌*◌, ◌<◌, ◌==◌, List, [], ◌∷◌, ◌++◌, codes, filter, length, map, slice_index, slice_index_or, Option, Some, None, IfSome, ⊤}
use Rattle.std.specs.Fmt.{decimal}
use Rattle.calendar_dates.specs.Days.{Day, day_text, days_from, no_day}
use Rattle.euler_rotation.specs.declared.rotation.Rotation.{Rotation}
use Rattle.euler_rotation.specs.declared.rotation.Rotation.TheVariants as rotation
use Rattle.fleet_model.specs.Schedule.{days_in, fleet_of, leg_of, station_of}
use Rattle.fleet_model.specs.declared.tables.Tables.{Tables}
use Rattle.euler_rotation.specs.FleetRotations.{last_made, rotation_of}
use Rattle.euler_rotation.specs.declared.fleet_rotation.FleetRotation.{FleetRotation}
use Rattle.rotation_report.specs.Tails.{flights_text, line_from, lines_by, no_tour_line}
use Rattle.printed_lines.specs.Lines.{line_of}
use Rattle.rotation_report.specs.declared.flying.FleetLines.{FleetLines}
use Rattle.tail_dates.specs.Places.{IsPlace}
use Rattle.tail_dates.specs.declared.placing.Placed.{Placed}
use Rattle.tail_dates.specs.declared.placing.Placed.TheVariants as placed
use Rattle.tail_dates.specs.declared.tails.Place.{Place}
use Rattle.tail_dates.specs.declared.tails.Place.TheVariants as place
use Rattle.tail_dates.specs.declared.tails.TailState.{TailState}
use Rattle.due_report.specs.Placings.{placing_of}

-- the names of a fleet's tails, in their order
abbrev pub tail_names : ℕ → List TailState → List (List ℕ)
tail_names f tails = map (λ tail. tail.name) (filter (λ tail. tail.fleet == f) tails)

-- each tail begins with one of the lines, which so many aircraft fly
pub record AreBegun (t : Tables) (used : ℕ) (names : List (List ℕ)) (starts : List ℕ) : Type 0 where
  pub each_tail : length starts ≡ length names
  pub within : (k : ℕ) → k < length starts → slice_index starts k < used * days_in t

-- what a tail that begins with a line flies on a date, so many days after the first one
abbrev pub tail_line : Tables → FleetLines → List ℕ → ℕ → List ℕ → ℕ → List ℕ
tail_line t flown date d name first = line_of (date ∷ codes " " ∷ name ∷ codes ":" ∷ flights_text t (line_from t flown d first) ∷ [])

-- the lines of a day, for the first tails
abbrev pub tails_on : Tables → FleetLines → List (List ℕ) → List ℕ → Day → ℕ → ℕ → List ℕ
tails_on t flown names starts day d zero = []
tails_on t flown names starts day d (suc k) =
    tails_on t flown names starts day d k ++ tail_line t flown (day_text day) d (slice_index_or names k []) (slice_index starts k)

-- those of the first of some days, for all tails
abbrev pub days_tails : Tables → FleetLines → List (List ℕ) → List ℕ → List Day → ℕ → List ℕ
days_tails t flown names starts days zero = []
days_tails t flown names starts days (suc d) =
    days_tails t flown names starts days d ++ tails_on t flown names starts (slice_index_or days d no_day) d (length names)

-- that a fleet has too few tails, or too many
abbrev pub number_line : Tables → ℕ → ℕ → ℕ → List ℕ
number_line t f tails used = line_of ((fleet_of t f).name ∷ codes ": tails " ∷ decimal tails ∷ codes " of " ∷ decimal used ∷ [])

-- that more of them have to come to maintenance within so many nights than starts do
abbrev pub late_line : Tables → ℕ → ℕ → ℕ → ℕ → List ℕ
late_line t f within tails starts =
    line_of ((fleet_of t f).name ∷ codes ": late within " ∷ decimal within ∷ codes ", tails " ∷ decimal tails ∷ codes ", starts " ∷ decimal starts ∷ [])

-- what a place is called: a station by its code, and a flight by its name
abbrev pub place_name : Tables → Place → List ℕ
place_name t (place.Stands s) = (station_of t s).code
place_name t (place.Flies l) = (leg_of t l).flight

-- that only some of a fleet's tails are told where they are
abbrev pub some_at_line : Tables → ℕ → ℕ → ℕ → List ℕ
some_at_line t f at tails = line_of ((fleet_of t f).name ∷ codes ": at " ∷ decimal at ∷ codes " of " ∷ decimal tails ∷ [])

-- that more starts are at a place than tails
abbrev pub lacking_line : Tables → ℕ → Place → ℕ → ℕ → List ℕ
lacking_line t f at tails starts =
    line_of ((fleet_of t f).name ∷ codes ": at " ∷ place_name t at ∷ codes " tails " ∷ decimal tails ∷ codes ", starts " ∷ decimal starts ∷ [])

-- that more of the tails at a place have to come to maintenance within so many nights than starts there do
abbrev pub late_at_line : Tables → ℕ → Place → ℕ → ℕ → ℕ → List ℕ
late_at_line t f at within tails starts =
    line_of
    ((fleet_of t f).name
    ∷ codes ": late at "
    ∷ place_name t at
    ∷ codes " within "
    ∷ decimal within
    ∷ codes ", tails "
    ∷ decimal tails
    ∷ codes ", starts "
    ∷ decimal starts
    ∷ [])

-- what lines ask of an answer: places of the tables, and of a tour that so many aircraft fly a line for each tail
abbrev pub IsTellable : Tables → ℕ → ℕ → List TailState → Placed → Type 0
IsTellable t f used tails (placed.WrongNumber all needed) = ⊤
IsTellable t f used tails (placed.Late within all starts) = ⊤
IsTellable t f used tails (placed.SomeAt at all) = ⊤
IsTellable t f used tails (placed.Lacks at all starts) = IsPlace t at
IsTellable t f used tails (placed.LateAt at within all starts) = IsPlace t at
IsTellable t f used tails (placed.Lines starts) = AreBegun t used (tail_names f tails) starts

-- of each fleet, where there is one
pub record AreTellable (t : Tables) (rotations : List FleetRotation) (tails : List TailState) (placings : List (Option Placed)) : Type 0 where
  pub each_fleet : length placings ≡ length rotations
  pub each : (f : ℕ) → f < length rotations → IfSome (placing_of placings f) (IsTellable t f (rotation_of rotations f).used tails)

-- those of a fleet, whose tails begin with these lines of its tour
abbrev pub begun_lines : Tables → ℕ → ℕ → List ℕ → List TailState → List Day → List ℕ → List ℕ
begun_lines t f used tour tails days starts = days_tails t (lines_by t f used tour) (tail_names f tails) starts days (length days)

-- the lines of a fleet with a tour that so many aircraft fly, on some days
abbrev pub placed_lines : Tables → ℕ → ℕ → List ℕ → List TailState → List Day → Placed → List ℕ
placed_lines t f used tour tails days (placed.WrongNumber all needed) = number_line t f all needed
placed_lines t f used tour tails days (placed.Late within all starts) = late_line t f within all starts
placed_lines t f used tour tails days (placed.SomeAt at all) = some_at_line t f at all
placed_lines t f used tour tails days (placed.Lacks at all starts) = lacking_line t f at all starts
placed_lines t f used tour tails days (placed.LateAt at within all starts) = late_at_line t f at within all starts
placed_lines t f used tour tails days (placed.Lines starts) = begun_lines t f used tour tails days starts

-- those of a fleet on some days
abbrev pub rotation_due : Tables → ℕ → FleetRotation → List TailState → List Day → Option Placed → Rotation → List ℕ
rotation_due t f made tails days None other = no_tour_line t f made
rotation_due t f made tails days (Some placed) (rotation.Tour tour) = placed_lines t f made.used tour tails days placed
rotation_due t f made tails days (Some placed) other = no_tour_line t f made

abbrev pub fleet_due : Tables → ℕ → FleetRotation → List TailState → Option Placed → List Day → List ℕ
fleet_due t f made tails placing days = rotation_due t f made tails days placing (last_made made)

-- the lines of the first fleets
abbrev pub fleets_due : Tables → List FleetRotation → List TailState → List (Option Placed) → List Day → ℕ → List ℕ
fleets_due t rotations tails placings days zero = []
fleets_due t rotations tails placings days (suc f) =
    fleets_due t rotations tails placings days f ++ fleet_due t f (rotation_of rotations f) tails (placing_of placings f) days

-- the lines of named tails for so many dates, from the first on
unfoldable pub due_text : Tables → List FleetRotation → List TailState → List (Option Placed) → Day → ℕ → List ℕ
due_text t rotations tails placings first count = fleets_due t rotations tails placings (days_from first count) (length rotations)
