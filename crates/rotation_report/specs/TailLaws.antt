-- What the lines of tails come to: which legs are flown on a date, and which by an aircraft.
use Rattle.std.specs.Prelude.{ℕ, suc, ◌+◌, ◌*◌, ◌%◌, ◌<◌, ◌≡◌, ◌==◌, ◌++◌, Bool, IsPermutation, List, [], length, slice_index_or}
use Rattle.std.specs.List.{concat, filter}
use Rattle.calendar_dates.specs.Days.{Day, day_after, days_from}
use Rattle.fleet_model.specs.declared.tables.Tables.{Tables}
use Rattle.fleet_model.specs.Counts.{weights_of}
use Rattle.fleet_model.specs.Use.{used_of}
use Rattle.fleet_model.specs.Schedule.{days_in, leg_on}
use Rattle.fleet_model.specs.Times.{departure}
use Rattle.fleet_model.specs.Period.{day_of_minute}
use Rattle.lines_of_flying.specs.ground_turns.Maps.{IsTour}
use Rattle.lines_of_flying.specs.Lines.{BeginsAfterStart, lines_of}
use Rattle.rotation_report.specs.Tails.{days_lines, line_on, lines_by}
use Rattle.rotation_report.specs.declared.flying.FleetLines.{FleetLines}
use Rattle.sums.specs.Places.{list_below}

-- the lines of a fleet's tour, and the aircraft that an assignment uses, which fly them
abbrev pub lines_by_plan : Tables → List ℕ → ℕ → List ℕ → FleetLines
lines_by_plan t a f tour = lines_by t f (used_of t (weights_of a) f) tour

-- what all aircraft fly so many days after a first day of the period, one aircraft after another
abbrev pub flown_on : Tables → FleetLines → ℕ → List ℕ
flown_on t flown d = concat (list_below (line_on t flown d) flown.used)

-- what an aircraft flies on so many dates from a first day of the period on, one date after another
abbrev pub flown_by : Tables → FleetLines → ℕ → ℕ → List ℕ
flown_by t flown k days = concat (list_below (λ d. line_on t flown d k) days)

-- a leg departs on this day of the period, days counted from 0
abbrev pub departs_on : Tables → ℕ → ℕ → ℕ → Bool
departs_on t f day l = day_of_minute (departure t (leg_on l f)) == day

-- on each date those legs of a fleet's tour are flown that depart on its day of the period, each by one aircraft
abbrev pub EachLegOnItsDay : Type 0
EachLegOnItsDay = (t : Tables) (a : List ℕ) (f : ℕ) (tour : List ℕ) (d : ℕ) → IsTour t a f tour → BeginsAfterStart t f tour
    → IsPermutation (flown_on t (lines_by_plan t a f tour) d) (filter (departs_on t f (d % days_in t)) tour)

-- each aircraft flies each leg of the tour once, in as many days as the tour has
abbrev pub EachAircraftFliesAll : Type 0
EachAircraftFliesAll = (t : Tables) (a : List ℕ) (f : ℕ) (tour : List ℕ) (k : ℕ) → IsTour t a f tour → BeginsAfterStart t f tour
    → IsPermutation (flown_by t (lines_by_plan t a f tour) k (used_of t (weights_of a) f * days_in t)) tour

-- of a list of lines the one that is flown on a date, and on the next date the one after it, going round
pub record IsNextLine (lines : List (List ℕ)) (today tomorrow : List ℕ) : Type 0 where
  pub place : ℕ
  pub within : place < length lines
  pub today_is : today ≡ slice_index_or lines place []
  pub tomorrow_is : tomorrow ≡ slice_index_or lines (suc place % length lines) []

-- an aircraft comes to the tour's next line each day
abbrev pub ComesToNextLine : Type 0
ComesToNextLine = (t : Tables) (a : List ℕ) (f : ℕ) (tour : List ℕ) (d k : ℕ) → IsTour t a f tour → BeginsAfterStart t f tour
    → IsNextLine (lines_of t f tour) (line_on t (lines_by_plan t a f tour) d k) (line_on t (lines_by_plan t a f tour) (suc d) k)

-- a period later an aircraft flies what the next one flew
abbrev pub FollowsNextAircraft : Type 0
FollowsNextAircraft = (t : Tables) (flown : FleetLines) (d k : ℕ) → k < flown.used
    → line_on t flown (d + days_in t) k ≡ line_on t flown d (suc k % flown.used)

-- what is told of a fleet with these lines on so many dates, of which the first comes so many days after a first day of the period
abbrev pub told_from : Tables → FleetLines → Day → ℕ → ℕ → List ℕ
told_from t flown first past count = days_lines t flown past (days_from (day_after first past) count) count

-- What a date shows doesn't depend on the first date that is asked for: of many dates some are told as they are alone, and then the
-- others as they are alone, from the same first day of the period.
abbrev pub EachDateIsItsOwn : Type 0
EachDateIsItsOwn = (t : Tables) (flown : FleetLines) (first : Day) (past some others : ℕ)
    → told_from t flown first past (some + others) ≡ told_from t flown first past some ++ told_from t flown first (past + some) others
