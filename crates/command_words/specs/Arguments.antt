-- The values of a command's arguments, by what clap found for them.
use Rattle.std.specs.Prelude.{◌≡◌, ◌≤◌, ◌%◌, ◌==◌, ℕ, Bool, true, false, if◌then◌else◌, List, codes, bytes_eq, Option, Some, None, IfSome, option_and_then, pos, ◌≤ℤ◌}
use Rattle.std.specs.Option.{option_map_or}
use Rattle.clap.specs.Words.{Row, Text, first_of, found_of, rows_of}
use Rattle.clap.specs.declared.parser.matches.ArgMatches.{ArgMatches}
use Rattle.calendar_dates.specs.Days.{Day, HasDays, days_between}
use Rattle.fleet_model.specs.declared.limits.TheConstants.{MAX_AIRCRAFT}
use Rattle.fleet_model.specs.declared.options.TableOptions.{TableOptions}
use Rattle.fleet_model.specs.declared.parts.Settings.{Settings}
use Rattle.calendar_dates.specs.Reading.{date_read, ends_in_calendar}
use Rattle.command_words.specs.Values.{minute_read, number_read, value_or_default}
use Rattle.command_words.specs.declared.command.Dates.{Dates}
use Rattle.command_words.specs.declared.command.RotationLimits.{RotationLimits}
use Rattle.command_words.specs.declared.command.SearchLimits.{SearchLimits}
use Rattle.command_words.specs.declared.command.SearchWay.{SearchWay}
use Rattle.command_words.specs.declared.command.SearchWay.TheVariants as way
use Rattle.command_words.specs.declared.command.SolveOptions.{SolveOptions}
use Rattle.command_words.specs.declared.command.TheConstants.{DEFAULT_DAYS, DEFAULT_DAY_START, DEFAULT_LEAST_NIGHT, DEFAULT_NODES, DEFAULT_PERIOD, DEFAULT_PIVOTS, DEFAULT_THROUGH_MAX, DEFAULT_VISITS, DEFAULT_WAY, MAX_DATES, MAX_DAYS, MAX_LEAST_NIGHT, MAX_MADE_LEGS, MAX_NODES, MAX_NUMBER, MAX_PERIOD, MAX_PIVOTS, MAX_THROUGH_MAX, MAX_VISITS, MIN_DATES, MIN_DAYS, MIN_PERIOD}

-- what was found for the arguments
abbrev pub rows_found : ArgMatches → List Row
rows_found matches = rows_of (found_of matches)

-- the folder
abbrev pub dir_in : List Row → Option Text
dir_in found = first_of (codes "dir") found

-- a flag is given: clap's value of it is then `true`
abbrev pub is_given : Text → List Row → Bool
is_given name found = option_map_or (λ text. bytes_eq text (codes "true")) (first_of name found) false

-- ---- how tables are read

-- the day start, where it reads
abbrev pub day_start_in : List Row → Option ℕ
day_start_in found = value_or_default DEFAULT_DAY_START minute_read (first_of (codes "day-start") found)

-- the longest wait of a through pair, where it reads; a command without the option has its default
abbrev pub through_max_in : List Row → Option ℕ
through_max_in found = value_or_default DEFAULT_THROUGH_MAX (number_read 0 MAX_THROUGH_MAX) (first_of (codes "through-max") found)

-- the least minutes of a night for maintenance, where they read; a command without the option has their default
abbrev pub least_night_in : List Row → Option ℕ
least_night_in found = value_or_default DEFAULT_LEAST_NIGHT (number_read 0 MAX_LEAST_NIGHT) (first_of (codes "least-night") found)

-- the days of the period, where they read
abbrev pub period_in : List Row → Option ℕ
period_in found = value_or_default DEFAULT_PERIOD (number_read MIN_PERIOD MAX_PERIOD) (first_of (codes "period") found)

-- the settings of a day start, a longest wait, a least night and a period of so many days, where all are there
abbrev pub settings_at : Option ℕ → Option ℕ → Option ℕ → Option ℕ → Option Settings
settings_at (Some minute) (Some wait) (Some least) (Some days) = Some (record { day_start = minute; through_max = wait; least_night = least; period = days })
settings_at (Some minute) (Some wait) (Some least) None = None
settings_at (Some minute) (Some wait) None days = None
settings_at (Some minute) None least days = None
settings_at None wait least days = None

-- the settings, where all values read
abbrev pub settings_in : List Row → Option Settings
settings_in found = settings_at (day_start_in found) (through_max_in found) (least_night_in found) (period_in found)

-- how the tables are read by settings, where these are there, and whether those of windows and of optional legs are
abbrev pub reading_at : Option Settings → Bool → Bool → Option TableOptions
reading_at (Some s) windows optional = Some (record { settings = s; windows = windows; optional = optional })
reading_at None windows optional = None

-- how the tables are read, where all values read
abbrev pub reading_in : List Row → Option TableOptions
reading_in found = reading_at (settings_in found) (is_given (codes "windows") found) (is_given (codes "optional") found)

-- ---- the way of searching

-- the way that a text names, in just these letters
abbrev pub way_read : Text → Option SearchWay
way_read text = if bytes_eq text (codes "fixed") then Some way.Fixed else if bytes_eq text (codes "free") then Some way.Free else None

-- what the text of the option reads as, or the default where the option isn't there
abbrev pub way_or_default : Option Text → Option SearchWay
way_or_default None = Some DEFAULT_WAY
way_or_default (Some text) = way_read text

-- the way of searching, where it reads
abbrev pub way_in : List Row → Option SearchWay
way_in found = way_or_default (first_of (codes "search") found)

-- ---- limits

-- the most splits, where they read
abbrev pub nodes_told : List Row → Option ℕ
nodes_told found = value_or_default DEFAULT_NODES (number_read 0 MAX_NODES) (first_of (codes "nodes") found)

-- the most pivots, where they read
abbrev pub pivots_told : List Row → Option ℕ
pivots_told found = value_or_default DEFAULT_PIVOTS (number_read 0 MAX_PIVOTS) (first_of (codes "pivots") found)

-- the limit of pivots: none where all are allowed, whatever number is given
abbrev pub budget_of : Bool → ℕ → Option ℕ
budget_of true p = None
budget_of false p = Some p

-- the limits of a search, where both are there, and all pivots may be allowed
abbrev pub search_at : Option ℕ → Option ℕ → Bool → Option SearchLimits
search_at (Some n) (Some p) all = Some (record { nodes = n; pivots = budget_of all p })
search_at (Some n) None all = None
search_at None p all = None

-- the limits of a search, where both read
abbrev pub search_in : List Row → Option SearchLimits
search_in found = search_at (nodes_told found) (pivots_told found) (is_given (codes "all-pivots") found)

-- the most days between maintenance, where they read
abbrev pub days_told : List Row → Option ℕ
days_told found = value_or_default DEFAULT_DAYS (number_read MIN_DAYS MAX_DAYS) (first_of (codes "days") found)

-- the most prefixes that are visited, where they read
abbrev pub visits_in : List Row → Option ℕ
visits_in found = value_or_default DEFAULT_VISITS (number_read 0 MAX_VISITS) (first_of (codes "visits") found)

-- the limits of rotations, where both are there
abbrev pub rotations_at : Option ℕ → Option ℕ → Option RotationLimits
rotations_at (Some d) (Some v) = Some (record { days = d; visits = v })
rotations_at (Some d) None = None
rotations_at None v = None

-- the limits of rotations, where both read
abbrev pub rotations_in : List Row → Option RotationLimits
rotations_in found = rotations_at (days_told found) (visits_in found)

-- what is asked of a search for a plan, where its way, its limits and those of rotations are there
abbrev pub options_at : Option SearchWay → Option SearchLimits → Option RotationLimits → Bool → Option SolveOptions
options_at (Some w) (Some s) (Some r) printed = Some (record { way = w; search = s; rotations = r; json = printed })
options_at (Some w) (Some s) None printed = None
options_at (Some w) None r printed = None
options_at None s r printed = None

-- what is asked of a search for a plan, where all values read
abbrev pub options_in : List Row → Option SolveOptions
options_in found = options_at (way_in found) (search_in found) (rotations_in found) (is_given (codes "json") found)

-- ---- dates

-- so many dates, from the first on, which comes so many days after a first day of the period
pub record AskedDates : Type 0 where
  pub first : Day
  pub count : ℕ
  pub past : ℕ

-- the number of dates that a text writes
abbrev pub count_read : Text → Option ℕ
count_read text = number_read MIN_DATES MAX_DATES text

-- how many days a date comes after the first day of a period that a text tells, where both are there and the date isn't earlier
abbrev pub past_from : Text → Option Day → Option ℕ
past_from text date = option_and_then (λ first. option_and_then (days_between first) date) (date_read text)

-- a date is itself a first day of the period where none is told
abbrev pub past_at : Option Text → Option Day → Option ℕ
past_at None date = Some 0
past_at (Some text) date = past_from text date

-- so many dates from a first one on, which comes so many days after a first day of the period, where all are there and the calendar
-- has each date
abbrev pub dates_at : Option Day → Option ℕ → Option ℕ → Option AskedDates
dates_at (Some date) (Some n) (Some days) =
    if ends_in_calendar date n then Some (record { first = date; count = n; past = days }) else None
dates_at (Some date) (Some n) None = None
dates_at (Some date) None past = None
dates_at None n past = None

-- the first of the dates, where it reads
abbrev pub date_in : List Row → Option Day
date_in found = option_and_then date_read (first_of (codes "date") found)

-- the dates, where all words read
abbrev pub dates_in : List Row → Option AskedDates
dates_in found =
    dates_at (date_in found) (option_and_then count_read (first_of (codes "count") found)) (past_at (first_of (codes "first-day") found) (date_in found))

-- ---- what tables are made of

-- the number that a text writes
abbrev pub made_number_read : Text → Option ℕ
made_number_read text = number_read 0 MAX_NUMBER text

-- the number, where it reads
abbrev pub number_told : List Row → Option ℕ
number_told found = option_and_then made_number_read (first_of (codes "number") found)

-- a number, where it is even
abbrev pub where_even : ℕ → Option ℕ
where_even n = if n % 2 == 0 then Some n else None

-- the number of legs that a text writes, an even one
abbrev pub legs_read : Text → Option ℕ
legs_read text = option_and_then where_even (number_read 0 MAX_MADE_LEGS text)

-- the number of legs, where it reads
abbrev pub legs_told : List Row → Option ℕ
legs_told found = option_and_then legs_read (first_of (codes "legs") found)

-- ---- another size of a fleet

-- the fleet
abbrev pub fleet_told : List Row → Option Text
fleet_told found = first_of (codes "fleet") found

-- the number of aircraft that a text writes
abbrev pub aircraft_read : Text → Option ℕ
aircraft_read text = number_read 0 MAX_AIRCRAFT text

-- the number of aircraft, where it reads
abbrev pub aircraft_told : List Row → Option ℕ
aircraft_told found = option_and_then aircraft_read (first_of (codes "count") found)

-- ---- what holds of values that read

-- a search of so many splits, and so many pivots where they have a limit, may be asked for
pub record AreLimits (limits : SearchLimits) : Type 0 where
  pub few_nodes : limits.nodes ≤ MAX_NODES
  pub few_pivots : IfSome limits.pivots (λ p. p ≤ MAX_PIVOTS)

-- rotations of so many days may be asked for, by so many visits
pub record AreRotationLimits (limits : RotationLimits) : Type 0 where
  pub some_days : MIN_DAYS ≤ limits.days
  pub few_days : limits.days ≤ MAX_DAYS
  pub few_visits : limits.visits ≤ MAX_VISITS

pub record AreOptions (options : SolveOptions) : Type 0 where
  pub search : AreLimits options.search
  pub rotations : AreRotationLimits options.rotations

-- so many legs may be made
pub record IsLegCount (legs : ℕ) : Type 0 where
  pub even : legs % 2 ≡ 0
  pub few : legs ≤ MAX_MADE_LEGS

-- tables of this number and of so many legs may be made
pub record CanBeAsked (number legs : ℕ) : Type 0 where
  pub number_fits : number ≤ MAX_NUMBER
  pub legs_fit : IsLegCount legs

-- dates that may be asked for: from the year 1 on, and the calendar, which ends on 9999-12-31, has the last of them; from
-- 0001-01-01 to that day are 3,652,058 days
pub record AreDates (dates : Dates) : Type 0 where
  pub year : pos 1 ≤ℤ dates.first.year
  pub some : MIN_DATES ≤ dates.count
  pub few : dates.count ≤ MAX_DATES
  pub last : HasDays dates.first dates.count
  pub early : dates.past ≤ 3652058
