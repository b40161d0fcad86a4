-- What the words of a call ask for.
use Rattle.std.specs.Prelude.{◌≤◌, ⊤, if◌then◌else◌, List, ℕ, codes, bytes_eq, Option, None, option_and_then, option_map}
use Rattle.clap.specs.Words.{Row, Text}
use Rattle.calendar_dates.specs.Days.{day_on}
use Rattle.fleet_model.specs.Limits.{AreSettings}
use Rattle.fleet_model.specs.declared.limits.TheConstants.{MAX_AIRCRAFT}
use Rattle.fleet_model.specs.declared.options.TableOptions.{TableOptions}
use Rattle.command_words.specs.Arguments.{AreDates, AreOptions, AreRotationLimits, AskedDates, CanBeAsked, aircraft_told, dates_in, dir_in, fleet_told, legs_told, number_told, options_in, reading_in, rotations_in}
use Rattle.command_words.specs.Found.{found}
use Rattle.command_words.specs.declared.command.Command.{Command}
use Rattle.command_words.specs.declared.command.Command.TheVariants as command
use Rattle.command_words.specs.declared.command.Dates.{Dates}
use Rattle.command_words.specs.declared.command.RotationLimits.{RotationLimits}
use Rattle.command_words.specs.declared.command.SolveOptions.{SolveOptions}

-- A command with its folder, how its tables are read, and what else it takes. Making takes a number and a count of legs, and
-- asking about another size a fleet's name and a count of aircraft.
pub data Asked : Type 0 where
  judge : List ℕ → TableOptions → Asked
  solve : List ℕ → TableOptions → SolveOptions → Asked
  check : List ℕ → TableOptions → Asked
  tails : List ℕ → TableOptions → RotationLimits → AskedDates → Asked
  due : List ℕ → TableOptions → RotationLimits → AskedDates → Asked
  make : List ℕ → ℕ → ℕ → Asked
  whatif : List ℕ → TableOptions → List ℕ → ℕ → Asked

-- ---- the commands

-- judging a folder whose tables are read so, where that is said
abbrev pub judge_at : Option TableOptions → Text → Option Asked
judge_at reading dir = option_map (judge dir) reading

-- judging, where all values read
abbrev pub judge_in : List Row → Option Asked
judge_in found = option_and_then (judge_at (reading_in found)) (dir_in found)

-- solving a folder by options too, where they are there
abbrev pub solve_at : Option TableOptions → Option SolveOptions → Text → Option Asked
solve_at reading options dir = option_and_then (λ how. option_map (solve dir how) options) reading

-- solving, where all values read
abbrev pub solve_in : List Row → Option Asked
solve_in found = option_and_then (solve_at (reading_in found) (options_in found)) (dir_in found)

-- checking the proof of a folder, where it is said how tables are read
abbrev pub check_at : Option TableOptions → Text → Option Asked
check_at reading dir = option_map (check dir) reading

-- checking, where all values read
abbrev pub check_in : List Row → Option Asked
check_in found = option_and_then (check_at (reading_in found)) (dir_in found)

-- printing the tails of a folder's plan by limits of rotations on some dates, where all are there
abbrev pub tails_at : Option TableOptions → Option RotationLimits → Option AskedDates → Text → Option Asked
tails_at reading rotations dates dir =
    option_and_then (λ how. option_and_then (λ limits. option_map (tails dir how limits) dates) rotations) reading

-- printing tails, where all values read
abbrev pub tails_in : List Row → Option Asked
tails_in found = option_and_then (tails_at (reading_in found) (rotations_in found) (dates_in found)) (dir_in found)

-- printing what a folder's named tails fly, by the same limits and dates, where all are there
abbrev pub due_at : Option TableOptions → Option RotationLimits → Option AskedDates → Text → Option Asked
due_at reading rotations dates dir =
    option_and_then (λ how. option_and_then (λ limits. option_map (due dir how limits) dates) rotations) reading

-- printing that, where all values read
abbrev pub due_in : List Row → Option Asked
due_in found = option_and_then (due_at (reading_in found) (rotations_in found) (dates_in found)) (dir_in found)

-- making tables of a number and of so many legs in a folder, where both are there
abbrev pub make_at : Option ℕ → Option ℕ → Text → Option Asked
make_at number legs dir = option_and_then (λ n. option_map (make dir n) legs) number

-- making tables, where all values read
abbrev pub make_in : List Row → Option Asked
make_in found = option_and_then (make_at (number_told found) (legs_told found)) (dir_in found)

-- asking of a folder's proof what it says of so many aircraft of a fleet, where all are there
abbrev pub whatif_at : Option TableOptions → Option Text → Option ℕ → Text → Option Asked
whatif_at reading fleet count dir =
    option_and_then (λ how. option_and_then (λ name. option_map (whatif dir how name) count) fleet) reading

-- asking about another size, where all values read
abbrev pub whatif_in : List Row → Option Asked
whatif_in found = option_and_then (whatif_at (reading_in found) (fleet_told found) (aircraft_told found)) (dir_in found)

-- the command of a subcommand's name and what was found for its arguments
abbrev pub command_in : Text × List Row → Option Asked
command_in (name, found) =
    if bytes_eq name (codes "judge") then judge_in found
    else if bytes_eq name (codes "solve") then solve_in found
    else if bytes_eq name (codes "check") then check_in found
    else if bytes_eq name (codes "tails") then tails_in found
    else if bytes_eq name (codes "due") then due_in found
    else if bytes_eq name (codes "make") then make_in found
    else if bytes_eq name (codes "whatif") then whatif_in found
    else None

-- what words ask for, the first of them the program's name: nothing where clap finds a fault, as it does where they
-- ask for help, and else what they give the arguments, where all values read
unfoldable pub asked : List Text → Option Asked
asked words = option_and_then command_in (found words)

-- ---- the commands of the code

-- what dates of the code are
abbrev pub dates_by : Dates → AskedDates
dates_by dates = record { first = day_on dates.first; count = dates.count; past = dates.past }

-- what a command of the code asks for
abbrev pub asked_by : Command → Asked
asked_by (command.Judge dir reading) = judge dir.now reading
asked_by (command.Solve dir reading options) = solve dir.now reading options
asked_by (command.Check dir reading) = check dir.now reading
asked_by (command.Tails dir reading rotations dates) = tails dir.now reading rotations (dates_by dates)
asked_by (command.Due dir reading rotations dates) = due dir.now reading rotations (dates_by dates)
asked_by (command.Make dir number legs) = make dir.now number legs
asked_by (command.Whatif dir reading fleet count) = whatif dir.now reading fleet.now count

-- the settings of a command are within their limits, where it has some
abbrev pub HasSettings : Command → Type 0
HasSettings (command.Judge dir reading) = AreSettings reading.settings
HasSettings (command.Solve dir reading options) = AreSettings reading.settings
HasSettings (command.Check dir reading) = AreSettings reading.settings
HasSettings (command.Tails dir reading rotations dates) = AreSettings reading.settings
HasSettings (command.Due dir reading rotations dates) = AreSettings reading.settings
HasSettings (command.Make dir number legs) = ⊤
HasSettings (command.Whatif dir reading fleet count) = AreSettings reading.settings

-- so are the limits of a search and of rotations, what tables are made of, and a number of aircraft
abbrev pub HasLimits : Command → Type 0
HasLimits (command.Judge dir reading) = ⊤
HasLimits (command.Solve dir reading options) = AreOptions options
HasLimits (command.Check dir reading) = ⊤
HasLimits (command.Tails dir reading rotations dates) = AreRotationLimits rotations
HasLimits (command.Due dir reading rotations dates) = AreRotationLimits rotations
HasLimits (command.Make dir number legs) = CanBeAsked number legs
HasLimits (command.Whatif dir reading fleet count) = count ≤ MAX_AIRCRAFT

-- and the dates
abbrev pub HasDates : Command → Type 0
HasDates (command.Judge dir reading) = ⊤
HasDates (command.Solve dir reading options) = ⊤
HasDates (command.Check dir reading) = ⊤
HasDates (command.Tails dir reading rotations dates) = AreDates dates
HasDates (command.Due dir reading rotations dates) = AreDates dates
HasDates (command.Make dir number legs) = ⊤
HasDates (command.Whatif dir reading fleet count) = ⊤

-- all that a command holds is within its limits
pub record IsInRange (c : Command) : Type 0 where
  pub settings : HasSettings c
  pub limits : HasLimits c
  pub dates : HasDates c
