-- What the definition of a match comes to: plain words alone, or words of any kind behind `--` and options of one
-- word before it. What stands in brackets may be given or not.
use Rattle.std.specs.Prelude.{◌≡◌, ◌==◌, ◌||◌, Bool, true, false, not, List, [], ◌∷◌, ◌++◌, Option, Some, None, codes}
use Rattle.clap.specs.Words.{Text}
use Rattle.fleet_model.specs.declared.options.TableOptions.{TableOptions}
use Rattle.fleet_model.specs.declared.parts.Settings.{Settings}
use Rattle.command_words.specs.Arguments.{aircraft_read, count_read, dates_at, legs_read, made_number_read, options_at, past_from, reading_at, rotations_at, search_at, settings_at, way_read}
use Rattle.calendar_dates.specs.Reading.{date_read}
use Rattle.command_words.specs.Values.{minute_read, number_read}
use Rattle.command_words.specs.Words.{asked, check_at, due_at, judge_at, make_at, solve_at, tails_at, whatif_at}
use Rattle.command_words.specs.declared.command.RotationLimits.{RotationLimits}
use Rattle.command_words.specs.declared.command.SearchLimits.{SearchLimits}
use Rattle.command_words.specs.declared.command.SearchWay.{SearchWay}
use Rattle.command_words.specs.declared.command.SearchWay.TheVariants as way
use Rattle.command_words.specs.declared.command.SolveOptions.{SolveOptions}
use Rattle.command_words.specs.declared.command.TheConstants.{DEFAULT_LEAST_NIGHT, DEFAULT_NODES, DEFAULT_OPTIONS, DEFAULT_READING, DEFAULT_THROUGH_MAX, MAX_DAYS, MAX_LEAST_NIGHT, MAX_NODES, MAX_PERIOD, MAX_PIVOTS, MAX_THROUGH_MAX, MAX_VISITS, MIN_DAYS, MIN_PERIOD}

-- nothing follows
abbrev pub is_alone : Text → Bool
is_alone [] = true
is_alone (byte ∷ more) = false

-- a name that does not begin with a dash, or is a dash alone
abbrev pub is_plain_name : Text → Bool
is_plain_name [] = true
is_plain_name (first ∷ rest) = not (first == 45) || is_alone rest

-- ---- what holds where no option is given

abbrev pub default_settings : Option Settings
default_settings = Some DEFAULT_READING.settings

abbrev pub default_reading : Option TableOptions
default_reading = Some DEFAULT_READING

abbrev pub default_rotations : Option RotationLimits
default_rotations = Some DEFAULT_OPTIONS.rotations

abbrev pub default_way : Option SearchWay
default_way = Some DEFAULT_OPTIONS.way

abbrev pub default_search : Option SearchLimits
default_search = Some DEFAULT_OPTIONS.search

abbrev pub default_options : Option SolveOptions
default_options = Some DEFAULT_OPTIONS

-- ---- what options give

-- the settings with a day start and a period
abbrev pub settings_from : Text → Text → Option Settings
settings_from time period = settings_at (minute_read time) (Some DEFAULT_THROUGH_MAX) (Some DEFAULT_LEAST_NIGHT) (number_read MIN_PERIOD MAX_PERIOD period)

-- with a longest wait and a least night too
abbrev pub settings_with : Text → Text → Text → Text → Option Settings
settings_with time period wait least = settings_at (minute_read time) (number_read 0 MAX_THROUGH_MAX wait) (number_read 0 MAX_LEAST_NIGHT least) (number_read MIN_PERIOD MAX_PERIOD period)

abbrev pub rotations_with : Text → Text → Option RotationLimits
rotations_with days visits = rotations_at (number_read MIN_DAYS MAX_DAYS days) (number_read 0 MAX_VISITS visits)

-- the word of a flag, where it is given
abbrev pub where_given : Bool → Text → List Text
where_given true word = word ∷ []
where_given false word = []

-- [--windows] [--optional]
abbrev pub flag_words : Bool → Bool → List Text
flag_words windows optional = where_given windows (codes "--windows") ++ where_given optional (codes "--optional")

-- ---- plain words

-- judge DIR
abbrev pub JudgesPlainly : Type 0
JudgesPlainly = (program dir : Text) → is_plain_name dir ≡ true
    → asked (program ∷ codes "judge" ∷ dir ∷ []) ≡ judge_at default_reading dir

-- solve DIR
abbrev pub SolvesPlainly : Type 0
SolvesPlainly = (program dir : Text) → is_plain_name dir ≡ true
    → asked (program ∷ codes "solve" ∷ dir ∷ []) ≡ solve_at default_reading default_options dir

-- check DIR
abbrev pub ChecksPlainly : Type 0
ChecksPlainly = (program dir : Text) → is_plain_name dir ≡ true
    → asked (program ∷ codes "check" ∷ dir ∷ []) ≡ check_at default_reading dir

-- tails DIR DATE COUNT
abbrev pub TailsPlainly : Type 0
TailsPlainly = (program dir date count : Text) → is_plain_name dir ≡ true → is_plain_name date ≡ true → is_plain_name count ≡ true
    → asked (program ∷ codes "tails" ∷ dir ∷ date ∷ count ∷ [])
    ≡ tails_at default_reading default_rotations (dates_at (date_read date) (count_read count) (Some 0)) dir

-- due DIR DATE COUNT
abbrev pub DuePlainly : Type 0
DuePlainly = (program dir date count : Text) → is_plain_name dir ≡ true → is_plain_name date ≡ true → is_plain_name count ≡ true
    → asked (program ∷ codes "due" ∷ dir ∷ date ∷ count ∷ [])
    ≡ due_at default_reading default_rotations (dates_at (date_read date) (count_read count) (Some 0)) dir

-- make DIR NUMBER LEGS
abbrev pub MakesPlainly : Type 0
MakesPlainly = (program dir number legs : Text) → is_plain_name dir ≡ true → is_plain_name number ≡ true → is_plain_name legs ≡ true
    → asked (program ∷ codes "make" ∷ dir ∷ number ∷ legs ∷ []) ≡ make_at (made_number_read number) (legs_read legs) dir

-- whatif DIR FLEET COUNT
abbrev pub AsksPlainly : Type 0
AsksPlainly = (program dir fleet count : Text) → is_plain_name dir ≡ true → is_plain_name fleet ≡ true → is_plain_name count ≡ true
    → asked (program ∷ codes "whatif" ∷ dir ∷ fleet ∷ count ∷ []) ≡ whatif_at default_reading (Some fleet) (aircraft_read count) dir

-- ---- words behind `--`

-- judge [--windows] [--optional] -- DIR
abbrev pub JudgesByDefault : Type 0
JudgesByDefault = (program dir : Text) (windows optional : Bool) → asked (program ∷ codes "judge" ∷ (flag_words windows optional ++ codes "--" ∷ dir ∷ []))
    ≡ judge_at (reading_at default_settings windows optional) dir

-- judge --day-start=HH:MM --period=P [--windows] [--optional] -- DIR
abbrev pub JudgesFrom : Type 0
JudgesFrom = (program time period dir : Text) (windows optional : Bool)
    → asked (program ∷ codes "judge" ∷ (codes "--day-start=" ++ time) ∷ (codes "--period=" ++ period) ∷ (flag_words windows optional ++ codes "--" ∷ dir ∷ []))
    ≡ judge_at (reading_at (settings_from time period) windows optional) dir

-- solve [--windows] [--optional] -- DIR
abbrev pub SolvesByDefault : Type 0
SolvesByDefault = (program dir : Text) (windows optional : Bool) → asked (program ∷ codes "solve" ∷ (flag_words windows optional ++ codes "--" ∷ dir ∷ []))
    ≡ solve_at (reading_at default_settings windows optional) default_options dir

-- solve --day-start=HH:MM --period=P --through-max=M --least-night=MINUTES --days=D --visits=V --search=CHOICES --nodes=N --pivots=P --json [--windows] [--optional] -- DIR
abbrev pub SolvesWithin : Type 0
SolvesWithin = (program time period wait least days visits choices nodes pivots dir : Text) (windows optional : Bool)
    → asked (program ∷ codes "solve" ∷ (codes "--day-start=" ++ time) ∷ (codes "--period=" ++ period) ∷ (codes "--through-max=" ++ wait) ∷ (codes "--least-night=" ++ least) ∷ (codes "--days=" ++ days)
    ∷ (codes "--visits=" ++ visits) ∷ (codes "--search=" ++ choices) ∷ (codes "--nodes=" ++ nodes) ∷ (codes "--pivots=" ++ pivots) ∷ codes "--json" ∷ (flag_words windows optional ++ codes "--" ∷ dir ∷ []))
    ≡ solve_at (reading_at (settings_with time period wait least) windows optional)
    (options_at (way_read choices) (search_at (number_read 0 MAX_NODES nodes) (number_read 0 MAX_PIVOTS pivots) false) (rotations_with days visits) true) dir

-- solve --pivots=P --all-pivots -- DIR
abbrev pub SolvesWithoutBudget : Type 0
SolvesWithoutBudget = (program pivots dir : Text)
    → asked (program ∷ codes "solve" ∷ (codes "--pivots=" ++ pivots) ∷ codes "--all-pivots" ∷ codes "--" ∷ dir ∷ [])
    ≡ solve_at default_reading (options_at default_way (search_at (Some DEFAULT_NODES) (number_read 0 MAX_PIVOTS pivots) true) default_rotations false) dir

-- solve --search=CHOICES [--windows] [--optional] -- DIR
abbrev pub SolvesByWay : Type 0
SolvesByWay = (program choices dir : Text) (windows optional : Bool)
    → asked (program ∷ codes "solve" ∷ (codes "--search=" ++ choices) ∷ (flag_words windows optional ++ codes "--" ∷ dir ∷ []))
    ≡ solve_at (reading_at default_settings windows optional) (options_at (way_read choices) default_search default_rotations false) dir

-- solve --search free -- DIR: the way alone is another than by default
abbrev pub SolvesFreely : Type 0
SolvesFreely = (program dir : Text) → asked (program ∷ codes "solve" ∷ codes "--search" ∷ codes "free" ∷ codes "--" ∷ dir ∷ [])
    ≡ solve_at default_reading (Some (record DEFAULT_OPTIONS { way = way.Free })) dir

-- check [--windows] [--optional] -- DIR
abbrev pub ChecksByDefault : Type 0
ChecksByDefault = (program dir : Text) (windows optional : Bool) → asked (program ∷ codes "check" ∷ (flag_words windows optional ++ codes "--" ∷ dir ∷ []))
    ≡ check_at (reading_at default_settings windows optional) dir

-- check --day-start=HH:MM --period=P [--windows] [--optional] -- DIR
abbrev pub ChecksFrom : Type 0
ChecksFrom = (program time period dir : Text) (windows optional : Bool)
    → asked (program ∷ codes "check" ∷ (codes "--day-start=" ++ time) ∷ (codes "--period=" ++ period) ∷ (flag_words windows optional ++ codes "--" ∷ dir ∷ []))
    ≡ check_at (reading_at (settings_from time period) windows optional) dir

-- tails [--windows] [--optional] -- DIR DATE COUNT
abbrev pub TailsByDefault : Type 0
TailsByDefault = (program dir date count : Text) (windows optional : Bool)
    → asked (program ∷ codes "tails" ∷ (flag_words windows optional ++ codes "--" ∷ dir ∷ date ∷ count ∷ []))
    ≡ tails_at (reading_at default_settings windows optional) default_rotations (dates_at (date_read date) (count_read count) (Some 0)) dir

-- tails --day-start=HH:MM --period=P --through-max=M --least-night=MINUTES --days=D --visits=V --first-day=FIRST [--windows] [--optional] -- DIR DATE COUNT
abbrev pub TailsWithin : Type 0
TailsWithin = (program time period wait least days visits first dir date count : Text) (windows optional : Bool)
    → asked (program ∷ codes "tails" ∷ (codes "--day-start=" ++ time) ∷ (codes "--period=" ++ period) ∷ (codes "--through-max=" ++ wait) ∷ (codes "--least-night=" ++ least) ∷ (codes "--days=" ++ days)
    ∷ (codes "--visits=" ++ visits) ∷ (codes "--first-day=" ++ first) ∷ (flag_words windows optional ++ codes "--" ∷ dir ∷ date ∷ count ∷ []))
    ≡ tails_at (reading_at (settings_with time period wait least) windows optional) (rotations_with days visits) (dates_at (date_read date) (count_read count) (past_from first (date_read date))) dir

-- due [--windows] [--optional] -- DIR DATE COUNT
abbrev pub DueByDefault : Type 0
DueByDefault = (program dir date count : Text) (windows optional : Bool)
    → asked (program ∷ codes "due" ∷ (flag_words windows optional ++ codes "--" ∷ dir ∷ date ∷ count ∷ []))
    ≡ due_at (reading_at default_settings windows optional) default_rotations (dates_at (date_read date) (count_read count) (Some 0)) dir

-- due --day-start=HH:MM --period=P --through-max=M --least-night=MINUTES --days=D --visits=V --first-day=FIRST [--windows] [--optional] -- DIR DATE COUNT
abbrev pub DueWithin : Type 0
DueWithin = (program time period wait least days visits first dir date count : Text) (windows optional : Bool)
    → asked (program ∷ codes "due" ∷ (codes "--day-start=" ++ time) ∷ (codes "--period=" ++ period) ∷ (codes "--through-max=" ++ wait) ∷ (codes "--least-night=" ++ least) ∷ (codes "--days=" ++ days)
    ∷ (codes "--visits=" ++ visits) ∷ (codes "--first-day=" ++ first) ∷ (flag_words windows optional ++ codes "--" ∷ dir ∷ date ∷ count ∷ []))
    ≡ due_at (reading_at (settings_with time period wait least) windows optional) (rotations_with days visits) (dates_at (date_read date) (count_read count) (past_from first (date_read date))) dir

-- make -- DIR NUMBER LEGS
abbrev pub MakesByDefault : Type 0
MakesByDefault = (program dir number legs : Text) → asked (program ∷ codes "make" ∷ codes "--" ∷ dir ∷ number ∷ legs ∷ [])
    ≡ make_at (made_number_read number) (legs_read legs) dir

-- whatif [--windows] [--optional] -- DIR FLEET COUNT
abbrev pub AsksByDefault : Type 0
AsksByDefault = (program dir fleet count : Text) (windows optional : Bool)
    → asked (program ∷ codes "whatif" ∷ (flag_words windows optional ++ codes "--" ∷ dir ∷ fleet ∷ count ∷ []))
    ≡ whatif_at (reading_at default_settings windows optional) (Some fleet) (aircraft_read count) dir

-- whatif --day-start=HH:MM --period=P [--windows] [--optional] -- DIR FLEET COUNT
abbrev pub AsksFrom : Type 0
AsksFrom = (program time period dir fleet count : Text) (windows optional : Bool)
    → asked (program ∷ codes "whatif" ∷ (codes "--day-start=" ++ time) ∷ (codes "--period=" ++ period) ∷ (flag_words windows optional ++ codes "--" ∷ dir ∷ fleet ∷ count ∷ []))
    ≡ whatif_at (reading_at (settings_from time period) windows optional) (Some fleet) (aircraft_read count) dir

-- make takes none of the other commands' options: --day-start=HH:MM, --period=P, --through-max=M, --least-night=MINUTES, --days=D, --visits=V, --first-day=FIRST, --search=CHOICES, --nodes=N, --pivots=P, and
-- none of their flags: --windows, --optional, --all-pivots, --json
abbrev pub MakesWithoutOption : Text → Type 0
MakesWithoutOption option = (program text dir number legs : Text)
    → asked (program ∷ codes "make" ∷ (option ++ text) ∷ codes "--" ∷ dir ∷ number ∷ legs ∷ []) ≡ None

abbrev pub MakesWithoutFlag : Text → Type 0
MakesWithoutFlag flag = (program dir number legs : Text) → asked (program ∷ codes "make" ∷ flag ∷ codes "--" ∷ dir ∷ number ∷ legs ∷ []) ≡ None

pub record MakesWithoutOptions : Type 0 where
  pub day_start : MakesWithoutOption (codes "--day-start=")
  pub period : MakesWithoutOption (codes "--period=")
  pub through_max : MakesWithoutOption (codes "--through-max=")
  pub least_night : MakesWithoutOption (codes "--least-night=")
  pub days : MakesWithoutOption (codes "--days=")
  pub visits : MakesWithoutOption (codes "--visits=")
  pub first_day : MakesWithoutOption (codes "--first-day=")
  pub search : MakesWithoutOption (codes "--search=")
  pub nodes : MakesWithoutOption (codes "--nodes=")
  pub pivots : MakesWithoutOption (codes "--pivots=")
  pub windows : MakesWithoutFlag (codes "--windows")
  pub optional : MakesWithoutFlag (codes "--optional")
  pub all_pivots : MakesWithoutFlag (codes "--all-pivots")
  pub json : MakesWithoutFlag (codes "--json")
