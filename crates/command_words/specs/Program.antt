-- The program's command line, as clap's definition of a match reads it.
use Rattle.std.specs.Prelude.{◌≡◌, true, false, List, [], ◌∷◌, ◌++◌, Some, codes, fold}
use Rattle.clap.specs.Simple.{on_top}
use Rattle.clap.specs.Words.{App, Rule, Text, app_of, new_app, new_rule, rule_of, with_rule, with_subcommand}
use Rattle.clap.specs.declared.builder.action.ArgAction.TheVariants.{Set, SetTrue}
use Rattle.clap.specs.declared.builder.arg.Arg.{Arg}
use Rattle.clap.specs.declared.builder.command.Command.{Command}
use Rattle.clap.specs.declared.builder.command.Command.TheViews.{out-Command}
use Rattle.command_words.specs.declared.command_line.arguments.Argument.{Argument}
use Rattle.command_words.specs.declared.command_line.arguments.Argument.TheVariants as argument
use Rattle.command_words.specs.declared.command_line.commands.CommandRow.{CommandRow}

-- a word that has to be there
abbrev pub word_named : Text → Rule
word_named name = record (new_rule name) { action = Some Set; required = true }

-- `--NAME VALUE`, once at most
abbrev pub option_named : Text → Rule
option_named name = record (new_rule name) { long = Some name; action = Some Set }

-- `--NAME`, once at most
abbrev pub flag_named : Text → Rule
flag_named name = record (new_rule name) { long = Some name; action = Some SetTrue }

-- ---- what commands take

-- DIR
abbrev pub folder : List Rule
folder = word_named (codes "dir") ∷ []

-- [--day-start HH:MM] [--period P] [--windows] [--optional]
abbrev pub table_options : List Rule
table_options = option_named (codes "day-start") ∷ option_named (codes "period") ∷ flag_named (codes "windows") ∷ flag_named (codes "optional") ∷ []

-- [--through-max M] [--least-night MINUTES] [--days D] [--visits V]
abbrev pub rotation_options : List Rule
rotation_options = option_named (codes "through-max") ∷ option_named (codes "least-night") ∷ option_named (codes "days") ∷ option_named (codes "visits") ∷ []

-- [--search fixed|free] [--nodes N] [--pivots P] [--all-pivots] [--json]
abbrev pub search_options : List Rule
search_options = option_named (codes "search") ∷ option_named (codes "nodes") ∷ option_named (codes "pivots") ∷ flag_named (codes "all-pivots") ∷ flag_named (codes "json") ∷ []

-- DATE COUNT [--first-day FIRST]
abbrev pub dates : List Rule
dates = word_named (codes "date") ∷ word_named (codes "count") ∷ option_named (codes "first-day") ∷ []

-- NUMBER LEGS
abbrev pub made_rules : List Rule
made_rules = word_named (codes "number") ∷ word_named (codes "legs") ∷ []

-- FLEET COUNT
abbrev pub other_size : List Rule
other_size = word_named (codes "fleet") ∷ word_named (codes "count") ∷ []

-- ---- the commands

-- a command of this name that takes these
abbrev pub command_named : Text → List Rule → App
command_named name rules = fold with_rule (new_app name) rules

-- one that reads the tables of a folder, and takes these too
abbrev pub command_on_tables : Text → List Rule → App
command_on_tables name rules = command_named name (folder ++ table_options ++ rules)

abbrev pub judge_app : App
judge_app = command_on_tables (codes "judge") []

abbrev pub solve_app : App
solve_app = command_on_tables (codes "solve") (rotation_options ++ search_options)

abbrev pub check_app : App
check_app = command_on_tables (codes "check") []

abbrev pub tails_app : App
tails_app = command_on_tables (codes "tails") (dates ++ rotation_options)

abbrev pub due_app : App
due_app = command_on_tables (codes "due") (dates ++ rotation_options)

abbrev pub make_app : App
make_app = command_named (codes "make") (folder ++ made_rules)

abbrev pub whatif_app : App
whatif_app = command_on_tables (codes "whatif") other_size

-- a program that does nothing without a command
abbrev pub bare_app : App
bare_app = on_top (λ shape. record shape { subcommand_required = true }) (new_app (codes "fleetplan"))

-- a program with one more command
abbrev pub with_command : App → App → App
with_command program command = with_subcommand program command.top

-- fleetplan COMMAND
unfoldable pub our_app : App
our_app = fold with_command bare_app (judge_app ∷ solve_app ∷ check_app ∷ tails_app ∷ due_app ∷ make_app ∷ whatif_app ∷ [])

-- ---- the code's parts

-- an argument of the code
abbrev pub rule_by : Argument → Rule
rule_by (argument.Word name) = word_named name.now
rule_by (argument.Option name) = option_named name.now
rule_by (argument.Flag name) = flag_named name.now

-- a command with one more of them
abbrev pub with_argument : App → Argument → App
with_argument app a = with_rule app (rule_by a)

-- with a group of them
abbrev pub with_group : App → List Argument → App
with_group app arguments = fold with_argument app arguments

-- a command of the code
abbrev pub app_by : CommandRow → App
app_by row = fold (λ app group. with_group app group.now) (new_app row.name.now) row.groups.now

-- a program with one more of them
abbrev pub with_row : App → CommandRow → App
with_row app row = with_command app (app_by row)

-- the command is read as this one, and none of its arguments holds for other commands too
pub record Builds (app : App) (command : Command) : Type 0 where
  pub shape : app_of command ≡ app
  pub local : (out-Command command).has_globals ≡ false

-- the same with these arguments too
pub record BuildsArguments (old : Command) (arguments : List Argument) (new : Command) : Type 0 where
  pub shape : app_of new ≡ with_group (app_of old) arguments
  pub globals : (out-Command new).has_globals ≡ (out-Command old).has_globals

-- the same with these commands too
pub record BuildsCommands (old : Command) (commands : List CommandRow) (new : Command) : Type 0 where
  pub shape : app_of new ≡ fold with_row (app_of old) commands

-- the argument is read by this rule, and holds for its command alone
pub record IsRule (rule : Rule) (argument : Arg) : Type 0 where
  pub rule_fits : rule_of argument ≡ rule
  pub local : argument.global ≡ false
