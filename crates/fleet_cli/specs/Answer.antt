-- The program's answer to its words, by what files hold. One case for each command.
use Rattle.std.specs.Prelude.{◌≡◌, ◌⊎◌, ℕ, List, Option, Some, None}
use Rattle.dual_bound.specs.declared.solved.Solved.{Solved}
use Rattle.command_words.specs.Words.{Asked, check, due, judge, make, solve, tails, whatif}
use Rattle.command_words.specs.declared.command.SolveOptions.{SolveOptions}
use Rattle.command_words.specs.declared.command.TheConstants.{DEFAULT_OPTIONS, DEFAULT_READING}
use Rattle.fleet_model.specs.declared.options.TableOptions.{TableOptions}
use Rattle.fleet_model.specs.declared.tables.Tables.{Tables}
use Rattle.euler_rotation.specs.declared.fleet_rotation.FleetRotation.{FleetRotation}
use Rattle.plan_desk.specs.Desk.{Files}
use Rattle.plan_desk.specs.declared.file.DeskFile.TheVariants as file
use Rattle.fleet_cli.specs.plan_search.SolvedBy.{IsSolvedBy}
use Rattle.sched_read.specs.Files.{AllBytes}
use Rattle.table_maker.specs.Laws.{made_bytes}
use Rattle.table_maker.specs.Made.{CanBeMade, made_tables}
use Rattle.folder_answers.specs.Commands.{Asks, Checks, DueOf, Judges, TailsOf}
use Rattle.folder_answers.specs.Contents.{FileBytes, bytes_in, five_alone, table_bytes}
use Rattle.folder_answers.specs.Gathered.{CalledTooLong}
use Rattle.folder_answers.specs.Making.{after_files, made_files}
use Rattle.fleet_cli.specs.Reading.{AllWithin, IsRead, IsTooLong, folder_of}
use Rattle.folder_answers.specs.Refusals.{RefusesLength, says}
use Rattle.folder_answers.specs.Skeletons.{OnTables, TablesRead}
use Rattle.folder_answers.specs.Solution.{AreRotationsOf, solved_answer}
use Rattle.folder_answers.specs.Texts.{usage_text}
use Rattle.folder_answers.specs.declared.answer.Answer.{Answer}
use Rattle.folder_answers.specs.declared.status.TheConstants.{USAGE}

-- ---- solving

-- a solution of the tables is given, found in the way that is asked for and within the limits of the search, with rotations of
-- its plan; where all pivots are allowed, no leaf of its tree is open for pivots
pub record GivesSolution (options : SolveOptions) (t : Tables) (answer : Answer) : Type 0 where
  pub solution : Solved
  pub shown : Tables
  pub rotations : List FleetRotation
  pub solves : IsSolvedBy t options.way options.search solution
  pub rotates : AreRotationsOf t options.rotations solution shown rotations
  pub is : answer ≡ solved_answer t shown options solution rotations

-- solving by the bytes of the tables
abbrev pub Solves : TableOptions → SolveOptions → AllBytes → Answer → Type 0
Solves reading options bytes = OnTables reading bytes (GivesSolution options)

-- ---- making

-- The tables of a number and of so many legs are made, and read. They are solved by the defaults, and written before what
-- solving writes.
pub record Makes (number legs : ℕ) (answer : Answer) : Type 0 where
  pub solving : Answer
  pub can : CanBeMade number legs
  pub solves : TablesRead DEFAULT_READING (five_alone (made_bytes (made_tables number legs))) (GivesSolution DEFAULT_OPTIONS) solving
  pub is : answer ≡ after_files (made_files (made_tables number legs)) solving

-- ---- what the program answers

-- The answer to what words ask, where the files that are read hold these bytes, none too long.
abbrev pub AnswersOf : Option Asked → FileBytes → Answer → Type 0
AnswersOf None bytes answer = answer ≡ says USAGE usage_text
AnswersOf (Some (judge dir reading)) bytes answer = Judges reading (table_bytes bytes) (bytes file.Plan) answer
AnswersOf (Some (solve dir reading options)) bytes answer = Solves reading options (table_bytes bytes) answer
AnswersOf (Some (check dir reading)) bytes answer = Checks reading (table_bytes bytes) (bytes file.Proof) (bytes file.Plan) answer
AnswersOf (Some (tails dir reading limits dates)) bytes answer = TailsOf reading limits dates (table_bytes bytes) (bytes file.Plan) answer
AnswersOf (Some (due dir reading limits dates)) bytes answer = DueOf reading limits dates (table_bytes bytes) (bytes file.Tails) (bytes file.Plan) answer
AnswersOf (Some (make dir number legs)) bytes answer = Makes number legs answer
AnswersOf (Some (whatif dir reading name count)) bytes answer = Asks reading name count (table_bytes bytes) (bytes file.Proof) (bytes file.Plan) answer

-- all files that are read are within their limits, and the answer is by what they hold
pub record AnswersRead (held : Files) (asked : Option Asked) (answer : Answer) : Type 0 where
  pub within : AllWithin asked held
  pub answers : AnswersOf asked (bytes_in held (folder_of asked)) answer

-- what the program answers where files are held
abbrev pub Answers : Files → Option Asked → Answer → Type 0
Answers held asked answer = RefusesLength (IsTooLong asked held) answer ⊎ AnswersRead held asked answer

-- What the program answers where it isn't known what is held: the answer is right of some contents, or a file that may be
-- read, and not the proof, is called too long, where this holds.
abbrev pub AnswersSome : Type 0 → Option Asked → Answer → Type 0
AnswersSome longer asked answer = RefusesLength (CalledTooLong longer (IsRead asked)) answer ⊎ ((bytes : FileBytes) × AnswersOf asked bytes answer)
