-- What making leaves is what solving leaves where the made tables stand.
use Rattle.std.specs.Prelude.{ℕ, List, Option, Some}
use Rattle.command_words.specs.Words.{make, solve}
use Rattle.command_words.specs.declared.command.TheConstants.{DEFAULT_OPTIONS, DEFAULT_READING}
use Rattle.plan_desk.specs.Desk.{Files}
use Rattle.table_maker.specs.Made.{made_tables}
use Rattle.folder_answers.specs.Making.{made_files}
use Rattle.fleet_cli.specs.Run.{AnswersInFull}
use Rattle.folder_answers.specs.Written.{with_texts}

-- a run that makes tables is a run that solves them by the defaults, where they stand in the folder before
abbrev pub MadeIsSolved : Type 0
MadeIsSolved = (held : Files) (dir : List ℕ) (number legs code : ℕ) (stands : Option Files) (before after : Option (List ℕ))
    → AnswersInFull held (Some (make dir number legs)) code stands before after
    → AnswersInFull (with_texts held dir (made_files (made_tables number legs))) (Some (solve dir DEFAULT_READING DEFAULT_OPTIONS)) code stands before after
