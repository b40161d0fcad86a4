-- The files of made tables.
use Rattle.std.specs.Prelude.{List, [], ◌∷◌, ◌++◌}
use Rattle.plan_desk.specs.declared.file.DeskFile.TheVariants as file
use Rattle.table_maker.specs.declared.made.MadeTables.{MadeTables}
use Rattle.folder_answers.specs.declared.answer.Answer.{Answer}
use Rattle.folder_answers.specs.declared.answer.FileText.{FileText}

-- the five files, in the order in which they are loaded
unfoldable pub made_files : MadeTables → List FileText
made_files made =
    record { file = file.Stations; bytes = made.stations }
    ∷ record { file = file.Fleets; bytes = made.fleets }
    ∷ record { file = file.Legs; bytes = made.legs }
    ∷ record { file = file.Costs; bytes = made.costs }
    ∷ record { file = file.Throughs; bytes = made.throughs }
    ∷ []

-- the same answer, with these files before its own
abbrev pub after_files : List FileText → Answer → Answer
after_files texts answer = record { status = answer.status; text = answer.text; files = texts ++ answer.files }
