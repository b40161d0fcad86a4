-- What the first files of a command come to, before a file is read that they ask for.
use Rattle.std.specs.Prelude.{ℕ, List, Option, true}
use Rattle.command_words.specs.Words.{Asked}
use Rattle.plan_desk.specs.declared.file.DeskFile.{DeskFile}
use Rattle.plan_desk.specs.declared.file.DeskFile.TheVariants as file
use Rattle.fleet_cli.specs.Answer.{AnswersOf}
use Rattle.fleet_cli.specs.Reading.{IsReadAfter}
use Rattle.folder_answers.specs.Commands.{TellsProof}
use Rattle.folder_answers.specs.Contents.{FileBytes, with_plan}
use Rattle.folder_answers.specs.Opened.{IsReady}
use Rattle.folder_answers.specs.declared.answer.Answer.{Answer}
use Rattle.folder_answers.specs.declared.opened.Checking.{Checking}
use Rattle.folder_answers.specs.declared.opened.Opened.{Opened}
use Rattle.folder_answers.specs.declared.opened.Opened.TheVariants as opened

-- no further file is asked for, and this is the answer
pub record AnswersAtOnce (asked : Option Asked) (bytes : FileBytes) (answer : Answer) : Type 0 where
  pub no_more : (f : DeskFile) → ¬ (IsReadAfter asked bytes f)
  pub answers : AnswersOf asked bytes answer

-- the plan is asked for, and what is told with it is the answer
pub record Awaits (asked : Option Asked) (bytes : FileBytes) (checking : Checking) : Type 0 where
  pub wanted : IsReadAfter asked bytes file.Plan
  pub ready : IsReady checking
  pub answers : (plan : List ℕ) (answer : Answer) → TellsProof checking.tables checking.asks true checking.proof.tree plan answer → AnswersOf asked (with_plan bytes plan) answer

-- what the first files come to
abbrev pub IsOpened : Option Asked → FileBytes → Opened → Type 0
IsOpened asked bytes (opened.Answered answer) = AnswersAtOnce asked bytes answer
IsOpened asked bytes (opened.WantsPlan checking) = Awaits asked bytes checking
