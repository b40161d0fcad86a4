-- What is always so of answers.
use Rattle.std.specs.Prelude.{◌≡◌, ◌≢◌, Option, Some, None, ⊤}
use Rattle.plan_desk.specs.Desk.{Files}
use Rattle.fleet_cli.specs.Answer.{Answers}
use Rattle.command_words.specs.Words.{Asked, check, due, judge, make, solve, tails, whatif}
use Rattle.folder_answers.specs.declared.answer.Answer.{Answer}
use Rattle.folder_answers.specs.declared.status.TheConstants.{BAD_INPUT, DONE, UNPLACED}

-- an answer that what is held and what is asked leave no choice of
abbrev pub IsFixed : Option Asked → Answer → Type 0
IsFixed None answer = ⊤
IsFixed (Some (judge dir reading)) answer = ⊤
IsFixed (Some (solve dir reading options)) answer = answer.status.code ≡ BAD_INPUT
IsFixed (Some (check dir reading)) answer = ⊤
IsFixed (Some (tails dir reading limits dates)) answer = answer.status.code ≢ DONE
IsFixed (Some (due dir reading limits dates)) answer = (answer.status.code ≢ DONE) × (answer.status.code ≢ UNPLACED)
IsFixed (Some (make dir number legs)) answer = ⊥
IsFixed (Some (whatif dir reading name count)) answer = ⊤

-- what is held and what is asked fix the answer
abbrev pub OneAnswer : Type 0
OneAnswer = (held : Files) (asked : Option Asked) (answer other : Answer) → Answers held asked answer → Answers held asked other → IsFixed asked other → answer ≡ other
