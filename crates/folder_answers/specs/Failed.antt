-- A run that has no answer.
use Rattle.std.specs.Prelude.{◌≡◌, Result, Ok, Err, ⊤}
use Rattle.fleet_model.specs.declared.refusals.TheConstants.{TOO_LONG}
use Rattle.folder_answers.specs.Refusals.{says}
use Rattle.folder_answers.specs.Texts.{bad_input_text}
use Rattle.folder_answers.specs.declared.answer.Answer.{Answer}
use Rattle.folder_answers.specs.declared.answer.Failure.{Failure}
use Rattle.folder_answers.specs.declared.answer.Failure.TheVariants as failure
use Rattle.folder_answers.specs.declared.gathering.Stop.{Stop}
use Rattle.folder_answers.specs.declared.gathering.Stop.TheVariants as stop
use Rattle.folder_answers.specs.declared.status.TheConstants.{BAD_INPUT}

-- a fact for each way to end
abbrev pub MatchFailure : {T : Type 0} → Result T Failure → (T → Type 0) → Type 0 → Type 0 → Type 0
MatchFailure (Ok x) done fault memory = done x
MatchFailure (Err failure.Fault) done fault memory = fault
MatchFailure (Err failure.NoMemory) done fault memory = memory

-- what a run answers where reading stopped
abbrev pub StopsAs : Stop → Result Answer Failure → Type 0
StopsAs stop.Fault result = result ≡ Err failure.Fault
StopsAs stop.NoMemory result = result ≡ Err failure.NoMemory
StopsAs (stop.TooLong file) result = MatchFailure result (λ answer. answer ≡ says BAD_INPUT (bad_input_text file 0 TOO_LONG)) ⊥ ⊤
