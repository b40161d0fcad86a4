-- Calls that a refusal ends, which is an answer too.
use Rattle.std.specs.Prelude.{Result, Ok, Err, ⊤}
use Rattle.folder_answers.specs.declared.answer.Answer.{Answer}
use Rattle.folder_answers.specs.declared.halting.Halt.{Halt}
use Rattle.folder_answers.specs.declared.halting.Halt.TheVariants as halt

-- a fact of the refusal, where there was memory for it
abbrev pub WhereRefused : Halt → (Answer → Type 0) → Type 0
WhereRefused (halt.Refused answer) refused = refused answer
WhereRefused halt.NoMemory refused = ⊤

-- a fact of what the call comes to, and one of its refusal
abbrev pub MatchHalt : {T : Type 0} → Result T Halt → (T → Type 0) → (Answer → Type 0) → Type 0
MatchHalt (Ok x) done refused = done x
MatchHalt (Err why) done refused = WhereRefused why refused

-- a fact of the answer, be it a refusal or not
abbrev pub EitherWay : Result Answer Halt → (Answer → Type 0) → Type 0
EitherWay result answers = MatchHalt result answers answers
