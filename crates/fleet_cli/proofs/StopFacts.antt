-- What is answered where reading stops.
use Rattle.std.proofs.Common.{◌≡◌, Bool, true, false, [], Option, Some, None, IfSome, IsSome, IsSomeAnd, IfOk, Result, Ok, Err, inl, inr, subst}
use Rattle.std.specs.Prelude.{⊤}
use Rattle.plan_desk.specs.Desk.{Files}
use Rattle.plan_desk.specs.declared.file.DeskFile.{DeskFile}
use Rattle.command_words.specs.Words.{Asked}
use Rattle.fleet_cli.specs.Answer.{Answers, AnswersSome}
use Rattle.folder_answers.specs.Refusals.{says}
use Rattle.folder_answers.specs.Failed.{MatchFailure, StopsAs}
use Rattle.folder_answers.specs.Gathered.{CalledTooLong, MatchStop, ReadFails}
use Rattle.fleet_cli.specs.Reading.{IsMissing, IsRead, IsTooLong, NamesStand}
use Rattle.folder_answers.specs.Texts.{usage_text}
use Rattle.folder_answers.specs.declared.answer.Answer.{Answer}
use Rattle.folder_answers.specs.declared.answer.Failure.{Failure}
use Rattle.folder_answers.specs.declared.answer.Failure.TheVariants as failure
use Rattle.folder_answers.specs.declared.gathering.Stop.{Stop}
use Rattle.folder_answers.specs.declared.gathering.Stop.TheVariants as stop
use Rattle.folder_answers.specs.declared.status.TheConstants.{USAGE}

-- ---- what is answered where reading stopped

module _ (T : Type 0) (asked : Option Asked) (why : Stop) (r : Result Answer Failure) (stops : StopsAs why r) where
  pub told_stopped : (told : Option Files) → IfSome told (λ held. MatchStop {T = T} (Err why) (λ _. ⊤) ⊤ (IsTooLong asked held) ⊤) → IfSome told (λ held. IfOk r (Answers held asked))
  told_stopped None long = tt
  told_stopped (Some held) long = by_stop why r stops long
    where
      by_stop : (why : Stop) (r : Result Answer Failure) → StopsAs why r → MatchStop {T = T} (Err why) (λ _. ⊤) ⊤ (IsTooLong asked held) ⊤ → IfOk r (Answers held asked)
      by_stop stop.Fault r is long = rw is tt
      by_stop stop.NoMemory r is long = rw is tt
      by_stop (stop.TooLong f) (Ok answer) is long = inl (record { file = f; longer = long; is = is })
      by_stop (stop.TooLong f) (Err e) is long = tt

  pub some_stopped : (longer : Type 0) → MatchStop {T = T} (Err why) (λ _. ⊤) ⊤ (CalledTooLong longer (IsRead asked)) ⊤ → IfOk r (AnswersSome longer asked)
  some_stopped longer long = by_stop why r stops long
    where
      by_stop : (why : Stop) (r : Result Answer Failure) → StopsAs why r → MatchStop {T = T} (Err why) (λ _. ⊤) ⊤ (CalledTooLong longer (IsRead asked)) ⊤ → IfOk r (AnswersSome longer asked)
      by_stop stop.Fault r is long = rw is tt
      by_stop stop.NoMemory r is long = rw is tt
      by_stop (stop.TooLong f) (Ok answer) is long = inl (record { file = f; longer = long; is = is })
      by_stop (stop.TooLong f) (Err e) is long = tt

-- a fact of a fault, and one of every other end
pub stopped_as : (T : Type 0) (why : Stop) (r : Result Answer Failure) (P Q : Type 0) → StopsAs why r → MatchStop {T = T} (Err why) (λ _. P) Q (λ _. P) P → MatchFailure r (λ _. P) Q P
stopped_as T stop.Fault r P Q is fact = rw is fact
stopped_as T stop.NoMemory r P Q is fact = rw is fact
stopped_as T (stop.TooLong f) (Ok answer) P Q is fact = fact
stopped_as T (stop.TooLong f) (Err failure.Fault) P Q is fact = absurd is
stopped_as T (stop.TooLong f) (Err failure.NoMemory) P Q is fact = fact

-- there is no answer for want of memory
module _ (r : Result Answer Failure) (why : Failure) (is : r ≡ Err why) (lacks : why ≡ failure.NoMemory) where
  pub lacking_told : (told : Option Files) (asked : Option Asked) → IfSome told (λ held. IfOk r (Answers held asked))
  lacking_told None asked = tt
  lacking_told (Some held) asked = rw is tt

  pub lacking_some : (longer : Type 0) (asked : Option Asked) → IfOk r (AnswersSome longer asked)
  lacking_some longer asked = rw is tt

  pub lacking : (P Q R : Type 0) → R → MatchFailure r (λ _. P) Q R
  lacking P Q R fact = rw (is, lacks) fact

-- more bytes taken after some are more taken from before
pub some_sooner : (later sooner : Type 0) (asked : Option Asked) (r : Result Answer Failure) → (later → sooner) → IfOk r (AnswersSome later asked) → IfOk r (AnswersSome sooner asked)
some_sooner later sooner asked (Err e) weaker some = tt
some_sooner later sooner asked (Ok answer) weaker (inl long) = inl (record { file = long.file; longer = record { taken = weaker long.longer.taken; read = long.longer.read; not_proof = long.longer.not_proof }; is = long.is })
some_sooner later sooner asked (Ok answer) weaker (inr some) = inr some

-- a desk that was steady before is so after
pub fails_sooner : (before after : Type 0) (told : Option Files) (is_read : DeskFile → Type 0) (is_missing : Files → DeskFile → Type 0) (blamed : Option DeskFile) (r : Result Answer Failure) → (before → after)
    → MatchFailure r (λ _. ⊤) (ReadFails after told is_read is_missing blamed) ⊤ → MatchFailure r (λ _. ⊤) (ReadFails before told is_read is_missing blamed) ⊤
fails_sooner before after told is_read is_missing blamed (Ok answer) stays fails = tt
fails_sooner before after told is_read is_missing blamed (Err failure.Fault) stays fails = record { file = fails.file; blame = fails.blame; read = fails.read; missing = λ steady. fails.missing (stays steady) }
fails_sooner before after told is_read is_missing blamed (Err failure.NoMemory) stays fails = tt

-- a steady desk doesn't fail where each name that reading comes to stands there
pub none_fails : (told : Option Files) (asked : Option Asked) (steady : Type 0) (blamed : Option DeskFile) → ReadFails steady told (IsRead asked) (IsMissing asked) blamed → steady → IsSomeAnd told (NamesStand asked) → ⊥
none_fails None asked steady blamed reading s stand = stand
none_fails (Some held) asked steady blamed reading s stand =
    let gone = reading.missing s in
    let there : ◌≡◌ {A = Bool} false true = subst IsSome gone.missing (stand reading.file gone.reached) in
    let never : ⊥ = cc in never

-- where nothing is asked the usage line is right of any contents
pub usage_some : (longer : Type 0) (asked : Option Asked) (answer : Answer) → None ≡ asked → answer ≡ says USAGE usage_text → AnswersSome longer asked answer
usage_some longer asked answer none is = subst (λ a. AnswersSome longer a answer) none (inr ((λ f. []), is))
