-- What was read is what stands there, so an answer by it is the answer.
use Rattle.std.proofs.Common.{◌≡◌, ℕ, true, List, length, Option, Some, None, IfSome, sym, subst, inl, inr}
use Rattle.std.proofs.lemmas.Bool.{cases_Bool}
use Rattle.command_words.specs.Words.{Asked}
use Rattle.plan_desk.specs.Desk.{Files}
use Rattle.plan_desk.specs.declared.file.DeskFile.{DeskFile}
use Rattle.plan_desk.specs.declared.file.DeskFile.TheVariants as file
use Rattle.folder_answers.proofs.FileNames.{one_file}
use Rattle.folder_answers.proofs.FrontFacts.{front_in, held_in, stands_in}
use Rattle.fleet_cli.proofs.SameBytes.{follows_plan, same_answer, same_follows}
use Rattle.fleet_cli.specs.Answer.{Answers}
use Rattle.folder_answers.specs.Commands.{TellsProof}
use Rattle.folder_answers.specs.Contents.{FileBytes, bytes_in, same_file, with_plan}
use Rattle.folder_answers.specs.Gathered.{AllHeld, IsAmong, IsHeldWithin}
use Rattle.fleet_cli.specs.Opened.{Awaits, AnswersAtOnce}
use Rattle.fleet_cli.specs.Reading.{IsFileReached, first_files, folder_of}
use Rattle.folder_answers.specs.declared.answer.Answer.{Answer}
use Rattle.folder_answers.specs.declared.opened.Checking.{Checking}

module _ (held : Files) (asked : Option Asked) (bytes : FileBytes) (first : AllHeld held (folder_of asked) (first_files asked) bytes) where
  abbrev there : FileBytes
  there = bytes_in held (folder_of asked)

  agrees : (f : DeskFile) → IsAmong (first_files asked) f → bytes f ≡ there f
  agrees f among = subst (λ g. bytes g ≡ there g) (sym (among.is f)) (stands_in held (folder_of asked) _ _ (first.each among.place f among.within).stands)

  all_there : AllHeld held (folder_of asked) (first_files asked) there
  all_there = front_in held (folder_of asked) (first_files asked) (length (first_files asked)) bytes first

  -- no more files are asked for
  pub settled : (answer : Answer) → AnswersAtOnce asked bytes answer → Answers held asked answer
  settled answer x = inr (record {
    within = record { first = all_there; further = λ f follows. absurd (x.no_more f (same_follows asked there bytes (λ g among. sym (agrees g among)) f follows)) };
    answers = same_answer asked bytes there agrees (λ f follows. absurd (x.no_more f follows)) answer x.answers;
  })

  -- the plan is asked for
  module _ (checking : Checking) (awaits : Awaits asked bytes checking) where
    pub reached : IsFileReached asked held file.Plan
    reached = inr (all_there, same_follows asked bytes there agrees file.Plan awaits.wanted)

    module _ (plan : List ℕ) (is : IsHeldWithin held (folder_of asked) file.Plan plan) where
      plan_agrees : (f : DeskFile) → f ≡ file.Plan → plan ≡ there f
      plan_agrees f same = subst (λ g. plan ≡ there g) (sym same) (stands_in held (folder_of asked) file.Plan plan is.stands)

      with_agrees : (f : DeskFile) → IsAmong (first_files asked) f → with_plan bytes plan f ≡ there f
      with_agrees f among = elim (cases_Bool (same_file f file.Plan)) [
        | inl same ↦ rw same (plan_agrees f (one_file f file.Plan same))
        | inr differs ↦ rw differs (agrees f among)
      ]

      further : (f : DeskFile) → f ≡ file.Plan → with_plan bytes plan f ≡ there f
      further f same = subst (λ g. with_plan bytes plan g ≡ there g) (sym same) (stands_in held (folder_of asked) file.Plan plan is.stands)

      pub awaited : (answer : Answer) → TellsProof checking.tables checking.asks true checking.proof.tree plan answer → Answers held asked answer
      awaited answer checks = inr (record {
        within = record {
          first = all_there;
          further = λ f follows. subst (λ g. IsHeldWithin held (folder_of asked) g (there g)) (sym (follows_plan asked there f follows)) (held_in held (folder_of asked) file.Plan plan is);
        };
        answers = same_answer asked (with_plan bytes plan) there with_agrees (λ f follows. further f (follows_plan asked (with_plan bytes plan) f follows)) answer (awaits.answers plan answer checks);
      })

-- ---- the same of a desk that may not tell

module _ (told : Option Files) (asked : Option Asked) (bytes : FileBytes) (first : IfSome told (λ held. AllHeld held (folder_of asked) (first_files asked) bytes)) where
  pub told_settled : (answer : Answer) → AnswersAtOnce asked bytes answer → IfSome told (λ held. Answers held asked answer)
  told_settled answer x = by_told told first
    where
      by_told : (o : Option Files) → IfSome o (λ held. AllHeld held (folder_of asked) (first_files asked) bytes) → IfSome o (λ held. Answers held asked answer)
      by_told None f = tt
      by_told (Some held) f = settled held asked bytes f answer x

  module _ (checking : Checking) (awaits : Awaits asked bytes checking) where
    pub told_reached : IfSome told (λ held. IsFileReached asked held file.Plan)
    told_reached = by_told told first
      where
        by_told : (o : Option Files) → IfSome o (λ held. AllHeld held (folder_of asked) (first_files asked) bytes) → IfSome o (λ held. IsFileReached asked held file.Plan)
        by_told None f = tt
        by_told (Some held) f = reached held asked bytes f checking awaits

    pub told_awaited : (plan : List ℕ) (answer : Answer) → IfSome told (λ held. IsHeldWithin held (folder_of asked) file.Plan plan) → TellsProof checking.tables checking.asks true checking.proof.tree plan answer
        → IfSome told (λ held. Answers held asked answer)
    told_awaited plan answer is checks = by_told told first is
      where
        by_told : (o : Option Files) → IfSome o (λ held. AllHeld held (folder_of asked) (first_files asked) bytes) → IfSome o (λ held. IsHeldWithin held (folder_of asked) file.Plan plan) → IfSome o (λ held. Answers held asked answer)
        by_told None f i = tt
        by_told (Some held) f i = awaited held asked bytes f checking awaits plan i answer checks
