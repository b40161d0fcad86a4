-- What a run leaves, from the answer that was given and what came of giving it.
use Rattle.std.proofs.Common.{◌≡◌, ℕ, ◌+◌, List, Option, Some, None, IfSome, sym, ap, subst, ◌∙◌, inl, inr, arith}
use Rattle.command_words.specs.Words.{Asked}
use Rattle.plan_desk.specs.Counts.{RoseBy}
use Rattle.plan_desk.specs.Desk.{Files}
use Rattle.plan_desk.specs.Sink.{handed_with, output_with}
use Rattle.plan_desk.specs.declared.file.DeskFile.{DeskFile}
use Rattle.plan_desk.specs.declared.file.TheConstants.{TABLE_LIMIT}
use Rattle.fleet_cli.proofs.Others.{only_usage}
use Rattle.fleet_cli.specs.Answer.{Answers, AnswersSome}
use Rattle.folder_answers.specs.Refusals.{says}
use Rattle.folder_answers.specs.Gathered.{ReadFails}
use Rattle.fleet_cli.specs.Reading.{IsMissing, IsRead, folder_of}
use Rattle.fleet_cli.specs.Run.{AnswersInFull, BlamesMissing, CountsOneFault, SomeInFull}
use Rattle.folder_answers.specs.Texts.{usage_text}
use Rattle.folder_answers.specs.Written.{HaveLengths, StandsAfter, WriteFails, WritesFirst, held_with_texts}
use Rattle.folder_answers.specs.declared.answer.Answer.{Answer}
use Rattle.folder_answers.specs.declared.status.TheConstants.{FAULT, NO_MEMORY, USAGE}

-- ---- the statuses differ

pub fault_not_usage : FAULT ≡ USAGE → ⊥
fault_not_usage e = omega arith

pub fault_not_memory : FAULT ≡ NO_MEMORY → ⊥
fault_not_memory e = omega arith

pub memory_not_usage : NO_MEMORY ≡ USAGE → ⊥
memory_not_usage e = omega arith

-- ---- the answer was given in full

-- what an answer's files leave, by the folder that was asked about and what was held before they were read
module _ (asked : Option Asked) (answer : Answer) (told mid stands : Option Files) (dir : List ℕ) (folder : dir ≡ folder_of asked) (same : mid ≡ told) where
  pub written_there : stands ≡ held_with_texts mid dir answer.files → stands ≡ held_with_texts told (folder_of asked) answer.files
  written_there written = written ∙ ap (λ o. held_with_texts o dir answer.files) same ∙ ap (λ d. held_with_texts told d answer.files) folder

  pub stands_there : StandsAfter dir answer.files mid stands → StandsAfter (folder_of asked) answer.files told stands
  stands_there after = subst (λ d. StandsAfter d answer.files told stands) folder (subst (λ o. StandsAfter dir answer.files o stands) same after)

  pub first_there : WritesFirst dir answer.files mid stands → WritesFirst (folder_of asked) answer.files told stands
  first_there first = subst (λ d. WritesFirst d answer.files told stands) folder (subst (λ o. WritesFirst dir answer.files o stands) same first)

  pub fails_there : (blamed : Option DeskFile) → WriteFails dir answer.files mid stands blamed → WriteFails (folder_of asked) answer.files told stands blamed
  fails_there blamed fails = subst (λ d. WriteFails d answer.files told stands blamed) folder (subst (λ o. WriteFails dir answer.files o stands blamed) same fails)

pub in_full : (told stands : Option Files) (asked : Option Asked) (answer : Answer) (code : ℕ) (before after : Option (List ℕ)) → IfSome told (λ held. Answers held asked answer) → code ≡ answer.status.code
    → stands ≡ held_with_texts told (folder_of asked) answer.files → HaveLengths answer.files → after ≡ output_with before answer.text → IfSome told (λ held. AnswersInFull held asked code stands before after)
in_full None stands asked answer code before after answers is written lengths put = tt
in_full (Some held) stands asked answer code before after answers is written lengths put = record { answer = answer; answers = answers; code_is = is; written = written; lengths = lengths; put = put }

pub some_in_full : (first mid last : ℕ) (asked : Option Asked) (answer : Answer) (code : ℕ) (before after : Option (List ℕ)) (handed_before handed_after : Option ℕ) → last ≡ mid
    → AnswersSome (RoseBy (TABLE_LIMIT + 1) first mid) asked answer → code ≡ answer.status.code → after ≡ output_with before answer.text → handed_after ≡ handed_with handed_before answer.text
    → SomeInFull (RoseBy (TABLE_LIMIT + 1) first last) asked code before after handed_before handed_after
some_in_full first mid last asked answer code before after handed_before handed_after same answers is put handed =
    record { answer = answer; answers = subst (λ n. AnswersSome (RoseBy (TABLE_LIMIT + 1) first n) asked answer) (sym same) answers; code_is = is; put = put; handed = handed }

-- ---- usage

none_read : (f : DeskFile) → IsRead None f → ⊥
none_read f (inl among) = let within = among.within in omega arith
none_read f (inr follows) = follows.1

usage_alone : (longer : Type 0) (answer : Answer) → AnswersSome longer None answer → answer ≡ says USAGE usage_text
usage_alone longer answer (inl long) = absurd (none_read long.file long.longer.read)
usage_alone longer answer (inr some) = some.1

-- where nothing is asked the answer is the usage line
usage_answer : (longer : Type 0) (asked : Option Asked) (answer : Answer) → AnswersSome longer asked answer → asked ≡ None → answer ≡ says USAGE usage_text
usage_answer longer asked answer some none = usage_alone longer answer (subst (λ a. AnswersSome longer a answer) none some)

pub is_usage : (longer : Type 0) (asked : Option Asked) (answer : Answer) (code : ℕ) → AnswersSome longer asked answer → code ≡ answer.status.code → asked ≡ None → code ≡ USAGE
is_usage longer asked answer code some is none = is ∙ ap (λ (a : Answer). a.status.code) (usage_answer longer asked answer some none)

pub puts_usage : (longer : Type 0) (asked : Option Asked) (answer : Answer) (code : ℕ) (before after : Option (List ℕ)) → AnswersSome longer asked answer → code ≡ answer.status.code
    → after ≡ output_with before answer.text → code ≡ USAGE → after ≡ output_with before usage_text
puts_usage longer asked answer code before after some is put usage =
    put ∙ ap (λ (a : Answer). output_with before a.text) (usage_answer longer asked answer some (only_usage longer asked answer code some is usage))

-- a status of usage ends a run
pub usage_ends : (code : ℕ) → code ≡ USAGE → ¬ (code ≡ FAULT)
usage_ends code usage fault = fault_not_usage (sym fault ∙ usage)

pub usage_known : (code : ℕ) → code ≡ USAGE → ¬ (code ≡ NO_MEMORY)
usage_known code usage memory = memory_not_usage (sym memory ∙ usage)

-- ---- faults

-- where reading fails, a steady desk that tells blames the first missing file
pub blames_missing : (told : Option Files) (asked : Option Asked) (steady : Type 0) (blamed : Option DeskFile) → ReadFails steady told (IsRead asked) (IsMissing asked) blamed → steady
    → IfSome told (BlamesMissing asked blamed)
blames_missing told asked steady blamed fails is = by_told told (fails.missing is)
  where
    by_told : (o : Option Files) → IfSome o (λ held. IsMissing asked held fails.file) → IfSome o (BlamesMissing asked blamed)
    by_told None missing = tt
    by_told (Some held) missing = record { file = fails.file; blame = fails.blame; missing = missing }

-- faults counted from here on are counted from before
pub counts_from : (first mid last before after : ℕ) → mid ≡ first → CountsOneFault mid last before after → CountsOneFault first last before after
counts_from first mid last before after same counts = subst (λ n. CountsOneFault n last before after) same counts
