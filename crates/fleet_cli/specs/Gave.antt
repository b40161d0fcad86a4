-- What is true of giving any answer, by what desk and sink told before it and after it.
use Rattle.std.specs.Prelude.{◌≡◌, ◌≢◌, ◌⊎◌, ℕ, List, length}
use Rattle.plan_desk.specs.Counts.{CallsAtMost, counted, once_more}
use Rattle.plan_desk.specs.Sink.{AppendsPrefix, handed_with, output_with}
use Rattle.fleet_cli.specs.Ran.{Told}
use Rattle.fleet_cli.specs.Run.{CountsOneFault, IsAnswered, PutsFault}
use Rattle.folder_answers.specs.Written.{HaveLengths, StandsAfter, WriteFails, WritesFirst, held_with_texts}
use Rattle.folder_answers.specs.declared.answer.Answer.{Answer}
use Rattle.folder_answers.specs.declared.status.Status.{Status}
use Rattle.folder_answers.specs.declared.status.TheConstants.{FAULT, NO_MEMORY}

-- The clauses of giving an answer in one: of a run that ended with a status, over a desk and a sink that may be steady, its
-- files go into a folder.
pub record Gave (steady_desk steady_sink : Type 0) (dir : List ℕ) (answer : Answer) (ended : Status) (before after : Told) : Type 0 where
  pub status : IsAnswered ended.code (ended ≡ answer.status)
  pub written : IsAnswered ended.code (after.holds ≡ held_with_texts before.holds dir answer.files)
  pub lengths : IsAnswered ended.code (HaveLengths answer.files)
  pub stands : StandsAfter dir answer.files before.holds after.holds
  pub put : IsAnswered ended.code (after.output ≡ output_with before.output answer.text)
  pub handed : IsAnswered ended.code (after.handed ≡ handed_with before.handed answer.text)
  pub stopped_by_fault :
      ended.code ≡ FAULT
      → (after.desk_faults ≡ counted before.desk_faults 1) × PutsFault after.blamed before.output after.output before.handed after.handed × WriteFails dir answer.files before.holds after.holds after.blamed
      ⊎ (after.desk_faults ≡ before.desk_faults) × (after.holds ≡ held_with_texts before.holds dir answer.files) × AppendsPrefix answer.text before.output after.output × (after.handed ≡ handed_with before.handed answer.text)
  pub stopped_by_memory : ended.code ≡ NO_MEMORY → WritesFirst dir answer.files before.holds after.holds
  pub nothing_put : ended.code ≡ NO_MEMORY → after.output ≡ before.output
  pub one_fault : ended.code ≡ FAULT → CountsOneFault before.desk_faults after.desk_faults before.sink_faults after.sink_faults
  pub quiet_desk : ended.code ≢ FAULT → after.desk_faults ≡ before.desk_faults
  pub quiet_sink : ended.code ≢ FAULT → after.sink_faults ≡ before.sink_faults
  pub taken : after.taken ≡ before.taken
  pub calls : CallsAtMost (length answer.files) before.calls after.calls
  pub steady : steady_desk → steady_sink → ended.code ≢ FAULT
  pub one_put : ended.code ≢ NO_MEMORY → after.puts ≡ once_more before.puts
  pub one_put_at_most : (after.puts ≡ before.puts) ⊎ (after.puts ≡ once_more before.puts)
