-- What is true of any run, by what desk and sink told before it and after it.
use Rattle.std.specs.Prelude.{◌≡◌, ◌≢◌, ◌⊎◌, ◌+◌, ℕ, List, Option, None, IfSome, IsSomeAnd}
use Rattle.command_words.specs.Words.{Asked}
use Rattle.plan_desk.specs.Counts.{CallsAtMost, RoseBy, counted, once_more}
use Rattle.plan_desk.specs.Desk.{Files}
use Rattle.plan_desk.specs.Sink.{output_with}
use Rattle.plan_desk.specs.declared.file.DeskFile.{DeskFile}
use Rattle.plan_desk.specs.declared.file.TheConstants.{TABLE_LIMIT}
use Rattle.fleet_cli.specs.Headline.{Headline}
use Rattle.fleet_cli.specs.Reading.{NamesStand, most_calls}
use Rattle.fleet_cli.specs.Run.{AnswersExactly, AnswersInFull, BlamesMissing, CountsOneFault, FailsAt, IsAnswered, IsComplete, IsRefusalStatus, KeepsOthers, LeavesFiles, PutsFault, PutsPart, SomeInFull}
use Rattle.folder_answers.specs.Texts.{usage_text}
use Rattle.folder_answers.specs.declared.status.TheConstants.{FAULT, NO_MEMORY, USAGE}

-- what desk and sink tell at one time
pub record Told : Type 0 where
  pub holds : Option Files
  pub blamed : Option DeskFile
  pub desk_faults : ℕ
  pub taken : ℕ
  pub calls : Option ℕ
  pub output : Option (List ℕ)
  pub puts : Option ℕ
  pub handed : Option ℕ
  pub sink_faults : ℕ

abbrev pub telling : Option Files → Option DeskFile → ℕ → ℕ → Option ℕ → Option (List ℕ) → Option ℕ → Option ℕ → ℕ → Told
telling holds blamed desk_faults taken calls output puts handed sink_faults = record {
  holds = holds;
  blamed = blamed;
  desk_faults = desk_faults;
  taken = taken;
  calls = calls;
  output = output;
  puts = puts;
  handed = handed;
  sink_faults = sink_faults;
}

-- The clauses of `run` in one, by their names: of a run that was asked for something and ended with a status, over a desk
-- and a sink that may be steady.
pub record Ran (steady_desk steady_sink : Type 0) (asked : Option Asked) (code : ℕ) (before after : Told) : Type 0 where
  pub answer : IsAnswered code (IfSome before.holds (λ held. AnswersInFull held asked code after.holds before.output after.output))
  pub headline : IsAnswered code (IfSome before.holds (λ held. Headline held asked code after.holds before.output after.output))
  pub exactly : IsAnswered code (IfSome before.holds (λ held. AnswersExactly held asked code before.output after.output))
  pub complete : IsAnswered code (IsComplete before.holds asked code)
  pub some_answer : IsAnswered code (SomeInFull (RoseBy (TABLE_LIMIT + 1) before.taken after.taken) asked code before.output after.output before.handed after.handed)
  pub usage : asked ≡ None → IsAnswered code (code ≡ USAGE)
  pub only_usage : code ≡ USAGE → asked ≡ None
  pub usage_line : code ≡ USAGE → after.output ≡ output_with before.output usage_text
  pub one_fault : code ≡ FAULT → CountsOneFault before.desk_faults after.desk_faults before.sink_faults after.sink_faults
  pub quiet_desk : code ≢ FAULT → after.desk_faults ≡ before.desk_faults
  pub quiet_sink : code ≢ FAULT → after.sink_faults ≡ before.sink_faults
  pub steady : steady_desk → steady_sink → IsSomeAnd before.holds (NamesStand asked) → code ≢ FAULT
  pub missing : code ≡ FAULT → steady_desk → steady_sink → IfSome before.holds (BlamesMissing asked after.blamed)
  pub fault_line :
      code ≡ FAULT
      → (after.desk_faults ≡ counted before.desk_faults 1) × PutsFault after.blamed before.output after.output before.handed after.handed × FailsAt steady_desk before.holds asked after.holds after.blamed
      ⊎ (after.desk_faults ≡ before.desk_faults) × PutsPart before.holds asked after.holds before.output after.output before.handed after.handed
  pub no_memory : code ≡ NO_MEMORY → LeavesFiles before.holds asked after.holds
  pub nothing_put : code ≡ NO_MEMORY → after.output ≡ before.output
  pub one_put : code ≢ NO_MEMORY → after.puts ≡ once_more before.puts
  pub one_put_at_most : (after.puts ≡ before.puts) ⊎ (after.puts ≡ once_more before.puts)
  pub refusals : IsRefusalStatus code → after.holds ≡ before.holds
  pub calls : CallsAtMost (most_calls asked) before.calls after.calls
  pub files : KeepsOthers asked before.holds after.holds
