-- How often a command calls the desk.
use Rattle.std.proofs.Common.{◌≡◌, ℕ, length, Option, Some, None, arith}
use Rattle.command_words.specs.Words.{Asked, check, due, judge, make, solve, tails, whatif}
use Rattle.plan_desk.specs.Counts.{CallsAtMost, once_more}
use Rattle.plan_desk.specs.declared.file.DeskFile.TheVariants as file
use Rattle.folder_answers.specs.Contents.{FileBytes}
use Rattle.fleet_cli.specs.Reading.{IsReadAfter, first_files, most_calls, most_reads}
use Rattle.folder_answers.proofs.CallCounts.{then_one, weaker_calls}

-- the first files alone
pub reads_first : (asked : Option Asked) (before now : Option ℕ) → CallsAtMost (length (first_files asked)) before now → CallsAtMost (most_reads asked) before now
reads_first asked before now = weaker_calls before now (length (first_files asked)) (most_reads asked) (omega arith)

-- and the plan, which they ask for
pub reads_plan : (asked : Option Asked) (bytes : FileBytes) (before mid now : Option ℕ) → IsReadAfter asked bytes file.Plan → CallsAtMost (length (first_files asked)) before mid → now ≡ once_more mid
    → CallsAtMost (most_reads asked) before now
reads_plan None bytes before mid now follows first one = absurd follows
reads_plan (Some (judge dir reading)) bytes before mid now follows first one = absurd follows
reads_plan (Some (solve dir reading options)) bytes before mid now follows first one = absurd follows
reads_plan (Some (check dir reading)) bytes before mid now follows first one =
    then_one before mid now (length (first_files (Some (check dir reading)))) (most_reads (Some (check dir reading))) (omega arith) first one
reads_plan (Some (tails dir reading limits dates)) bytes before mid now follows first one = absurd follows
reads_plan (Some (due dir reading limits dates)) bytes before mid now follows first one = absurd follows
reads_plan (Some (make dir number legs)) bytes before mid now follows first one = absurd follows
reads_plan (Some (whatif dir reading name count)) bytes before mid now follows first one =
    then_one before mid now (length (first_files (Some (whatif dir reading name count)))) (most_reads (Some (whatif dir reading name count))) (omega arith) first one

-- no file is written
pub reads_alone : (asked : Option Asked) (before now : Option ℕ) → CallsAtMost (most_reads asked) before now → CallsAtMost (most_calls asked) before now
reads_alone asked before now = weaker_calls before now (most_reads asked) (most_calls asked) (omega arith)
