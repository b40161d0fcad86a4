-- What a run leaves.
use Rattle.std.specs.Prelude.{◌≡◌, ◌≢◌, ◌⊎◌, ℕ, All, Bool, true, false, List, [], ◌∷◌, ℤ, Option, Some, None, IfSome, IsSome, IsSomeAnd, ⊤}
use Rattle.bound_cert.specs.ReadProof.{ReadsAs}
use Rattle.bound_cert.specs.declared.reading.Proof.{Proof}
use Rattle.cert_check.specs.Verdicts.{HoldsWith}
use Rattle.csv_fields.specs.Record.{records_of}
use Rattle.fleet_model.specs.Legal.{IsLegal, total_cost}
use Rattle.fleet_model.specs.declared.options.TableOptions.{TableOptions}
use Rattle.fleet_model.specs.declared.tables.Tables.{Tables}
use Rattle.plan_desk.specs.Counts.{IsOneMoreAtMost, counted}
use Rattle.plan_desk.specs.Desk.{Files}
use Rattle.plan_desk.specs.Sink.{AppendsPrefix, handed_with, output_with}
use Rattle.plan_desk.specs.DeskFile.{path_of}
use Rattle.plan_desk.specs.declared.file.DeskFile.{DeskFile}
use Rattle.plan_desk.specs.declared.file.DeskFile.TheVariants as desk_file
use Rattle.plan_text.specs.Reading.{PlanReads}
use Rattle.sched_read.specs.Files.{FilesRead}
use Rattle.tail_dates.specs.TailTable.{TailsRead}
use Rattle.tail_dates.specs.declared.tails.TailState.{TailState}
use Rattle.fleet_cli.specs.Answer.{Answers, AnswersSome}
use Rattle.folder_answers.specs.Contents.{bytes_in, table_bytes}
use Rattle.folder_answers.specs.Gathered.{AllStand, IsHeldWithin, ReadFails}
use Rattle.fleet_cli.specs.Laws.{IsFixed}
use Rattle.fleet_cli.specs.Reading.{IsMissing, IsRead, folder_of, written_files}
use Rattle.folder_answers.specs.FileLists.{due_files, judge_files, proof_files, tables_of}
use Rattle.folder_answers.specs.Refusals.{fleet_named}
use Rattle.folder_answers.specs.Texts.{fault_text}
use Rattle.command_words.specs.Words.{Asked, check, due, judge, make, solve, tails, whatif}
use Rattle.folder_answers.specs.Written.{HaveLengths, WriteFails, WritesFirst, held_with_texts, under}
use Rattle.folder_answers.specs.declared.answer.Answer.{Answer}
use Rattle.folder_answers.specs.declared.status.TheConstants.{BAD_INPUT, DONE, FALLEN, FAULT, GAP, INFEASIBLE, NO_MEMORY, REFUSED, UNPLACED, UNSETTLED, USAGE}

-- a fact of every status but a fault and want of memory
abbrev pub IsAnswered : ℕ → Type 0 → Type 0
IsAnswered code P = code ≢ FAULT → code ≢ NO_MEMORY → P

-- a status that is neither a fault nor want of memory
abbrev pub IsEnd : ℕ → Type 0
IsEnd code = (code ≢ FAULT) × (code ≢ NO_MEMORY)

-- the answer where files are held, all of which was written and put
pub record AnswersInFull (held : Files) (asked : Option Asked) (code : ℕ) (stands : Option Files) (before after : Option (List ℕ)) : Type 0 where
  pub answer : Answer
  pub answers : Answers held asked answer
  pub code_is : code ≡ answer.status.code
  pub written : stands ≡ held_with_texts (Some held) (folder_of asked) answer.files
  pub lengths : HaveLengths answer.files
  pub put : after ≡ output_with before answer.text

-- a status and what was put are those of an answer
pub record PutsAnswer (code : ℕ) (answer : Answer) (before after : Option (List ℕ)) : Type 0 where
  pub code_is : code ≡ answer.status.code
  pub put : after ≡ output_with before answer.text

-- they are those of the definition's answer, where that leaves no choice
abbrev pub AnswersExactly : Files → Option Asked → ℕ → Option (List ℕ) → Option (List ℕ) → Type 0
AnswersExactly held asked code before after = (answer : Answer) → Answers held asked answer → IsFixed asked answer → PutsAnswer code answer before after

-- the files of a folder are tables that read, and a plan that reads on them and is legal
pub record LegalThere (held : Files) (dir : List ℕ) (reading : TableOptions) : Type 0 where
  pub tables : Tables
  pub plan : List ℕ
  pub there : AllStand held dir (judge_files reading)
  pub reads : FilesRead (table_bytes (bytes_in held dir)) reading tables
  pub plan_reads : PlanReads tables (records_of (bytes_in held dir desk_file.Plan)) plan
  pub legal : IsLegal tables plan

-- so they are, and tails that read on these tables
pub record DueThere (held : Files) (dir : List ℕ) (reading : TableOptions) : Type 0 where
  pub tables : Tables
  pub tails : List TailState
  pub plan : List ℕ
  pub there : AllStand held dir (due_files reading)
  pub reads : FilesRead (table_bytes (bytes_in held dir)) reading tables
  pub tails_read : TailsRead tables (records_of (bytes_in held dir desk_file.Tails)) tails
  pub plan_reads : PlanReads tables (records_of (bytes_in held dir desk_file.Plan)) plan
  pub legal : IsLegal tables plan

-- the files of a folder are tables that read
pub record TablesThere (held : Files) (dir : List ℕ) (reading : TableOptions) : Type 0 where
  pub tables : Tables
  pub there : AllStand held dir (tables_of reading)
  pub reads : FilesRead (table_bytes (bytes_in held dir)) reading tables

-- a plan stands in the folder that reads on the tables and is legal
pub record PlanThere (held : Files) (dir : List ℕ) (t : Tables) (cost : ℤ) : Type 0 where
  pub plan : List ℕ
  pub there : IsHeldWithin held dir desk_file.Plan (bytes_in held dir desk_file.Plan)
  pub reads : PlanReads t (records_of (bytes_in held dir desk_file.Plan)) plan
  pub legal : IsLegal t plan
  pub costs : cost ≡ total_cost t plan

-- the cost of the plan that comes with a proof, where one does
abbrev pub IsCostThere : Files → List ℕ → Tables → Bool → Option ℤ → Type 0
IsCostThere held dir t planned None = planned ≡ false
IsCostThere held dir t planned (Some cost) = (planned ≡ true) × PlanThere held dir t cost

-- the files of a folder are tables that read, and a proof that reads on them and whose tree holds, with a legal plan
-- where it says that one comes with it
pub record ProofThere (held : Files) (dir : List ℕ) (reading : TableOptions) : Type 0 where
  pub tables : Tables
  pub proof : Proof
  pub cost : Option ℤ
  pub bound : Option ℤ
  pub there : AllStand held dir (proof_files reading)
  pub reads : FilesRead (table_bytes (bytes_in held dir)) reading tables
  pub proof_reads : ReadsAs tables (bytes_in held dir desk_file.Proof) proof
  pub plan : IsCostThere held dir tables proof.planned cost
  pub holds : HoldsWith tables cost proof.tree bound

-- .. and the tables have a fleet of this name
pub record FleetProofThere (held : Files) (dir : List ℕ) (reading : TableOptions) (name : List ℕ) : Type 0 where
  pub proof : ProofThere held dir reading
  pub known : IsSome (fleet_named proof.tables name)

-- a status that tells what a proof says of tables of another size
abbrev pub IsAskedOf : ℕ → Type 0
IsAskedOf code = (code ≡ DONE) ⊎ (code ≡ FALLEN)

-- a status that tells of a solution
abbrev pub IsSolution : ℕ → Type 0
IsSolution code = (code ≡ DONE) ⊎ (code ≡ GAP) ⊎ (code ≡ INFEASIBLE) ⊎ (code ≡ UNSETTLED)

-- a status that tells of a solution of tables that have a legal plan
abbrev pub IsFlyable : ℕ → Type 0
IsFlyable code = (code ≡ DONE) ⊎ (code ≡ GAP) ⊎ (code ≡ UNSETTLED)

-- a status that tells of tails: they are placed, or those of some fleet can't be
abbrev pub IsTold : ℕ → Type 0
IsTold code = (code ≡ DONE) ⊎ (code ≡ UNPLACED)

-- What is good is never refused: a legal plan on tables that read is judged so and its tails are told, with their names
-- where a table of tails reads; tables that read are solved, a proof that holds is said to hold, and is asked about a fleet
-- that there is. Tables that are made are solved whatever is held, and have a plan.
abbrev pub IsComplete : Option Files → Option Asked → ℕ → Type 0
IsComplete told None code = ⊤
IsComplete told (Some (judge dir reading)) code = IsSomeAnd told (λ held. LegalThere held dir reading) → code ≡ DONE
IsComplete told (Some (solve dir reading options)) code = IsSomeAnd told (λ held. TablesThere held dir reading) → IsSolution code
IsComplete told (Some (check dir reading)) code = IsSomeAnd told (λ held. ProofThere held dir reading) → code ≡ DONE
IsComplete told (Some (tails dir reading limits dates)) code = IsSomeAnd told (λ held. LegalThere held dir reading) → code ≡ DONE
IsComplete told (Some (due dir reading limits dates)) code = IsSomeAnd told (λ held. DueThere held dir reading) → IsTold code
IsComplete told (Some (make dir number legs)) code = IsFlyable code
IsComplete told (Some (whatif dir reading name count)) code = IsSomeAnd told (λ held. FleetProofThere held dir reading name) → IsAskedOf code

-- an answer that is right of some contents, all of which was put, and the sink was handed nothing else
pub record SomeInFull (longer : Type 0) (asked : Option Asked) (code : ℕ) (before after : Option (List ℕ)) (handed_before handed_after : Option ℕ) : Type 0 where
  pub answer : Answer
  pub answers : AnswersSome longer asked answer
  pub code_is : code ≡ answer.status.code
  pub put : after ≡ output_with before answer.text
  pub handed : handed_after ≡ handed_with handed_before answer.text

-- all files of an answer were written, and of its text, which the sink was handed whole, a part from its front on was put
pub record PutsPart (told : Option Files) (asked : Option Asked) (stands : Option Files) (before after : Option (List ℕ)) (handed_before handed_after : Option ℕ) : Type 0 where
  pub answer : Answer
  pub answers : IfSome told (λ held. Answers held asked answer)
  pub written : stands ≡ held_with_texts told (folder_of asked) answer.files
  pub part : AppendsPrefix answer.text before after
  pub handed : handed_after ≡ handed_with handed_before answer.text

-- some first files of an answer were written, all of them at most, and nothing else changed
pub record StopsWriting (told : Option Files) (asked : Option Asked) (stands : Option Files) : Type 0 where
  pub answer : Answer
  pub answers : IfSome told (λ held. Answers held asked answer)
  pub first : WritesFirst (folder_of asked) answer.files told stands

-- the writing of an answer's files stopped at the file that the desk blames
pub record FailsWriting (told : Option Files) (asked : Option Asked) (stands : Option Files) (blamed : Option DeskFile) : Type 0 where
  pub answer : Answer
  pub answers : IfSome told (λ held. Answers held asked answer)
  pub part : WriteFails (folder_of asked) answer.files told stands blamed

-- the desk failed at a file that is read, and no file was written; or at one that was to be written
abbrev pub FailsAt : Type 0 → Option Files → Option Asked → Option Files → Option DeskFile → Type 0
FailsAt steady told asked stands blamed =
    (stands ≡ told) × ReadFails steady told (IsRead asked) (IsMissing asked) blamed ⊎ FailsWriting told asked stands blamed

-- the file that the desk blames is the first missing one of those that are read
pub record BlamesMissing (asked : Option Asked) (blamed : Option DeskFile) (held : Files) : Type 0 where
  pub file : DeskFile
  pub blame : blamed ≡ Some file
  pub missing : IsMissing asked held file

-- no file was written, or some first ones of an answer
abbrev pub LeavesFiles : Option Files → Option Asked → Option Files → Type 0
LeavesFiles told asked stands = (stands ≡ told) ⊎ StopsWriting told asked stands

-- the desk counted one fault, and the sink one at most, of the line that tells it; or the sink alone counted one
abbrev pub CountsOneFault : ℕ → ℕ → ℕ → ℕ → Type 0
CountsOneFault desk_before desk_after sink_before sink_after =
    (desk_after ≡ counted desk_before 1) × IsOneMoreAtMost sink_before sink_after ⊎ (desk_after ≡ desk_before) × (sink_after ≡ counted sink_before 1)

-- of the line that tells the file to blame, which the sink was handed whole, a part from its front on was put
pub record PutsFault (blamed : Option DeskFile) (before after : Option (List ℕ)) (handed_before handed_after : Option ℕ) : Type 0 where
  pub file : DeskFile
  pub blame : blamed ≡ Some file
  pub part : AppendsPrefix (fault_text file) before after
  pub handed : handed_after ≡ handed_with handed_before (fault_text file)

-- a status that refuses what was read, or the words
abbrev pub IsRefusalStatus : ℕ → Type 0
IsRefusalStatus code = (code ≡ USAGE) ⊎ (code ≡ BAD_INPUT) ⊎ (code ≡ REFUSED)

-- no name of a folder holds anything else than before, but those of these files
abbrev pub KeepsAllBut : List ℕ → List DeskFile → Option Files → Option Files → Type 0
KeepsAllBut dir [] told stands = stands ≡ told
KeepsAllBut dir (file ∷ files) told stands = (name : List ℕ) → All (λ other. name ≢ path_of dir other) (file ∷ files) → under stands name ≡ under told name

-- no name holds anything else than before, but those that what is asked for writes
abbrev pub KeepsOthers : Option Asked → Option Files → Option Files → Type 0
KeepsOthers asked told stands = KeepsAllBut (folder_of asked) (written_files asked) told stands
