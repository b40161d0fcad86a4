-- What the program answers where it refuses what it reads.
use Rattle.std.specs.Prelude.{◌≡◌, ℕ, List, [], Option, None}
use Rattle.bound_cert.specs.Lines.{left_of}
use Rattle.bound_cert.specs.ReadProof.{IsFirstProofFault}
use Rattle.bound_cert.specs.declared.faults.CertFault.{CertFault}
use Rattle.csv_fields.specs.Record.{records_of}
use Rattle.fleet_model.specs.declared.options.TableOptions.{TableOptions}
use Rattle.fleet_model.specs.declared.refusals.TableFile.{TableFile}
use Rattle.fleet_model.specs.declared.refusals.TheConstants.{TOO_LONG}
use Rattle.fleet_model.specs.declared.tables.Tables.{Tables}
use Rattle.fleet_model.specs.Schedule.{fleet_names}
use Rattle.plan_desk.specs.declared.file.DeskFile.{DeskFile}
use Rattle.plan_desk.specs.declared.file.DeskFile.TheVariants as desk_file
use Rattle.plan_judge.specs.Verdicts.{IsVerdict}
use Rattle.plan_judge.specs.declared.verdicts.Verdict.{Verdict}
use Rattle.plan_judge.specs.declared.verdicts.Verdict.TheVariants as verdict
use Rattle.plan_text.specs.Reading.{PlanBad}
use Rattle.sched_read.specs.Files.{AllBytes, FilesBad}
use Rattle.table_rows.specs.Names.{number_of_name}
use Rattle.folder_answers.specs.Texts.{bad_input_text, desk_file_of, plan_refused_text, proof_refused_text, unknown_fleet_text, verdict_text}
use Rattle.tail_dates.specs.TailTable.{TailsBad}
use Rattle.folder_answers.specs.declared.answer.Answer.{Answer}
use Rattle.folder_answers.specs.declared.status.TheConstants.{BAD_INPUT, DONE, REFUSED}

-- a status and a text, and no file
abbrev pub says : ℕ → List ℕ → Answer
says code text = record { status = record { code = code }; text = text; files = [] }

-- a file is too long
pub record RefusesLength (too_long : DeskFile → Type 0) (answer : Answer) : Type 0 where
  pub file : DeskFile
  pub longer : too_long file
  pub is : answer ≡ says BAD_INPUT (bad_input_text file 0 TOO_LONG)

-- the tables have a first fault
pub record RefusesTables (bytes : AllBytes) (reading : TableOptions) (answer : Answer) : Type 0 where
  pub file : TableFile
  pub row : ℕ
  pub kind : ℕ
  pub bad : FilesBad bytes reading file row kind
  pub is : answer ≡ says BAD_INPUT (bad_input_text (desk_file_of file) row kind)

-- the table of tails has a first fault
pub record RefusesTails (t : Tables) (bytes : List ℕ) (answer : Answer) : Type 0 where
  pub row : ℕ
  pub kind : ℕ
  pub bad : TailsBad t (records_of bytes) row kind
  pub is : answer ≡ says BAD_INPUT (bad_input_text desk_file.Tails row kind)

-- the number of the fleet of this name, where the tables have one
abbrev pub fleet_named : Tables → List ℕ → Option ℕ
fleet_named t name = number_of_name name (fleet_names t)

-- the tables have no fleet of this name
pub record RefusesFleet (t : Tables) (name : List ℕ) (answer : Answer) : Type 0 where
  pub unknown : fleet_named t name ≡ None
  pub is : answer ≡ says REFUSED (unknown_fleet_text name)

-- the plan's text has a first fault
pub record RefusesPlan (t : Tables) (bytes : List ℕ) (answer : Answer) : Type 0 where
  pub row : ℕ
  pub kind : ℕ
  pub bad : PlanBad t (records_of bytes) row kind
  pub is : answer ≡ says REFUSED (plan_refused_text row kind)

-- the proof's text has a first fault
pub record RefusesProof (t : Tables) (bytes : List ℕ) (answer : Answer) : Type 0 where
  pub fault : CertFault
  pub bad : IsFirstProofFault t (left_of bytes) fault
  pub is : answer ≡ says REFUSED (proof_refused_text fault.line fault.kind)

-- the status that tells a verdict
abbrev pub verdict_status : Verdict → ℕ
verdict_status (verdict.Legal cost) = DONE
verdict_status (verdict.NotAllowed leg) = REFUSED
verdict_status (verdict.Unbalanced f s came left) = REFUSED
verdict_status (verdict.TooMany f used has) = REFUSED
verdict_status (verdict.Crowded s d stands cap) = REFUSED

-- the plan's verdict refuses it
pub record RefusesVerdict (t : Tables) (plan : List ℕ) (answer : Answer) : Type 0 where
  pub verdict : Verdict
  pub judged : IsVerdict t plan verdict
  pub refused : verdict_status verdict ≡ REFUSED
  pub is : answer ≡ says (verdict_status verdict) (verdict_text t plan verdict)
