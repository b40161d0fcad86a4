-- What commands have in common: tables are read, tails, a fleet's name, a plan, a verdict on it, a proof. Each of these is
-- refused, or the rest is answered on what it comes to. So the order of the refusals is the order in which a command names them.
use Rattle.std.specs.Prelude.{◌≡◌, ◌⊎◌, ℕ, List, Some}
use Rattle.bound_cert.specs.ReadProof.{ReadsAs}
use Rattle.bound_cert.specs.declared.reading.Proof.{Proof}
use Rattle.csv_fields.specs.Record.{records_of}
use Rattle.fleet_model.specs.Legal.{IsLegal}
use Rattle.fleet_model.specs.declared.options.TableOptions.{TableOptions}
use Rattle.fleet_model.specs.declared.tables.Tables.{Tables}
use Rattle.plan_text.specs.Reading.{PlanReads}
use Rattle.sched_read.specs.retime_windows.Settled.{IsSettled}
use Rattle.sched_read.specs.Files.{AllBytes, FilesRead}
use Rattle.folder_answers.specs.Refusals.{RefusesFleet, RefusesPlan, RefusesProof, RefusesTables, RefusesTails, RefusesVerdict, fleet_named}
use Rattle.tail_dates.specs.TailTable.{TailsRead}
use Rattle.tail_dates.specs.declared.tails.TailState.{TailState}
use Rattle.folder_answers.specs.declared.answer.Answer.{Answer}

-- the tables read, and the rest is answered on them
pub record TablesRead (reading : TableOptions) (bytes : AllBytes) (finish : Tables → Answer → Type 0) (answer : Answer) : Type 0 where
  pub tables : Tables
  pub reads : FilesRead bytes reading tables
  pub finishes : finish tables answer

abbrev pub OnTables : TableOptions → AllBytes → (Tables → Answer → Type 0) → Answer → Type 0
OnTables reading bytes finish answer = RefusesTables bytes reading answer ⊎ TablesRead reading bytes finish answer

-- the table of tails reads, and the rest is answered on the tails
pub record TailsListed (t : Tables) (bytes : List ℕ) (finish : List TailState → Answer → Type 0) (answer : Answer) : Type 0 where
  pub tails : List TailState
  pub reads : TailsRead t (records_of bytes) tails
  pub finishes : finish tails answer

abbrev pub OnTails : Tables → List ℕ → (List TailState → Answer → Type 0) → Answer → Type 0
OnTails t bytes finish answer = RefusesTails t bytes answer ⊎ TailsListed t bytes finish answer

-- the tables have a fleet of this name, and the rest is answered of it
pub record FleetKnown (t : Tables) (name : List ℕ) (finish : ℕ → Answer → Type 0) (answer : Answer) : Type 0 where
  pub fleet : ℕ
  pub known : fleet_named t name ≡ Some fleet
  pub finishes : finish fleet answer

abbrev pub OnFleet : Tables → List ℕ → (ℕ → Answer → Type 0) → Answer → Type 0
OnFleet t name finish answer = RefusesFleet t name answer ⊎ FleetKnown t name finish answer

-- the plan's text reads, and the rest is answered on the plan
pub record PlanRead (t : Tables) (bytes : List ℕ) (finish : List ℕ → Answer → Type 0) (answer : Answer) : Type 0 where
  pub plan : List ℕ
  pub reads : PlanReads t (records_of bytes) plan
  pub finishes : finish plan answer

abbrev pub OnPlan : Tables → List ℕ → (List ℕ → Answer → Type 0) → Answer → Type 0
OnPlan t bytes finish answer = RefusesPlan t bytes answer ⊎ PlanRead t bytes finish answer

-- the plan is legal, and the rest is answered
pub record PlanLegal (t : Tables) (finish : List ℕ → Answer → Type 0) (plan : List ℕ) (answer : Answer) : Type 0 where
  pub legal : IsLegal t plan
  pub finishes : finish plan answer

abbrev pub OnLegal : Tables → (List ℕ → Answer → Type 0) → List ℕ → Answer → Type 0
OnLegal t finish plan answer = RefusesVerdict t plan answer ⊎ PlanLegal t finish plan answer

-- the proof's text reads, and the rest is answered on the proof
pub record ProofRead (t : Tables) (bytes : List ℕ) (finish : Proof → Answer → Type 0) (answer : Answer) : Type 0 where
  pub proof : Proof
  pub reads : ReadsAs t bytes proof
  pub finishes : finish proof answer

abbrev pub OnProof : Tables → List ℕ → (Proof → Answer → Type 0) → Answer → Type 0
OnProof t bytes finish answer = RefusesProof t bytes answer ⊎ ProofRead t bytes finish answer

-- the plan is settled, and the rest is answered on the tables in which each leg departs when it says, and on the plan there
pub record OnShown (t : Tables) (finish : Tables → List ℕ → Answer → Type 0) (plan : List ℕ) (answer : Answer) : Type 0 where
  pub shown : Tables
  pub flown : List ℕ
  pub settled : IsSettled t plan shown flown
  pub finishes : finish shown flown answer
