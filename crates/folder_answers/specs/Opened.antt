-- What the proof of a folder comes to, by what is asked of it, before a plan is read that comes with it.
use Rattle.std.specs.Prelude.{◌≡◌, ◌<◌, ◌≤◌, ℕ, List, Some, None, Result, Ok, Err, IsErr, true, false, ⊤}
use Rattle.bound_cert.specs.ReadProof.{ReadsAs}
use Rattle.bound_cert.specs.declared.reading.Proof.{Proof}
use Rattle.dual_bound.specs.OfTables.{IsOfTables}
use Rattle.entries.specs.declared.memory.NoMemory.{NoMemory}
use Rattle.fleet_model.specs.Schedule.{fleets_in}
use Rattle.fleet_model.specs.declared.limits.TheConstants.{MAX_AIRCRAFT}
use Rattle.fleet_model.specs.declared.tables.Tables.{Tables}
use Rattle.folder_answers.specs.Commands.{TellsTree}
use Rattle.folder_answers.specs.Refusals.{fleet_named}
use Rattle.folder_answers.specs.declared.answer.Answer.{Answer}
use Rattle.folder_answers.specs.declared.halting.Halt.{Halt}
use Rattle.folder_answers.specs.declared.halting.Halt.TheVariants as halt
use Rattle.folder_answers.specs.declared.opened.Checking.{Checking}
use Rattle.folder_answers.specs.declared.opened.Opened.{Opened}
use Rattle.folder_answers.specs.declared.opened.Opened.TheVariants as opened
use Rattle.folder_answers.specs.declared.opened.Question.{Question}
use Rattle.folder_answers.specs.declared.opened.Question.TheVariants as question

-- a fleet of the tables, and a number of aircraft that it may have
pub record CanHave (t : Tables) (fleet count : ℕ) : Type 0 where
  pub fleet_fits : fleet < fleets_in t
  pub count_fits : count ≤ MAX_AIRCRAFT

-- what may be asked of a tree of the tables
abbrev pub CanAsk : Tables → Question → Type 0
CanAsk t question.Holds = ⊤
CanAsk t (question.OtherSize fleet count) = CanHave t fleet count

-- all that the tree names is of the tables, and so is what is asked of it
pub record IsReady (checking : Checking) : Type 0 where
  pub of_tables : IsOfTables checking.tables checking.proof.tree
  pub can : CanAsk checking.tables checking.asks

-- the proof's text reads and says that no plan comes with it, and it is told of its tree what is asked
pub record TellsAlone (t : Tables) (asks : Question) (text : List ℕ) (answer : Answer) : Type 0 where
  pub proof : Proof
  pub reads : ReadsAs t text proof
  pub alone : proof.planned ≡ false
  pub tells : TellsTree t asks None proof.tree answer

-- the proof's text reads as this proof, which says that a plan comes with it, and all that its tree names is of the tables
pub record OpensProof (t : Tables) (asks : Question) (text : List ℕ) (checking : Checking) : Type 0 where
  pub tables_are : checking.tables ≡ t
  pub asks_are : checking.asks ≡ asks
  pub reads : ReadsAs t text checking.proof
  pub planned : checking.proof.planned ≡ true
  pub ready : IsReady checking

-- what a proof's text comes to where it reads, by what is asked of its tree
abbrev pub IsOpenedBy : Tables → Question → List ℕ → Opened → Type 0
IsOpenedBy t asks text (opened.Answered answer) = TellsAlone t asks text answer
IsOpenedBy t asks text (opened.WantsPlan checking) = OpensProof t asks text checking

-- the tables have a fleet of this name, and a proof's text is asked about so many aircraft of it
pub record IsOpenedOn (t : Tables) (name : List ℕ) (count : ℕ) (text : List ℕ) (opened_as : Opened) : Type 0 where
  pub fleet : ℕ
  pub known : fleet_named t name ≡ Some fleet
  pub opens : IsOpenedBy t (question.OtherSize fleet count) text opened_as

-- an answer, be it a refusal or not, as what first files come to
abbrev pub IsAnsweredBy : Result Answer Halt → Result Opened Halt → Type 0
IsAnsweredBy (Ok answer) result = result ≡ Ok (opened.Answered answer)
IsAnsweredBy (Err why) result = result ≡ Err why

-- what first files come to, where a refusal of theirs is the answer
abbrev pub IsOrRefused : Result Opened Halt → Result Opened NoMemory → Type 0
IsOrRefused (Ok whole) result = result ≡ Ok whole
IsOrRefused (Err (halt.Refused answer)) result = result ≡ Ok (opened.Answered answer)
IsOrRefused (Err halt.NoMemory) result = IsErr result
