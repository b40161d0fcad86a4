-- What a call comes to that a refusal may end: what is answered where a reading goes on, and where it stops.
use Rattle.std.proofs.Common.{◌≡◌, ℕ, List, Result, Ok, Err, inr}
use Rattle.csv_fields.specs.Record.{records_of}
use Rattle.fleet_model.specs.declared.tables.Tables.{Tables}
use Rattle.folder_answers.specs.Halted.{MatchHalt, WhereRefused}
use Rattle.folder_answers.specs.Skeletons.{OnLegal, OnPlan}
use Rattle.folder_answers.specs.declared.answer.Answer.{Answer}
use Rattle.folder_answers.specs.declared.halting.Halt.{Halt}
use Rattle.folder_answers.specs.declared.halting.Halt.TheVariants as halt
use Rattle.plan_judge.specs.LegalPlans.{IsLegalPlan}
use Rattle.plan_judge.specs.declared.legal_plans.LegalPlan.{LegalPlan}
use Rattle.plan_text.specs.Reading.{PlanReads}

-- ---- weaker facts

pub refused_weaker : (why : Halt) (P Q : Answer → Type 0) → ((answer : Answer) → P answer → Q answer) → WhereRefused why P → WhereRefused why Q
refused_weaker (halt.Refused answer) P Q weaker refused = weaker answer refused
refused_weaker halt.NoMemory P Q weaker refused = tt

pub halt_weaker : {T : Type 0} (r : Result T Halt) (P Q : T → Type 0) (R S : Answer → Type 0) → ((x : T) → P x → Q x) → ((answer : Answer) → R answer → S answer) → MatchHalt r P R → MatchHalt r Q S
halt_weaker (Ok x) P Q R S goes stops is = goes x is
halt_weaker (Err why) P Q R S goes stops is = refused_weaker why R S stops is

-- ---- a call that stops where one of its own did

pub stops : {T : Type 0} (r : Result T Halt) (why : Halt) → r ≡ Err why → (stopped : Halt) (P : T → Type 0) (Q R : Answer → Type 0) → why ≡ stopped
    → ((answer : Answer) → Q answer → R answer) → WhereRefused stopped Q → MatchHalt r P R
stops r why is stopped P Q R same weaker refused = rw (is, same) (refused_weaker stopped Q R weaker refused)

-- ---- a plan that is to be legal

-- where it is, the rest is answered
pub on_legal : (t : Tables) (bytes : List ℕ) (finish : List ℕ → Answer → Type 0) (answer : Answer) (plan : LegalPlan) → PlanReads t (records_of bytes) plan.assignment → IsLegalPlan t plan → finish plan.assignment answer → OnPlan t bytes (OnLegal t finish) answer
on_legal t bytes finish answer plan reads legal finishes = inr (record { plan = plan.assignment; reads = reads; finishes = inr (record { legal = legal.legal; finishes = finishes }) })
