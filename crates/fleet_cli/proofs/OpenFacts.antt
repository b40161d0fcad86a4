-- What the tables and the proof of a folder come to, by what is asked of it.
use mathlib.Core.Bool.{false≢true}
use Rattle.std.proofs.Common.{◌≡◌, ℕ, Bool, true, false, List, Option, Some, None, Result, Ok, Err, refl, sym, subst, ◌∙◌, inl, inr}
use Rattle.std.specs.Prelude.{IsSome}
use Rattle.bound_cert.specs.ReadProof.{ReadsAs}
use Rattle.bound_cert.specs.declared.reading.Proof.{Proof}
use Rattle.command_words.specs.Words.{Asked, check, whatif}
use Rattle.fleet_model.specs.declared.options.TableOptions.{TableOptions}
use Rattle.fleet_model.specs.declared.tables.Tables.{Tables}
use Rattle.plan_desk.specs.declared.file.DeskFile.{DeskFile}
use Rattle.plan_desk.specs.declared.file.DeskFile.TheVariants as file
use Rattle.sched_read.proofs.FileReadLaws as tables
use Rattle.sched_read.specs.Files.{AllBytes, FilesRead}
use Rattle.folder_answers.proofs.HaltFacts.{halt_weaker}
use Rattle.folder_answers.proofs.Skeletons.{never_read, says_one}
use Rattle.folder_answers.specs.Commands.{TellsOn, TellsProof}
use Rattle.folder_answers.specs.Contents.{FileBytes, table_bytes}
use Rattle.folder_answers.specs.Halted.{EitherWay, MatchHalt}
use Rattle.folder_answers.specs.Opened.{IsAnsweredBy, IsOrRefused, IsOpenedBy, IsOpenedOn, OpensProof, TellsAlone}
use Rattle.folder_answers.specs.Refusals.{RefusesProof, RefusesTables, fleet_named}
use Rattle.folder_answers.specs.Skeletons.{OnFleet}
use Rattle.folder_answers.specs.declared.answer.Answer.{Answer}
use Rattle.folder_answers.specs.declared.halting.Halt.{Halt}
use Rattle.folder_answers.specs.declared.halting.Halt.TheVariants as halt
use Rattle.folder_answers.specs.declared.opened.Checking.{Checking}
use Rattle.folder_answers.specs.declared.opened.Opened.{Opened}
use Rattle.folder_answers.specs.declared.opened.Opened.TheVariants as opened
use Rattle.folder_answers.specs.declared.opened.Question.{Question}
use Rattle.folder_answers.specs.declared.opened.Question.TheVariants as question
use Rattle.fleet_cli.specs.Answer.{AnswersOf}
use Rattle.fleet_cli.specs.Opened.{AnswersAtOnce, IsOpened}
use Rattle.fleet_cli.specs.Reading.{IsReadAfter, WantsPlan}

-- ---- commands whose first files are all that they read

module _ (asked : Option Asked) (bytes : FileBytes) (no_more : (f : DeskFile) → ¬ (IsReadAfter asked bytes f)) where
  -- an answer, be it a refusal or not
  pub at_once : (P : Answer → Type 0) → ((answer : Answer) → P answer → AnswersOf asked bytes answer) → (given : Result Answer Halt) → EitherWay given P
      → (made : Result Opened Halt) → IsAnsweredBy given made → MatchHalt made (IsOpened asked bytes) (AnswersAtOnce asked bytes)
  at_once P answers (Ok answer) is made same = rw same (record { no_more = no_more; answers = answers answer is })
  at_once P answers (Err (halt.Refused answer)) is made same = rw same (record { no_more = no_more; answers = answers answer is })
  at_once P answers (Err halt.NoMemory) is made same = rw same tt

-- what first files come to, be it a refusal or not
pub opened_is : (asked : Option Asked) (bytes : FileBytes) (made : Result Opened Halt) → MatchHalt made (IsOpened asked bytes) (AnswersAtOnce asked bytes)
    → (o : Opened) → IsOrRefused made (Ok o) → IsOpened asked bytes o
opened_is asked bytes (Ok whole) is o same = let one : o ≡ whole = cc in rw one is
opened_is asked bytes (Err (halt.Refused answer)) is o same = let one : o ≡ opened.Answered answer = cc in rw one is
opened_is asked bytes (Err halt.NoMemory) is o same = absurd (false≢true same)

-- ---- commands that ask about a proof

-- where the proof says that no plan comes with it, none is wanted
module _ (reading : TableOptions) (bytes : AllBytes) (text : List ℕ) (t : Tables) (reads : FilesRead bytes reading t) where
  pub no_plan_of_fault : (answer : Answer) → RefusesProof t text answer → ¬ (WantsPlan reading bytes text)
  no_plan_of_fault answer refused wants =
      never_read t text answer wants.proof refused (subst (λ u. ReadsAs u text wants.proof) (tables.one_reading bytes reading wants.tables t wants.reads reads) wants.proof_reads)

  pub no_plan_alone : (proof : Proof) → ReadsAs t text proof → proof.planned ≡ false → ¬ (WantsPlan reading bytes text)
  no_plan_alone proof text_reads alone wants =
      let same = says_one t text wants.proof proof (subst (λ u. ReadsAs u text wants.proof) (tables.one_reading bytes reading wants.tables t wants.reads reads) wants.proof_reads) text_reads in
      let never : ◌≡◌ {A = Bool} true false = sym wants.planned ∙ same.0 ∙ alone in
      let bad : ⊥ = cc in bad

-- what is told of a proof
module _ (t : Tables) (asks : Question) (text plan : List ℕ) where
  told_alone : (answer : Answer) → TellsAlone t asks text answer → TellsOn asks text plan t answer
  told_alone answer x = inr (record { proof = x.proof; reads = x.reads; finishes = subst (λ p. TellsProof t asks p x.proof.tree plan answer) (sym x.alone) x.tells })

  told_with : (answer : Answer) (checking : Checking) → OpensProof t asks text checking → TellsProof checking.tables checking.asks true checking.proof.tree plan answer → TellsOn asks text plan t answer
  told_with answer checking by tells = inr (record {
    proof = checking.proof;
    reads = by.reads;
    finishes = subst (λ p. TellsProof t asks p checking.proof.tree plan answer) (sym by.planned)
        (subst (λ q. TellsProof t q true checking.proof.tree plan answer) by.asks_are (subst (λ u. TellsProof u checking.asks true checking.proof.tree plan answer) by.tables_are tells));
  })

wants_plan : (reading : TableOptions) (bytes : AllBytes) (text : List ℕ) (t : Tables) (asks : Question) (checking : Checking) → FilesRead bytes reading t
    → OpensProof t asks text checking → WantsPlan reading bytes text
wants_plan reading bytes text t asks checking reads by = record { tables = t; proof = checking.proof; reads = reads; proof_reads = by.reads; planned = by.planned }

-- ---- checking

module _ (dir : List ℕ) (reading : TableOptions) (bytes : FileBytes) where
  pub check_refused : (answer : Answer) → RefusesTables (table_bytes bytes) reading answer → AnswersAtOnce (Some (check dir reading)) bytes answer
  check_refused answer x = record {
    no_more = λ f follows. tables.no_fault (table_bytes bytes) reading follows.1.tables x.file x.row x.kind follows.1.reads x.bad;
    answers = inl x;
  }

  module _ (t : Tables) (reads : FilesRead (table_bytes bytes) reading t) where
    proof_refused : (answer : Answer) → RefusesProof t (bytes file.Proof) answer → AnswersAtOnce (Some (check dir reading)) bytes answer
    proof_refused answer x = record {
      no_more = λ f follows. no_plan_of_fault reading (table_bytes bytes) (bytes file.Proof) t reads answer x follows.1;
      answers = inr (record { tables = t; reads = reads; finishes = inl x });
    }

    is_opened : (o : Opened) → IsOpenedBy t question.Holds (bytes file.Proof) o → IsOpened (Some (check dir reading)) bytes o
    is_opened (opened.Answered answer) x = record {
      no_more = λ f follows. no_plan_alone reading (table_bytes bytes) (bytes file.Proof) t reads x.proof x.reads x.alone follows.1;
      answers = inr (record { tables = t; reads = reads; finishes = told_alone t question.Holds (bytes file.Proof) (bytes file.Plan) answer x });
    }
    is_opened (opened.WantsPlan checking) by = record {
      wanted = (refl, wants_plan reading (table_bytes bytes) (bytes file.Proof) t question.Holds checking reads by);
      ready = by.ready;
      answers = λ plan answer tells. inr (record { tables = t; reads = reads; finishes = told_with t question.Holds (bytes file.Proof) plan answer checking by tells });
    }

    pub check_opened : (r : Result Opened Halt) → MatchHalt r (IsOpenedBy t question.Holds (bytes file.Proof)) (RefusesProof t (bytes file.Proof))
        → MatchHalt r (IsOpened (Some (check dir reading)) bytes) (AnswersAtOnce (Some (check dir reading)) bytes)
    check_opened r = halt_weaker r _ _ _ _ is_opened proof_refused

-- ---- asking about another size

module _ (dir : List ℕ) (reading : TableOptions) (name : List ℕ) (count : ℕ) (bytes : FileBytes) where
  pub whatif_refused : (answer : Answer) → RefusesTables (table_bytes bytes) reading answer → AnswersAtOnce (Some (whatif dir reading name count)) bytes answer
  whatif_refused answer x = record {
    no_more = λ f follows. tables.no_fault (table_bytes bytes) reading follows.1.wants.tables x.file x.row x.kind follows.1.wants.reads x.bad;
    answers = inl x;
  }

  module _ (t : Tables) (reads : FilesRead (table_bytes bytes) reading t) where
    -- the tables are those that want a plan
    unknown_there : (u : Tables) → FilesRead (table_bytes bytes) reading u → fleet_named t name ≡ None → ¬ (IsSome (fleet_named u name))
    unknown_there u others unknown known =
        false≢true (subst IsSome unknown (subst (λ v. IsSome (fleet_named v name)) (tables.one_reading (table_bytes bytes) reading u t others reads) known))

    fleet_refused : (answer : Answer) → OnFleet t name (λ _. RefusesProof t (bytes file.Proof)) answer → AnswersAtOnce (Some (whatif dir reading name count)) bytes answer
    fleet_refused answer (inl x) = record {
      no_more = λ f follows. unknown_there follows.1.wants.tables follows.1.wants.reads x.unknown follows.1.known;
      answers = inr (record { tables = t; reads = reads; finishes = inl x });
    }
    fleet_refused answer (inr x) = record {
      no_more = λ f follows. no_plan_of_fault reading (table_bytes bytes) (bytes file.Proof) t reads answer x.finishes follows.1.wants;
      answers = inr (record { tables = t; reads = reads; finishes = inr (record { fleet = x.fleet; known = x.known; finishes = inl x.finishes }) });
    }

    of_fleet : (fleet : ℕ) → fleet_named t name ≡ Some fleet → (o : Opened) → IsOpenedBy t (question.OtherSize fleet count) (bytes file.Proof) o → IsOpened (Some (whatif dir reading name count)) bytes o
    unfolding wants_plan
    of_fleet fleet known (opened.Answered answer) x = record {
      no_more = λ f follows. no_plan_alone reading (table_bytes bytes) (bytes file.Proof) t reads x.proof x.reads x.alone follows.1.wants;
      answers = inr (record {
        tables = t;
        reads = reads;
        finishes = inr (record { fleet = fleet; known = known; finishes = told_alone t (question.OtherSize fleet count) (bytes file.Proof) (bytes file.Plan) answer x });
      });
    }
    of_fleet fleet known (opened.WantsPlan checking) by = record {
      wanted = (
        refl,
        record {
          wants = wants_plan reading (table_bytes bytes) (bytes file.Proof) t (question.OtherSize fleet count) checking reads by;
          known = subst IsSome (sym known) refl;
        },
      );
      ready = by.ready;
      answers = λ plan answer tells. inr (record {
        tables = t;
        reads = reads;
        finishes = inr (record { fleet = fleet; known = known; finishes = told_with t (question.OtherSize fleet count) (bytes file.Proof) plan answer checking by tells });
      });
    }

    is_opened_on : (o : Opened) → IsOpenedOn t name count (bytes file.Proof) o → IsOpened (Some (whatif dir reading name count)) bytes o
    is_opened_on o x = of_fleet x.fleet x.known o x.opens

    pub whatif_opened : (r : Result Opened Halt) → MatchHalt r (IsOpenedOn t name count (bytes file.Proof)) (OnFleet t name (λ _. RefusesProof t (bytes file.Proof)))
        → MatchHalt r (IsOpened (Some (whatif dir reading name count)) bytes) (AnswersAtOnce (Some (whatif dir reading name count)) bytes)
    whatif_opened r = halt_weaker r _ _ _ _ is_opened_on fleet_refused
