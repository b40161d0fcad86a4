-- What it means where checking says that a proof holds.
use Rattle.std.proofs.Common.{◌≡◌, ℕ, Bool, true, false, List, Option, Some, None, ℤ, refl, sym, ap, ◌∙◌, inl, inr, arith}
use Rattle.bound_cert.specs.ReadProof.{ReadsAs}
use Rattle.bound_cert.specs.declared.reading.Proof.{Proof}
use Rattle.dual_bound.specs.declared.trees.Tree.{Tree}
use Rattle.cert_check.proofs.TreeBounds.{bounds_all}
use Rattle.cert_check.specs.Verdicts.{BoundsAll, IsChecked}
use Rattle.cert_check.specs.declared.checked.Checked.{Checked}
use Rattle.cert_check.specs.declared.checked.Checked.TheVariants as checked
use Rattle.command_words.specs.Words.{check}
use Rattle.fleet_model.specs.Kept.{all_pairs}
use Rattle.fleet_model.specs.Legal.{IsLegal, total_cost}
use Rattle.fleet_model.specs.declared.options.TableOptions.{TableOptions}
use Rattle.fleet_model.specs.declared.tables.Tables.{Tables}
use Rattle.plan_desk.specs.Desk.{Files}
use Rattle.plan_desk.specs.Sink.{output_with}
use Rattle.plan_desk.specs.declared.file.DeskFile.TheVariants as file
use Rattle.sched_read.specs.Files.{FilesRead}
use Rattle.folder_answers.proofs.Skeletons.{either_legal, either_plan, either_proof, either_tables}
use Rattle.fleet_cli.specs.Answer.{Answers}
use Rattle.folder_answers.specs.Commands.{ChecksTree, TellsOn, TellsProof, TellsRead, TellsWith, checked_status}
use Rattle.folder_answers.specs.Contents.{bytes_in, table_bytes}
use Rattle.folder_answers.specs.Gathered.{AllStand, IsHeldWithin}
use Rattle.fleet_cli.specs.Headline.{IsUnderCost, TellsBound}
use Rattle.fleet_cli.specs.Reading.{AllWithin}
use Rattle.folder_answers.specs.FileLists.{proof_files}
use Rattle.folder_answers.specs.Refusals.{says}
use Rattle.folder_answers.specs.Skeletons.{OnLegal, OnPlan, OnProof}
use Rattle.folder_answers.specs.Texts.{checked_text}
use Rattle.folder_answers.specs.declared.answer.Answer.{Answer}
use Rattle.folder_answers.specs.declared.opened.Question.TheVariants as question
use Rattle.folder_answers.specs.declared.status.TheConstants.{DONE}

-- a bound that is proved is no more than the cost of a legal plan
under_cost : (t : Tables) (plan : List ℕ) (bound : Option ℤ) → IsLegal t plan → BoundsAll t bound → IsUnderCost bound (total_cost t plan)
under_cost t plan None legal proven = absurd (proven.none plan legal)
under_cost t plan (Some least) legal proven = proven.each plan legal

-- a tree that is answered with status 0 holds
record HoldsAs (t : Tables) (cost : Option ℤ) (answer : Answer) : Type 0 where
  bound : Option ℤ
  proven : BoundsAll t bound
  text_is : answer.text ≡ checked_text cost (checked.Holds bound)

module _ (answer : Answer) (done : answer.status.code ≡ DONE) where
  -- another status
  pub other : (code : ℕ) (text : List ℕ) → answer ≡ says code text → ¬ (code ≡ 0) → ⊥
  other code text is differs = differs (sym (ap (λ (a : Answer). a.status.code) is) ∙ done)

  tree_holds : (t : Tables) (cost : Option ℤ) (whole : Tree) → ChecksTree t cost whole answer → HoldsAs t cost answer
  tree_holds t cost whole x = by_verdict x.verdict x.checked x.is
    where
      by_verdict : (v : Checked) → IsChecked t cost whole v → answer ≡ says (checked_status v) (checked_text cost v) → HoldsAs t cost answer
      by_verdict (checked.Holds bound) holds is =
          record { bound = bound; proven = bounds_all t cost (all_pairs t) whole bound refl holds.sound holds.bounded; text_is = ap (λ (a : Answer). a.text) is }
      by_verdict (checked.Broken node rule) breaks is = absurd (other 9 _ is (λ e. omega arith))

  module _ (held : Files) (dir : List ℕ) (reading : TableOptions) (before after : Option (List ℕ)) (put : after ≡ output_with before answer.text)
      (within : AllWithin (Some (check dir reading)) held) (there : AllStand held dir (proof_files reading)) (t : Tables) (reads : FilesRead (table_bytes (bytes_in held dir)) reading t) where
    alone : HoldsAs t None answer → TellsBound held dir reading before after
    alone holds = record {
      tables = t;
      cost = None;
      bound = holds.bound;
      there = there;
      reads = reads;
      plan = tt;
      proven = holds.proven;
      under = tt;
      put = put ∙ ap (output_with before) holds.text_is;
    }

    with_plan : (whole : Tree) → IsHeldWithin held dir file.Plan (bytes_in held dir file.Plan) → OnPlan t (bytes_in held dir file.Plan) (OnLegal t (TellsWith t question.Holds whole)) answer → TellsBound held dir reading before after
    with_plan whole stands =
        either_plan answer (TellsBound held dir reading before after) t (bytes_in held dir file.Plan) (OnLegal t (TellsWith t question.Holds whole)) (λ refused. absurd (other 9 _ refused.is (λ e. omega arith)))
        (λ plan plan_reads. either_legal answer (TellsBound held dir reading before after) t (TellsWith t question.Holds whole) plan
        (λ refused. absurd (other _ _ refused.is (λ e. let bad : ◌≡◌ {A = ℕ} 9 0 = sym refused.refused ∙ e in omega arith)))
        (λ legal checks. let holds = tree_holds t (Some (total_cost t plan)) whole checks in record {
          tables = t;
          cost = Some (total_cost t plan);
          bound = holds.bound;
          there = there;
          reads = reads;
          plan = record { plan = plan; there = stands; reads = plan_reads; legal = legal; costs = refl };
          proven = holds.proven;
          under = under_cost t plan holds.bound legal holds.proven;
          put = put ∙ ap (output_with before) holds.text_is;
        }))

    by_plan : (proof : Proof) (planned : Bool) → ReadsAs t (bytes_in held dir file.Proof) proof → proof.planned ≡ planned → TellsProof t question.Holds planned proof.tree (bytes_in held dir file.Plan) answer → TellsBound held dir reading before after
    by_plan proof false text_reads says checks = alone (tree_holds t None proof.tree checks)
    by_plan proof true text_reads says checks =
        with_plan proof.tree (within.further file.Plan (refl, record { tables = t; proof = proof; reads = reads; proof_reads = text_reads; planned = says })) checks

    by_proof : OnProof t (bytes_in held dir file.Proof) (TellsRead t question.Holds (bytes_in held dir file.Plan)) answer → TellsBound held dir reading before after
    by_proof =
        either_proof answer (TellsBound held dir reading before after) t (bytes_in held dir file.Proof) (TellsRead t question.Holds (bytes_in held dir file.Plan))
        (λ refused. absurd (other 9 _ refused.is (λ e. omega arith))) (λ proof text_reads. by_plan proof proof.planned text_reads refl)

  pub checked_tells : (held : Files) (dir : List ℕ) (reading : TableOptions) (before after : Option (List ℕ)) → Answers held (Some (check dir reading)) answer → after ≡ output_with before answer.text
      → TellsBound held dir reading before after
  checked_tells held dir reading before after (inl long) put = absurd (other 6 _ long.is (λ e. omega arith))
  checked_tells held dir reading before after (inr read) put =
      either_tables answer (TellsBound held dir reading before after) reading (table_bytes (bytes_in held dir)) (TellsOn question.Holds (bytes_in held dir file.Proof) (bytes_in held dir file.Plan))
      (λ refused. absurd (other 6 _ refused.is (λ e. omega arith))) (by_proof held dir reading before after put read.within read.within.first) read.answers
