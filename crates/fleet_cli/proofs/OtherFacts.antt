-- What it means where a proof is asked about another number of aircraft, and a bound is told or that there is no plan.
use Rattle.std.proofs.Common.{◌≡◌, ℕ, Bool, true, false, List, Option, Some, None, ℤ, sym, ap, ◌∙◌, inl, inr, arith}
use Rattle.dual_bound.specs.declared.trees.Tree.{Tree}
use Rattle.cert_check.proofs.OtherSizes.{bounds_there}
use Rattle.cert_check.proofs.SplitsAbove.{are_sound_but_priced}
use Rattle.cert_check.specs.OtherSizes.{IsAskedOfTree, StandsWith, answer_of}
use Rattle.cert_check.specs.Splits.{AreSoundButPriced}
use Rattle.cert_check.specs.Verdicts.{BoundsAll, IsChecked}
use Rattle.cert_check.specs.declared.checked.Checked.{Checked}
use Rattle.cert_check.specs.declared.checked.Checked.TheVariants as checked
use Rattle.cert_check.specs.declared.what_if.WhatIf.{WhatIf}
use Rattle.cert_check.specs.declared.what_if.WhatIf.TheVariants as what
use Rattle.command_words.specs.Words.{whatif}
use Rattle.fleet_model.specs.Kept.{all_pairs}
use Rattle.fleet_model.specs.Legal.{total_cost}
use Rattle.fleet_model.specs.OtherSizes.{IsOtherSize}
use Rattle.fleet_model.specs.Schedule.{fleet_of}
use Rattle.fleet_model.specs.declared.options.TableOptions.{TableOptions}
use Rattle.fleet_model.specs.declared.tables.Tables.{Tables}
use Rattle.plan_desk.specs.Desk.{Files}
use Rattle.plan_desk.specs.Sink.{output_with}
use Rattle.plan_desk.specs.declared.file.DeskFile.TheVariants as file
use Rattle.sched_read.specs.Files.{FilesRead}
use Rattle.fleet_cli.proofs.BoundFacts.{other}
use Rattle.folder_answers.proofs.Skeletons.{either_fleet, either_legal, either_plan, either_proof, either_tables}
use Rattle.fleet_cli.specs.Answer.{Answers}
use Rattle.folder_answers.specs.Commands.{AsksChecked, AsksOn, AsksTree, SaysOfOther, TellsOn, TellsProof, TellsRead, TellsWith, what_if_status}
use Rattle.folder_answers.specs.Contents.{bytes_in, table_bytes}
use Rattle.folder_answers.specs.Gathered.{AllStand}
use Rattle.fleet_cli.specs.Headline.{TellsOther}
use Rattle.folder_answers.specs.FileLists.{proof_files}
use Rattle.folder_answers.specs.Refusals.{says}
use Rattle.folder_answers.specs.Skeletons.{OnLegal}
use Rattle.folder_answers.specs.Texts.{what_if_text}
use Rattle.folder_answers.specs.declared.answer.Answer.{Answer}
use Rattle.folder_answers.specs.declared.opened.Question.TheVariants as question
use Rattle.folder_answers.specs.declared.status.TheConstants.{DONE}

-- a bound of the tables in which a fleet has so many aircraft is told
record IsToldOf (t : Tables) (fleet count : ℕ) (answer : Answer) : Type 0 where
  there : Tables
  bound : Option ℤ
  sized : IsOtherSize t fleet count there
  proven : BoundsAll there bound
  text_is : answer.text ≡ what_if_text (fleet_of t fleet).name count (answer_of bound)

module _ (answer : Answer) (done : answer.status.code ≡ DONE) where
  module _ (t : Tables) (fleet count : ℕ) where
    -- a tree that holds, and all of whose nodes stand there
    stands_there : (tree : Tree) (bound : Option ℤ) (there : Tables) → IsOtherSize t fleet count there → AreSoundButPriced t (all_pairs t) tree → StandsWith there tree bound
        → answer ≡ says DONE (what_if_text (fleet_of t fleet).name count (answer_of bound)) → IsToldOf t fleet count answer
    stands_there tree bound there sized sound stands is = record {
      there = there;
      bound = bound;
      sized = sized;
      proven = bounds_there t fleet count there sized tree bound sound stands.stand stands.bounded;
      text_is = ap (λ (a : Answer). a.text) is;
    }

    says_there : (tree : Tree) → AreSoundButPriced t (all_pairs t) tree → SaysOfOther t fleet count tree answer → IsToldOf t fleet count answer
    says_there tree sound x = by_answer x.what x.asked x.is
      where
        by_answer : (w : WhatIf) → IsAskedOfTree x.other tree w → answer ≡ says (what_if_status w) (what_if_text (fleet_of t fleet).name count w) → IsToldOf t fleet count answer
        by_answer (what.Fallen node) asked is = absurd (other answer done 11 _ is (λ e. omega arith))
        by_answer what.NoPlan asked is = stands_there tree None x.other x.sized sound asked is
        by_answer (what.Bound bound) asked is = stands_there tree (Some bound) x.other x.sized sound asked is

    tree_told : (cost : Option ℤ) (tree : Tree) → AsksTree t fleet count cost tree answer → IsToldOf t fleet count answer
    tree_told cost tree x = by_verdict x.verdict x.checked x.asks
      where
        by_verdict : (v : Checked) → IsChecked t cost tree v → AsksChecked t fleet count tree v answer → IsToldOf t fleet count answer
        by_verdict (checked.Holds bound) holds asks = says_there tree (are_sound_but_priced t cost (all_pairs t) tree holds.sound) asks
        by_verdict (checked.Broken node rule) breaks asks = absurd (other answer done 9 _ asks (λ e. omega arith))

    -- with a plan, or with none
    proof_told : (planned : Bool) (tree : Tree) (plan : List ℕ) → TellsProof t (question.OtherSize fleet count) planned tree plan answer → IsToldOf t fleet count answer
    proof_told false tree plan = tree_told None tree
    proof_told true tree plan =
        either_plan answer (IsToldOf t fleet count answer) t plan (OnLegal t (TellsWith t (question.OtherSize fleet count) tree)) (λ refused. absurd (other answer done 9 _ refused.is (λ e. omega arith)))
        (λ p reads. either_legal answer (IsToldOf t fleet count answer) t (TellsWith t (question.OtherSize fleet count) tree) p
        (λ refused. absurd (other answer done _ _ refused.is (λ e. let bad : ◌≡◌ {A = ℕ} 9 0 = sym refused.refused ∙ e in omega arith)))
        (λ legal. tree_told (Some (total_cost t p)) tree))

    text_told : (text plan : List ℕ) → TellsOn (question.OtherSize fleet count) text plan t answer → IsToldOf t fleet count answer
    text_told text plan =
        either_proof answer (IsToldOf t fleet count answer) t text (TellsRead t (question.OtherSize fleet count) plan) (λ refused. absurd (other answer done 9 _ refused.is (λ e. omega arith)))
        (λ proof reads. proof_told proof.planned proof.tree plan)

  module _ (held : Files) (dir : List ℕ) (reading : TableOptions) (name : List ℕ) (count : ℕ) (before after : Option (List ℕ)) (put : after ≡ output_with before answer.text) where
    on_tables : AllStand held dir (proof_files reading) → (t : Tables) → FilesRead (table_bytes (bytes_in held dir)) reading t
        → AsksOn name count (bytes_in held dir file.Proof) (bytes_in held dir file.Plan) t answer → TellsOther held dir reading name count before after
    on_tables there t reads =
        either_fleet answer (TellsOther held dir reading name count before after) t name (λ fleet. TellsOn (question.OtherSize fleet count) (bytes_in held dir file.Proof) (bytes_in held dir file.Plan) t)
        (λ refused. absurd (other answer done 9 _ refused.is (λ e. omega arith)))
        (λ fleet known tells. let told = text_told t fleet count (bytes_in held dir file.Proof) (bytes_in held dir file.Plan) tells in record {
          tables = t;
          fleet = fleet;
          other = told.there;
          bound = told.bound;
          there = there;
          reads = reads;
          known = known;
          sized = told.sized;
          proven = told.proven;
          put = put ∙ ap (output_with before) told.text_is;
        })

    pub asked_tells : Answers held (Some (whatif dir reading name count)) answer → TellsOther held dir reading name count before after
    asked_tells (inl long) = absurd (other answer done 6 _ long.is (λ e. omega arith))
    asked_tells (inr read) =
        either_tables answer (TellsOther held dir reading name count before after) reading (table_bytes (bytes_in held dir)) (AsksOn name count (bytes_in held dir file.Proof) (bytes_in held dir file.Plan))
        (λ refused. absurd (other answer done 6 _ refused.is (λ e. omega arith))) (on_tables read.within.first) read.answers
