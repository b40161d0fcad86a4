-- What is held and what is asked fix the answer, and what is good is answered as such.
use Rattle.std.proofs.Common.{◌≡◌, ◌≢◌, ℕ, Bool, true, false, List, Option, Some, None, IfSome, ℤ, refl, sym, ap, subst, ◌∙◌, inl, inr, arith}
use Rattle.std.proofs.lemmas.Bool.{cases_Bool}
use Rattle.bound_cert.specs.declared.reading.Proof.{Proof}
use Rattle.dual_bound.specs.Leaves.{has_open}
use Rattle.dual_bound.specs.Nodes.{nodes_of}
use Rattle.dual_bound.specs.declared.trees.Tree.{Tree}
use Rattle.dual_bound.specs.declared.solved.Solved.{Solved}
use Rattle.dual_bound.specs.declared.solved.Solved.TheVariants as solved
use Rattle.cert_check.proofs.OneVerdict as tree
use Rattle.cert_check.specs.Verdicts.{HoldsWith}
use Rattle.cert_check.specs.declared.checked.Checked.TheVariants as checked
use Rattle.command_words.specs.Arguments.{AskedDates}
use Rattle.command_words.specs.Words.{Asked, check, due, judge, make, solve, tails, whatif}
use Rattle.command_words.specs.declared.command.RotationLimits.{RotationLimits}
use Rattle.command_words.specs.declared.command.SolveOptions.{SolveOptions}
use Rattle.fleet_model.specs.Legal.{total_cost}
use Rattle.fleet_model.specs.declared.options.TableOptions.{TableOptions}
use Rattle.fleet_model.specs.declared.refusals.TheConstants.{TOO_LONG}
use Rattle.fleet_model.specs.declared.tables.Tables.{Tables}
use Rattle.plan_desk.specs.Desk.{Files}
use Rattle.plan_desk.specs.Sink.{output_with}
use Rattle.plan_desk.specs.declared.file.DeskFile.TheVariants as file
use Rattle.plan_judge.proofs.OneVerdict.{one_verdict}
use Rattle.plan_judge.specs.declared.verdicts.Verdict.TheVariants as verdict
use Rattle.due_report.specs.Placings.{are_unplaced}
use Rattle.tail_dates.specs.declared.placing.Placed.{Placed}
use Rattle.fleet_cli.proofs.MadeFolder.{flyable, none_reached, none_read}
use Rattle.fleet_cli.proofs.OneReading.{one_too_long, within_or_long}
use Rattle.fleet_cli.proofs.AskedTrees.{asked_of}
use Rattle.folder_answers.proofs.AskedTrees.{one_told}
use Rattle.fleet_cli.proofs.OpenFacts.{no_plan_alone}
use Rattle.fleet_cli.proofs.SameBytes.{follows_plan}
use Rattle.folder_answers.proofs.Skeletons.{one_fleet, one_legal, one_plan, one_proof, one_tables, one_tails, there_fleet, there_legal, there_plan, there_proof, there_tables, there_tails}
use Rattle.fleet_cli.specs.Answer.{Answers, AnswersOf, AnswersSome, GivesSolution, Solves}
use Rattle.folder_answers.specs.Commands.{Asks, AsksOn, Checks, ChecksTree, DueOf, DueOn, DueWith, Judges, JudgesOn, JudgesPlan, TailsOf, TailsOn, TellsDue, TellsOn, TellsProof, TellsRead, TellsTails, TellsTree, TellsWith, checked_status, due_status}
use Rattle.folder_answers.specs.Contents.{FileBytes, bytes_in, table_bytes}
use Rattle.folder_answers.specs.Gathered.{AllStand, IsHeldWithin}
use Rattle.fleet_cli.specs.Laws.{IsFixed}
use Rattle.fleet_cli.specs.Reading.{AllWithin, IsReadAfter, WantsPlan, first_files, folder_of}
use Rattle.folder_answers.specs.Refusals.{says, verdict_status}
use Rattle.fleet_cli.specs.Run.{AnswersExactly, DueThere, FleetProofThere, IsAskedOf, IsComplete, IsCostThere, IsSolution, IsTold, LegalThere, ProofThere, TablesThere}
use Rattle.folder_answers.specs.Skeletons.{OnLegal}
use Rattle.folder_answers.specs.Solution.{solved_status}
use Rattle.folder_answers.specs.Texts.{bad_input_text, checked_text, verdict_text}
use Rattle.folder_answers.specs.declared.answer.Answer.{Answer}
use Rattle.folder_answers.specs.declared.opened.Question.{Question}
use Rattle.folder_answers.specs.declared.opened.Question.TheVariants as question
use Rattle.folder_answers.specs.declared.status.TheConstants.{BAD_INPUT, DONE, UNPLACED}

-- a solution has a status that tells of one
pub solution_status : (s : Solved) → IsSolution (solved_status s)
solution_status (solved.Planned plan cost bound tree) = elim (cases_Bool (has_open tree)) [
  | inl is_open ↦ rw is_open (inr (inl refl))
  | inr closed ↦ rw closed (inl refl)
]
solution_status (solved.Infeasible tree) = inr (inr (inl refl))
solution_status (solved.Unsettled bound tree) = inr (inr (inr refl))

pub not_refused : (code : ℕ) → IsSolution code → ¬ (code ≡ BAD_INPUT)
not_refused code (inl is) refused = let bad : ◌≡◌ {A = ℕ} 0 6 = sym is ∙ refused in omega arith
not_refused code (inr (inl is)) refused = let bad : ◌≡◌ {A = ℕ} 3 6 = sym is ∙ refused in omega arith
not_refused code (inr (inr (inl is))) refused = let bad : ◌≡◌ {A = ℕ} 4 6 = sym is ∙ refused in omega arith
not_refused code (inr (inr (inr is))) refused = let bad : ◌≡◌ {A = ℕ} 5 6 = sym is ∙ refused in omega arith

never_refused : (s : Solved) → ¬ (solved_status s ≡ BAD_INPUT)
never_refused s refused = not_refused (solved_status s) (solution_status s) refused

-- tails are placed, or those of some fleet can't be
due_told : (placings : List (Option Placed)) → IsTold (due_status placings)
due_told placings = elim (cases_Bool (are_unplaced placings)) [
  | inl unplaced ↦ rw unplaced (inr refl)
  | inr placed ↦ rw placed (inl refl)
]

never_told : (answer : Answer) (code : ℕ) → code ≡ answer.status.code → IsTold code → (answer.status.code ≢ DONE) × (answer.status.code ≢ UNPLACED) → ⊥
never_told answer code is (inl done) fixed = fixed.0 (sym is ∙ done)
never_told answer code is (inr unplaced) fixed = fixed.1 (sym is ∙ unplaced)

-- the bytes that are read fix the answer
module _ (answer other : Answer) where
  module _ (t : Tables) where
    judges : (plan : List ℕ) → JudgesPlan t plan answer → JudgesPlan t plan other → answer ≡ other
    judges plan x y = x.is ∙ ap (λ v. says (verdict_status v) (verdict_text t plan v)) (one_verdict t plan x.verdict y.verdict x.judged y.judged) ∙ sym y.is

    -- trees of one list of nodes
    module _ (one two : Tree) (nodes : nodes_of one ≡ nodes_of two) where
      checks_tree : (cost : Option ℤ) → ChecksTree t cost one answer → ChecksTree t cost two other → answer ≡ other
      checks_tree cost x y =
          x.is ∙ ap (λ v. says (checked_status v) (checked_text cost v)) (tree.one_verdict t cost one two x.verdict y.verdict nodes x.checked y.checked) ∙ sym y.is

      tells_tree : (asks : Question) (cost : Option ℤ) → TellsTree t asks cost one answer → TellsTree t asks cost two other → answer ≡ other
      tells_tree question.Holds cost x y = checks_tree cost x y
      tells_tree (question.OtherSize fleet count) cost x y = one_told t fleet count cost one two nodes answer other x y

      tells_proof : (asks : Question) (planned : Bool) (plan : List ℕ) → TellsProof t asks planned one plan answer → TellsProof t asks planned two plan other → answer ≡ other
      tells_proof asks false plan x y = tells_tree asks None x y
      tells_proof asks true plan x y =
          one_plan answer other t plan (OnLegal t (TellsWith t asks one)) (OnLegal t (TellsWith t asks two))
          (λ p. one_legal answer other t (TellsWith t asks one) (TellsWith t asks two) p (tells_tree asks (Some (total_cost t p)))) x y

    tells_read : (asks : Question) (plan : List ℕ) (p q : Proof) → p.planned ≡ q.planned → nodes_of p.tree ≡ nodes_of q.tree → TellsRead t asks plan p answer → TellsRead t asks plan q other → answer ≡ other
    tells_read asks plan p q same nodes x y = tells_proof p.tree q.tree nodes asks q.planned plan (subst (λ planned. TellsProof t asks planned p.tree plan answer) same x) y

    tells_on : (asks : Question) (text plan : List ℕ) → TellsOn asks text plan t answer → TellsOn asks text plan t other → answer ≡ other
    tells_on asks text plan = one_proof answer other t text (TellsRead t asks plan) (tells_read asks plan)

  one_of : (asked : Option Asked) (bytes : FileBytes) → AnswersOf asked bytes answer → AnswersOf asked bytes other → IsFixed asked other → answer ≡ other
  one_of None bytes x y fixed = x ∙ sym y
  one_of (Some (judge dir reading)) bytes x y fixed =
      one_tables answer other reading (table_bytes bytes) (JudgesOn (bytes file.Plan))
      (λ t. one_plan answer other t (bytes file.Plan) (JudgesPlan t) (JudgesPlan t) (judges t)) x y
  one_of (Some (solve dir reading options)) bytes x y fixed =
      one_tables answer other reading (table_bytes bytes) (GivesSolution options) (λ t a b. absurd (never_refused b.solution (sym (ap (λ (a : Answer). a.status.code) b.is) ∙ fixed))) x y
  one_of (Some (check dir reading)) bytes x y fixed =
      one_tables answer other reading (table_bytes bytes) (TellsOn question.Holds (bytes file.Proof) (bytes file.Plan))
      (λ t. tells_on t question.Holds (bytes file.Proof) (bytes file.Plan)) x y
  one_of (Some (tails dir reading limits dates)) bytes x y fixed =
      one_tables answer other reading (table_bytes bytes) (TailsOn limits dates (bytes file.Plan))
      (λ t. one_plan answer other t (bytes file.Plan) (OnLegal t (TellsTails t limits dates)) (OnLegal t (TellsTails t limits dates))
      (λ p. one_legal answer other t (TellsTails t limits dates) (TellsTails t limits dates) p (λ a b. absurd (fixed (ap (λ (a : Answer). a.status.code) b.finishes.is))))) x y
  one_of (Some (due dir reading limits dates)) bytes x y fixed =
      one_tables answer other reading (table_bytes bytes) (DueOn limits dates (bytes file.Tails) (bytes file.Plan))
      (λ t. one_tails answer other t (bytes file.Tails) (DueWith limits dates (bytes file.Plan) t)
      (λ s. one_plan answer other t (bytes file.Plan) (OnLegal t (TellsDue t limits dates s)) (OnLegal t (TellsDue t limits dates s))
      (λ p. one_legal answer other t (TellsDue t limits dates s) (TellsDue t limits dates s) p
      (λ a b. absurd (never_told other (due_status b.finishes.placings) (sym (ap (λ (a : Answer). a.status.code) b.finishes.is)) (due_told b.finishes.placings) fixed))))) x y
  one_of (Some (make dir number legs)) bytes x y fixed = absurd fixed
  one_of (Some (whatif dir reading name count)) bytes x y fixed =
      one_tables answer other reading (table_bytes bytes) (AsksOn name count (bytes file.Proof) (bytes file.Plan))
      (λ t. one_fleet answer other t name (λ fleet. TellsOn (question.OtherSize fleet count) (bytes file.Proof) (bytes file.Plan) t)
      (λ fleet known. tells_on t (question.OtherSize fleet count) (bytes file.Proof) (bytes file.Plan))) x y

pub one_answer : (held : Files) (asked : Option Asked) (answer other : Answer) → Answers held asked answer → Answers held asked other → IsFixed asked other → answer ≡ other
one_answer held asked answer other (inl x) (inl y) fixed = x.is ∙ ap (λ f. says BAD_INPUT (bad_input_text f 0 TOO_LONG)) (one_too_long asked held x.file y.file x.longer y.longer) ∙ sym y.is
one_answer held asked answer other (inl x) (inr y) fixed = absurd (within_or_long asked held x.file y.within x.longer)
one_answer held asked answer other (inr x) (inl y) fixed = absurd (within_or_long asked held y.file x.within y.longer)
one_answer held asked answer other (inr x) (inr y) fixed = one_of answer other asked (bytes_in held (folder_of asked)) x.answers y.answers fixed

-- what was put is the definition's answer
pub exactly : (told : Option Files) (asked : Option Asked) (answer : Answer) (code : ℕ) (before after : Option (List ℕ)) → IfSome told (λ held. Answers held asked answer)
    → code ≡ answer.status.code → after ≡ output_with before answer.text → IfSome told (λ held. AnswersExactly held asked code before after)
exactly None asked answer code before after answers is put = tt
exactly (Some held) asked answer code before after answers is put = λ other wanted fixed.
    let same = one_answer held asked answer other answers wanted fixed in
    record { code_is = is ∙ ap (λ (a : Answer). a.status.code) same; put = put ∙ ap (λ (a : Answer). output_with before a.text) same }

-- the first files stand there within their limits, and so does the plan where it is asked for
pub all_within : (held : Files) (asked : Option Asked) → AllStand held (folder_of asked) (first_files asked)
    → (IsReadAfter asked (bytes_in held (folder_of asked)) file.Plan → IsHeldWithin held (folder_of asked) file.Plan (bytes_in held (folder_of asked) file.Plan)) → AllWithin asked held
all_within held asked stand further = record {
  first = stand;
  further = λ f follows.
      let plan = follows_plan asked (bytes_in held (folder_of asked)) f follows in
      subst (λ g. IsHeldWithin held (folder_of asked) g (bytes_in held (folder_of asked) g)) (sym plan) (further (subst (λ g. IsReadAfter asked (bytes_in held (folder_of asked)) g) plan follows));
}

-- what the files answer, where those stand there that are read
module _ (held : Files) (asked : Option Asked) (answer : Answer) where
  read_there : Answers held asked answer → AllStand held (folder_of asked) (first_files asked)
      → (IsReadAfter asked (bytes_in held (folder_of asked)) file.Plan → IsHeldWithin held (folder_of asked) file.Plan (bytes_in held (folder_of asked) file.Plan))
      → AnswersOf asked (bytes_in held (folder_of asked)) answer
  read_there (inl x) stand further = absurd (within_or_long asked held x.file (all_within held asked stand further) x.longer)
  read_there (inr x) stand further = x.answers

module _ (held : Files) (dir : List ℕ) (reading : TableOptions) (answer : Answer) where
  -- a legal plan is judged so
  legal_there : (x : LegalThere held dir reading) → Judges reading (table_bytes (bytes_in held dir)) (bytes_in held dir file.Plan) answer → answer.status.code ≡ DONE
  legal_there x answers =
      let read = there_tables answer reading (table_bytes (bytes_in held dir)) (JudgesOn (bytes_in held dir file.Plan)) x.tables x.reads answers in
      let told = there_plan answer x.tables (bytes_in held dir file.Plan) (JudgesPlan x.tables) x.plan x.plan_reads read in
      ap (λ (a : Answer). a.status.code) told.is
      ∙ ap verdict_status (one_verdict x.tables x.plan told.verdict (verdict.Legal (total_cost x.tables x.plan)) told.judged (x.legal, refl))

  -- and its tails are told
  tails_there : (limits : RotationLimits) (dates : AskedDates) (x : LegalThere held dir reading)
      → TailsOf reading limits dates (table_bytes (bytes_in held dir)) (bytes_in held dir file.Plan) answer → answer.status.code ≡ DONE
  tails_there limits dates x answers =
      let read = there_tables answer reading (table_bytes (bytes_in held dir)) (TailsOn limits dates (bytes_in held dir file.Plan)) x.tables x.reads answers in
      let judged = there_plan answer x.tables (bytes_in held dir file.Plan) (OnLegal x.tables (TellsTails x.tables limits dates)) x.plan x.plan_reads read in
      let told = there_legal answer x.tables (TellsTails x.tables limits dates) x.plan x.legal judged in
      ap (λ (a : Answer). a.status.code) told.finishes.is

  -- so is what named tails fly, where their table reads
  due_there : (limits : RotationLimits) (dates : AskedDates) (x : DueThere held dir reading)
      → DueOf reading limits dates (table_bytes (bytes_in held dir)) (bytes_in held dir file.Tails) (bytes_in held dir file.Plan) answer → IsTold answer.status.code
  due_there limits dates x answers =
      let read = there_tables answer reading (table_bytes (bytes_in held dir)) (DueOn limits dates (bytes_in held dir file.Tails) (bytes_in held dir file.Plan)) x.tables x.reads answers in
      let listed = there_tails answer x.tables (bytes_in held dir file.Tails) (DueWith limits dates (bytes_in held dir file.Plan) x.tables) x.tails x.tails_read read in
      let judged = there_plan answer x.tables (bytes_in held dir file.Plan) (OnLegal x.tables (TellsDue x.tables limits dates x.tails)) x.plan x.plan_reads listed in
      let told = there_legal answer x.tables (TellsDue x.tables limits dates x.tails) x.plan x.legal judged in
      rw (ap (λ (a : Answer). a.status.code) told.finishes.is) (due_told told.finishes.placings)

  -- tables that read are solved
  solved_there : (options : SolveOptions) (x : TablesThere held dir reading) → Solves reading options (table_bytes (bytes_in held dir)) answer → IsSolution answer.status.code
  solved_there options x answers =
      let gives = there_tables answer reading (table_bytes (bytes_in held dir)) (GivesSolution options) x.tables x.reads answers in
      rw (ap (λ (a : Answer). a.status.code) gives.is) (solution_status gives.solution)

  -- of a proof that holds it is told what is asked
  abbrev told_status : Question → ℕ → Type 0
  told_status question.Holds code = code ≡ DONE
  told_status (question.OtherSize fleet count) code = IsAskedOf code

  module _ (t : Tables) (asks : Question) (one two : Tree) (nodes : nodes_of two ≡ nodes_of one) where
    tree_there : (q : Question) (cost : Option ℤ) (bound : Option ℤ) → HoldsWith t cost one bound → TellsTree t q cost two answer → told_status q answer.status.code
    tree_there question.Holds cost bound holds x =
        ap (λ (a : Answer). a.status.code) x.is ∙ ap checked_status (tree.one_verdict t cost two one x.verdict (checked.Holds bound) nodes x.checked holds)
    tree_there (question.OtherSize fleet count) cost bound holds x =
        asked_of t fleet count two answer bound x.verdict (tree.one_verdict t cost two one x.verdict (checked.Holds bound) nodes x.checked holds) x.asks

    cost_there : (planned : Bool) (cost bound : Option ℤ) → IsCostThere held dir t planned cost → HoldsWith t cost one bound → TellsProof t asks planned two (bytes_in held dir file.Plan) answer
        → told_status asks answer.status.code
    cost_there planned None bound none holds answers = tree_there asks None bound holds (subst (λ p. TellsProof t asks p two (bytes_in held dir file.Plan) answer) none answers)
    cost_there planned (Some cost) bound some holds answers =
        let with_plan = subst (λ p. TellsProof t asks p two (bytes_in held dir file.Plan) answer) some.0 answers in
        let judged = there_plan answer t (bytes_in held dir file.Plan) (OnLegal t (TellsWith t asks two)) some.1.plan some.1.reads with_plan in
        tree_there asks (Some (total_cost t some.1.plan)) bound (rw some.1.costs at holds) (there_legal answer t (TellsWith t asks two) some.1.plan some.1.legal judged)

  told_there : (x : ProofThere held dir reading) (asks : Question) → TellsOn asks (bytes_in held dir file.Proof) (bytes_in held dir file.Plan) x.tables answer → told_status asks answer.status.code
  told_there x asks read =
      let own = there_proof answer x.tables (bytes_in held dir file.Proof) (TellsRead x.tables asks (bytes_in held dir file.Plan)) x.proof x.proof_reads read in
      cost_there x.tables asks x.proof.tree own.0.tree own.2 x.proof.planned x.cost x.bound x.plan x.holds
      (subst (λ p. TellsProof x.tables asks p own.0.tree (bytes_in held dir file.Plan) answer) own.1 own.3)

  proof_there : (x : ProofThere held dir reading) → Checks reading (table_bytes (bytes_in held dir)) (bytes_in held dir file.Proof) (bytes_in held dir file.Plan) answer → answer.status.code ≡ DONE
  proof_there x answers =
      told_there x question.Holds (there_tables answer reading (table_bytes (bytes_in held dir)) (TellsOn question.Holds (bytes_in held dir file.Proof) (bytes_in held dir file.Plan)) x.tables x.reads answers)

  -- and where there is such a fleet, it is asked
  fleet_there : (name : List ℕ) (count : ℕ) (x : FleetProofThere held dir reading name)
      → Asks reading name count (table_bytes (bytes_in held dir)) (bytes_in held dir file.Proof) (bytes_in held dir file.Plan) answer → IsAskedOf answer.status.code
  fleet_there name count x answers =
      let t = x.proof.tables in
      let read = there_tables answer reading (table_bytes (bytes_in held dir)) (AsksOn name count (bytes_in held dir file.Proof) (bytes_in held dir file.Plan)) t x.proof.reads answers in
      let own = there_fleet answer t name (λ fleet. TellsOn (question.OtherSize fleet count) (bytes_in held dir file.Proof) (bytes_in held dir file.Plan) t) x.known read in
      told_there x.proof (question.OtherSize own.0 count) own.1

-- the plan stands there where the proof asks for it
plan_further : (held : Files) (dir : List ℕ) (reading : TableOptions) (x : ProofThere held dir reading) → (cost : Option ℤ) → IsCostThere held dir x.tables x.proof.planned cost
    → WantsPlan reading (table_bytes (bytes_in held dir)) (bytes_in held dir file.Proof) → IsHeldWithin held dir file.Plan (bytes_in held dir file.Plan)
plan_further held dir reading x None none wants = absurd (no_plan_alone reading (table_bytes (bytes_in held dir)) (bytes_in held dir file.Proof) x.tables x.reads x.proof x.proof_reads none wants)
plan_further held dir reading x (Some cost) some wants = some.1.there

pub complete_there : (held : Files) (asked : Option Asked) (answer : Answer) → Answers held asked answer → IsComplete (Some held) asked answer.status.code
complete_there held None answer answers = tt
complete_there held (Some (judge dir reading)) answer answers =
    λ legal. legal_there held dir reading answer legal (read_there held (Some (judge dir reading)) answer answers legal.there (λ follows. absurd follows))
complete_there held (Some (solve dir reading options)) answer answers =
    λ there. solved_there held dir reading answer options there (read_there held (Some (solve dir reading options)) answer answers there.there (λ follows. absurd follows))
complete_there held (Some (check dir reading)) answer answers =
    λ there. proof_there held dir reading answer there (read_there held (Some (check dir reading)) answer answers there.there (λ follows. plan_further held dir reading there there.cost there.plan follows.1))
complete_there held (Some (tails dir reading limits dates)) answer answers =
    λ legal. tails_there held dir reading answer limits dates legal (read_there held (Some (tails dir reading limits dates)) answer answers legal.there (λ follows. absurd follows))
complete_there held (Some (due dir reading limits dates)) answer answers =
    λ legal. due_there held dir reading answer limits dates legal (read_there held (Some (due dir reading limits dates)) answer answers legal.there (λ follows. absurd follows))
complete_there held (Some (make dir number legs)) answer (inl long) = absurd (none_reached held dir number legs long.file long.longer.reached)
complete_there held (Some (make dir number legs)) answer (inr read) = flyable number legs answer read.answers
complete_there held (Some (whatif dir reading name count)) answer answers =
    λ there. fleet_there held dir reading answer name count there (read_there held (Some (whatif dir reading name count)) answer answers there.proof.there
    (λ follows. plan_further held dir reading there.proof there.proof.cost there.proof.plan follows.1.wants))

-- the same of a desk that may not tell: what is made rests on nothing that is held
complete_by : (told : Option Files) (asked : Option Asked) (longer : Type 0) (answer : Answer) → IfSome told (λ held. Answers held asked answer) → AnswersSome longer asked answer → IsComplete told asked answer.status.code
complete_by (Some held) asked longer answer answers some = complete_there held asked answer answers
complete_by None None longer answer answers some = tt
complete_by None (Some (judge dir reading)) longer answer answers some = λ none. absurd none
complete_by None (Some (solve dir reading options)) longer answer answers some = λ none. absurd none
complete_by None (Some (check dir reading)) longer answer answers some = λ none. absurd none
complete_by None (Some (tails dir reading limits dates)) longer answer answers some = λ none. absurd none
complete_by None (Some (due dir reading limits dates)) longer answer answers some = λ none. absurd none
complete_by None (Some (make dir number legs)) longer answer answers (inl long) = absurd (none_read dir number legs long.file long.longer.read)
complete_by None (Some (make dir number legs)) longer answer answers (inr some) = flyable number legs answer some.1
complete_by None (Some (whatif dir reading name count)) longer answer answers some = λ none. absurd none

pub complete : (told : Option Files) (asked : Option Asked) (longer : Type 0) (answer : Answer) (code : ℕ) → IfSome told (λ held. Answers held asked answer) → AnswersSome longer asked answer
    → code ≡ answer.status.code → IsComplete told asked code
complete told asked longer answer code answers some is = rw is (complete_by told asked longer answer answers some)
