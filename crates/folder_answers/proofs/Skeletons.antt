-- What is read one after the other: one answer, what follows of it, and that what is good is not refused. Each of these
-- once, for whatever is answered on what was read.
use Rattle.std.proofs.Common.{◌≡◌, ℕ, ◌+◌, ◌-◌, Bool, List, length, Some, None, Err, Ok, refl, sym, ap, subst, ◌∙◌, inl, inr, arith}
use mathlib.Core.Bool.{false≢true}
use Rattle.std.specs.Prelude.{IsSome}
use Rattle.std.proofs.lemmas.Option.{same_Some}
use Rattle.bound_cert.specs.Lines.{Reading, Stopped, left_of}
use Rattle.bound_cert.specs.ReadProof.{IsFirstProofFault, ReadsAs}
use Rattle.bound_cert.specs.declared.faults.CertFault.{CertFault}
use Rattle.bound_cert.specs.declared.reading.Proof.{Proof}
use Rattle.csv_fields.specs.Record.{records_of}
use Rattle.dual_bound.specs.Nodes.{nodes_of}
use Rattle.dual_bound.specs.declared.nodes.Node.{Node}
use Rattle.fleet_model.specs.Legal.{IsLegal, total_cost}
use Rattle.fleet_model.specs.declared.options.TableOptions.{TableOptions}
use Rattle.fleet_model.specs.declared.tables.Tables.{Tables}
use Rattle.plan_judge.proofs.OneVerdict.{one_verdict}
use Rattle.plan_judge.specs.declared.verdicts.Verdict.TheVariants as verdict
use Rattle.plan_text.proofs.ReadOrNot.{reads_or_not}
use Rattle.plan_text.specs.Reading.{PlanReads}
use Rattle.sched_read.proofs.FileReadLaws as tables
use Rattle.sched_read.specs.Files.{AllBytes, FilesRead}
use Rattle.folder_answers.specs.Refusals.{RefusesFleet, RefusesPlan, RefusesProof, RefusesTables, RefusesTails, RefusesVerdict, fleet_named, says, verdict_status}
use Rattle.folder_answers.specs.Skeletons.{OnFleet, OnLegal, OnPlan, OnProof, OnTables, OnTails}
use Rattle.tail_dates.proofs.TailReads as tail_file
use Rattle.tail_dates.specs.TailTable.{TailsRead}
use Rattle.tail_dates.specs.declared.tails.TailState.{TailState}
use Rattle.folder_answers.specs.Texts.{verdict_text}
use Rattle.folder_answers.specs.declared.answer.Answer.{Answer}

-- ---- what a text reads as

-- a text has one first fault
record SameFault (one other : CertFault) : Type 0 where
  line_is : one.line ≡ other.line
  kind_is : one.kind ≡ other.kind

one_error : {A : Type 0} (one other : Stopped) → ◌≡◌ {A = Reading A} (Err one) (Err other) → one ≡ other
one_error one other e = cc

one_fault : (t : Tables) (bytes : List ℕ) (one other : CertFault) → IsFirstProofFault t (left_of bytes) one → IsFirstProofFault t (left_of bytes) other → SameFault one other
one_fault t bytes one other x y =
    let same = one_error _ _ (sym x.stops ∙ y.stops) in
    record { line_is = x.line ∙ ap (λ (s : Stopped). length (left_of bytes) - s.left + 1) same ∙ sym y.line; kind_is = ap (λ (s : Stopped). s.kind) same }

-- a text reads as one proof, or has a fault
one_value : {A : Type 0} (one other : A) → ◌≡◌ {A = Reading A} (Ok one) (Ok other) → one ≡ other
one_value one other e = cc

pub never_read : (t : Tables) (text : List ℕ) (answer : Answer) (proof : Proof) → RefusesProof t text answer → ReadsAs t text proof → ⊥
never_read t text answer proof x reads = let both = sym x.bad.stops ∙ reads in let never : ⊥ = cc in never

-- what the one proof of a text says
pub says_one : (t : Tables) (text : List ℕ) (one other : Proof) → ReadsAs t text one → ReadsAs t text other → (one.planned ≡ other.planned) × (nodes_of one.tree ≡ nodes_of other.tree)
says_one t text one other x y =
    let read = one_value _ _ (sym x ∙ y) in
    (ap (λ (p : Bool × List Node). p.0) read, ap (λ (p : Bool × List Node). p.1) read)

-- a plan that its verdict refuses isn't legal
never_legal : (t : Tables) (plan : List ℕ) (answer : Answer) → RefusesVerdict t plan answer → ¬ (IsLegal t plan)
never_legal t plan answer x legal =
    let same : x.verdict ≡ verdict.Legal (total_cost t plan) = one_verdict t plan x.verdict (verdict.Legal (total_cost t plan)) x.judged (legal, refl) in
    let bad : ◌≡◌ {A = ℕ} 0 9 = sym (ap verdict_status same) ∙ x.refused in
    omega arith

-- a table of tails that reads has no fault
module _ (t : Tables) (bytes : List ℕ) where
  never_listed : (answer : Answer) (tails : List TailState) → RefusesTails t bytes answer → TailsRead t (records_of bytes) tails → ⊥
  never_listed answer tails x reads = tail_file.no_fault t (records_of bytes) tails x.row x.kind reads x.bad

-- a name is that of a fleet, or of none
pub never_named : (t : Tables) (name : List ℕ) (fleet : ℕ) → fleet_named t name ≡ None → fleet_named t name ≡ Some fleet → ⊥
never_named t name fleet unknown known = let both = sym unknown ∙ known in let never : ⊥ = cc in never

-- .. and of one at most
one_named : (t : Tables) (name : List ℕ) (one two : ℕ) → fleet_named t name ≡ Some one → fleet_named t name ≡ Some two → one ≡ two
one_named t name one two x y = same_Some one two (sym x ∙ y)

-- ---- one answer

module _ (answer other : Answer) where
  refuses_tables : (reading : TableOptions) (bytes : AllBytes) → RefusesTables bytes reading answer → RefusesTables bytes reading other → answer ≡ other
  refuses_tables reading bytes x y =
      let same = tables.one_first_fault bytes reading x.file y.file x.row y.row x.kind y.kind x.bad y.bad in
      x.is ∙ rw (same.file_is, same.row_is, same.kind_is) refl ∙ sym y.is

  refuses_plan : (t : Tables) (bytes : List ℕ) → RefusesPlan t bytes answer → RefusesPlan t bytes other → answer ≡ other
  refuses_plan t bytes x y =
      let same = (reads_or_not t (records_of bytes)).one_fault x.row x.kind y.row y.kind x.bad y.bad in
      x.is ∙ rw (same.0, same.1) refl ∙ sym y.is

  refuses_verdict : (t : Tables) (plan : List ℕ) → RefusesVerdict t plan answer → RefusesVerdict t plan other → answer ≡ other
  refuses_verdict t plan x y =
      let same = one_verdict t plan x.verdict y.verdict x.judged y.judged in
      x.is ∙ ap (λ v. says (verdict_status v) (verdict_text t plan v)) same ∙ sym y.is

  refuses_proof : (t : Tables) (bytes : List ℕ) → RefusesProof t bytes answer → RefusesProof t bytes other → answer ≡ other
  refuses_proof t bytes x y =
      let same = one_fault t bytes x.fault y.fault x.bad y.bad in
      x.is ∙ rw (same.line_is, same.kind_is) refl ∙ sym y.is

  refuses_tails : (t : Tables) (bytes : List ℕ) → RefusesTails t bytes answer → RefusesTails t bytes other → answer ≡ other
  refuses_tails t bytes x y =
      let same = tail_file.one_fault t (records_of bytes) x.row y.row x.kind y.kind x.bad y.bad in
      x.is ∙ rw (same.0, same.1) refl ∙ sym y.is

  pub one_tables : (reading : TableOptions) (bytes : AllBytes) (finish : Tables → Answer → Type 0) → ((t : Tables) → finish t answer → finish t other → answer ≡ other)
      → OnTables reading bytes finish answer → OnTables reading bytes finish other → answer ≡ other
  one_tables reading bytes finish one (inl x) (inl y) = refuses_tables reading bytes x y
  one_tables reading bytes finish one (inl x) (inr y) = absurd (tables.no_fault bytes reading y.tables x.file x.row x.kind y.reads x.bad)
  one_tables reading bytes finish one (inr x) (inl y) = absurd (tables.no_fault bytes reading x.tables y.file y.row y.kind x.reads y.bad)
  one_tables reading bytes finish one (inr x) (inr y) =
      one y.tables (subst (λ t. finish t answer) (tables.one_reading bytes reading x.tables y.tables x.reads y.reads) x.finishes) y.finishes

  module _ (t : Tables) where
    pub one_tails : (bytes : List ℕ) (finish : List TailState → Answer → Type 0) → ((tails : List TailState) → finish tails answer → finish tails other → answer ≡ other)
        → OnTails t bytes finish answer → OnTails t bytes finish other → answer ≡ other
    one_tails bytes finish one (inl x) (inl y) = refuses_tails t bytes x y
    one_tails bytes finish one (inl x) (inr y) = absurd (never_listed t bytes answer y.tails x y.reads)
    one_tails bytes finish one (inr x) (inl y) = absurd (never_listed t bytes other x.tails y x.reads)
    one_tails bytes finish one (inr x) (inr y) = one y.tails (subst (λ tails. finish tails answer) (tail_file.one_list t (records_of bytes) x.tails y.tails x.reads y.reads) x.finishes) y.finishes

    pub one_fleet : (name : List ℕ) (finish : ℕ → Answer → Type 0) → ((fleet : ℕ) → fleet_named t name ≡ Some fleet → finish fleet answer → finish fleet other → answer ≡ other)
        → OnFleet t name finish answer → OnFleet t name finish other → answer ≡ other
    one_fleet name finish one (inl x) (inl y) = x.is ∙ sym y.is
    one_fleet name finish one (inl x) (inr y) = absurd (never_named t name y.fleet x.unknown y.known)
    one_fleet name finish one (inr x) (inl y) = absurd (never_named t name x.fleet y.unknown x.known)
    one_fleet name finish one (inr x) (inr y) =
        one y.fleet y.known (subst (λ f. finish f answer) (one_named t name x.fleet y.fleet x.known y.known) x.finishes) y.finishes

    pub one_plan : (bytes : List ℕ) (first second : List ℕ → Answer → Type 0) → ((plan : List ℕ) → first plan answer → second plan other → answer ≡ other)
        → OnPlan t bytes first answer → OnPlan t bytes second other → answer ≡ other
    one_plan bytes first second one (inl x) (inl y) = refuses_plan t bytes x y
    one_plan bytes first second one (inl x) (inr y) = absurd ((reads_or_not t (records_of bytes)).not_both y.plan x.row x.kind y.reads x.bad)
    one_plan bytes first second one (inr x) (inl y) = absurd ((reads_or_not t (records_of bytes)).not_both x.plan y.row y.kind x.reads y.bad)
    one_plan bytes first second one (inr x) (inr y) =
        one y.plan (subst (λ p. first p answer) ((reads_or_not t (records_of bytes)).one_plan x.plan y.plan x.reads y.reads) x.finishes) y.finishes

    pub one_legal : (first second : List ℕ → Answer → Type 0) (plan : List ℕ) → (first plan answer → second plan other → answer ≡ other) → OnLegal t first plan answer → OnLegal t second plan other → answer ≡ other
    one_legal first second plan one (inl x) (inl y) = refuses_verdict t plan x y
    one_legal first second plan one (inl x) (inr y) = absurd (never_legal t plan answer x y.legal)
    one_legal first second plan one (inr x) (inl y) = absurd (never_legal t plan other y x.legal)
    one_legal first second plan one (inr x) (inr y) = one x.finishes y.finishes

    -- a text gives one list of nodes, and no one tree
    pub one_proof : (bytes : List ℕ) (finish : Proof → Answer → Type 0)
        → ((p q : Proof) → p.planned ≡ q.planned → nodes_of p.tree ≡ nodes_of q.tree → finish p answer → finish q other → answer ≡ other)
        → OnProof t bytes finish answer → OnProof t bytes finish other → answer ≡ other
    one_proof bytes finish one (inl x) (inl y) = refuses_proof t bytes x y
    one_proof bytes finish one (inl x) (inr y) = absurd (never_read t bytes answer y.proof x y.reads)
    one_proof bytes finish one (inr x) (inl y) = absurd (never_read t bytes other x.proof y x.reads)
    one_proof bytes finish one (inr x) (inr y) =
        let same = says_one t bytes x.proof y.proof x.reads y.reads in
        one x.proof y.proof same.0 same.1 x.finishes y.finishes

-- ---- what follows of a refusal, and of all that is answered else, follows

module _ (answer : Answer) (K : Type 0) where
  pub either_tables : (reading : TableOptions) (bytes : AllBytes) (finish : Tables → Answer → Type 0) → (RefusesTables bytes reading answer → K)
      → ((t : Tables) → FilesRead bytes reading t → finish t answer → K) → OnTables reading bytes finish answer → K
  either_tables reading bytes finish refused read (inl x) = refused x
  either_tables reading bytes finish refused read (inr x) = read x.tables x.reads x.finishes

  module _ (t : Tables) where
    pub either_tails : (bytes : List ℕ) (finish : List TailState → Answer → Type 0) → (RefusesTails t bytes answer → K) → ((tails : List TailState) → finish tails answer → K)
        → OnTails t bytes finish answer → K
    either_tails bytes finish refused read (inl x) = refused x
    either_tails bytes finish refused read (inr x) = read x.tails x.finishes

    pub either_fleet : (name : List ℕ) (finish : ℕ → Answer → Type 0) → (RefusesFleet t name answer → K) → ((fleet : ℕ) → fleet_named t name ≡ Some fleet → finish fleet answer → K)
        → OnFleet t name finish answer → K
    either_fleet name finish refused read (inl x) = refused x
    either_fleet name finish refused read (inr x) = read x.fleet x.known x.finishes

    pub either_plan : (bytes : List ℕ) (finish : List ℕ → Answer → Type 0) → (RefusesPlan t bytes answer → K)
        → ((plan : List ℕ) → PlanReads t (records_of bytes) plan → finish plan answer → K) → OnPlan t bytes finish answer → K
    either_plan bytes finish refused read (inl x) = refused x
    either_plan bytes finish refused read (inr x) = read x.plan x.reads x.finishes

    pub either_legal : (finish : List ℕ → Answer → Type 0) (plan : List ℕ) → (RefusesVerdict t plan answer → K) → (IsLegal t plan → finish plan answer → K) → OnLegal t finish plan answer → K
    either_legal finish plan refused read (inl x) = refused x
    either_legal finish plan refused read (inr x) = read x.legal x.finishes

    pub either_proof : (bytes : List ℕ) (finish : Proof → Answer → Type 0) → (RefusesProof t bytes answer → K) → ((proof : Proof) → ReadsAs t bytes proof → finish proof answer → K)
        → OnProof t bytes finish answer → K
    either_proof bytes finish refused read (inl x) = refused x
    either_proof bytes finish refused read (inr x) = read x.proof x.reads x.finishes

-- ---- what reads and is legal isn't refused

module _ (answer : Answer) where
  pub there_tables : (reading : TableOptions) (bytes : AllBytes) (finish : Tables → Answer → Type 0) (t : Tables) → FilesRead bytes reading t → OnTables reading bytes finish answer → finish t answer
  there_tables reading bytes finish t reads (inl x) = absurd (tables.no_fault bytes reading t x.file x.row x.kind reads x.bad)
  there_tables reading bytes finish t reads (inr x) = subst (λ u. finish u answer) (tables.one_reading bytes reading x.tables t x.reads reads) x.finishes

  module _ (t : Tables) where
    pub there_tails : (bytes : List ℕ) (finish : List TailState → Answer → Type 0) (tails : List TailState) → TailsRead t (records_of bytes) tails → OnTails t bytes finish answer
        → finish tails answer
    there_tails bytes finish tails reads (inl x) = absurd (never_listed t bytes answer tails x reads)
    there_tails bytes finish tails reads (inr x) = subst (λ s. finish s answer) (tail_file.one_list t (records_of bytes) x.tails tails x.reads reads) x.finishes

    -- the fleet that is there is some fleet
    pub there_fleet : (name : List ℕ) (finish : ℕ → Answer → Type 0) → IsSome (fleet_named t name) → OnFleet t name finish answer → (fleet : ℕ) × finish fleet answer
    there_fleet name finish known (inl x) = absurd (false≢true (subst IsSome x.unknown known))
    there_fleet name finish known (inr x) = (x.fleet, x.finishes)

    pub there_plan : (bytes : List ℕ) (finish : List ℕ → Answer → Type 0) (plan : List ℕ) → PlanReads t (records_of bytes) plan → OnPlan t bytes finish answer → finish plan answer
    there_plan bytes finish plan reads (inl x) = absurd ((reads_or_not t (records_of bytes)).not_both plan x.row x.kind reads x.bad)
    there_plan bytes finish plan reads (inr x) = subst (λ p. finish p answer) ((reads_or_not t (records_of bytes)).one_plan x.plan plan x.reads reads) x.finishes

    pub there_legal : (finish : List ℕ → Answer → Type 0) (plan : List ℕ) → IsLegal t plan → OnLegal t finish plan answer → finish plan answer
    there_legal finish plan legal (inl x) = absurd (never_legal t plan answer x legal)
    there_legal finish plan legal (inr x) = x.finishes

    -- the proof that was read has the same nodes
    pub there_proof : (bytes : List ℕ) (finish : Proof → Answer → Type 0) (proof : Proof) → ReadsAs t bytes proof → OnProof t bytes finish answer
        → (read : Proof) × (read.planned ≡ proof.planned) × (nodes_of read.tree ≡ nodes_of proof.tree) × finish read answer
    there_proof bytes finish proof reads (inl x) = absurd (never_read t bytes answer proof x reads)
    there_proof bytes finish proof reads (inr x) = let same = says_one t bytes x.proof proof x.reads reads in (x.proof, same.0, same.1, x.finishes)

-- ---- other answers on what was read

module _ (answer : Answer) where
  pub map_tables : (reading : TableOptions) (bytes : AllBytes) (finish other : Tables → Answer → Type 0) → ((t : Tables) → FilesRead bytes reading t → finish t answer → other t answer)
      → OnTables reading bytes finish answer → OnTables reading bytes other answer
  map_tables reading bytes finish other more (inl x) = inl x
  map_tables reading bytes finish other more (inr x) = inr (record { tables = x.tables; reads = x.reads; finishes = more x.tables x.reads x.finishes })

  pub map_fleet : (t : Tables) (name : List ℕ) (finish other : ℕ → Answer → Type 0) → ((fleet : ℕ) → fleet_named t name ≡ Some fleet → finish fleet answer → other fleet answer)
      → OnFleet t name finish answer → OnFleet t name other answer
  map_fleet t name finish other more (inl x) = inl x
  map_fleet t name finish other more (inr x) = inr (record { fleet = x.fleet; known = x.known; finishes = more x.fleet x.known x.finishes })

  pub map_proof : (t : Tables) (bytes : List ℕ) (finish other : Proof → Answer → Type 0) → ((proof : Proof) → ReadsAs t bytes proof → finish proof answer → other proof answer)
      → OnProof t bytes finish answer → OnProof t bytes other answer
  map_proof t bytes finish other more (inl x) = inl x
  map_proof t bytes finish other more (inr x) = inr (record { proof = x.proof; reads = x.reads; finishes = more x.proof x.reads x.finishes })
