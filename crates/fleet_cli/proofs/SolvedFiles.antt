-- The files that solving leaves, as checking reads them.
use Rattle.std.proofs.Common.{◌≡◌, ◌≢◌, ℕ, ◌<◌, ◌≤◌, Bool, true, false, List, [], ◌∷◌, ◌++◌, length, get_or, All, Some, refl, sym, ◌∙◌, ap, subst, inl, inr, arith}
use Rattle.std.specs.Prelude.{unwrap_or}
use Rattle.std.proofs.lemmas.Bool.{ne_eqb}
use Rattle.std.proofs.lemmas.List.Elements.{All-append, All-from_recursion}
use Rattle.std.proofs.lemmas.Option.{same_Some}
use Rattle.bound_cert.specs.ProofText.{proof_text}
use Rattle.branch_bound.specs.Solved.{IsRight}
use Rattle.dual_bound.specs.Solved.{plan_cost, tree_of}
use Rattle.dual_bound.specs.declared.solved.Solved.{Solved}
use Rattle.dual_bound.specs.declared.solved.Solved.TheVariants as solved
use Rattle.command_words.specs.Words.{check, solve}
use Rattle.command_words.specs.declared.command.SolveOptions.{SolveOptions}
use Rattle.fleet_model.specs.declared.options.TableOptions.{TableOptions}
use Rattle.fleet_model.specs.declared.tables.Tables.{Tables}
use Rattle.plan_desk.specs.Desk.{Files}
use Rattle.plan_desk.specs.DeskFile.{path_of}
use Rattle.plan_desk.specs.declared.file.DeskFile.{DeskFile}
use Rattle.plan_desk.specs.declared.file.DeskFile.TheVariants as file
use Rattle.euler_rotation.specs.declared.fleet_rotation.FleetRotation.{FleetRotation}
use Rattle.plan_text.proofs.Lines.{reads_what_was_written}
use Rattle.plan_text.specs.Reading.{PlanReads}
use Rattle.plan_text.specs.Text.{plan_text}
use Rattle.csv_fields.specs.Record.{records_of}
use Rattle.sched_read.specs.Files.{FilesRead}
use Rattle.bound_cert.specs.ReadProof.{ReadsAs}
use Rattle.fleet_cli.proofs.CheckedByDay.{proof_by_day}
use Rattle.folder_answers.proofs.FrontFacts.{held_in, stands_in}
use Rattle.fleet_cli.proofs.HeadlineFacts.{plan_stands, proof_stands}
use Rattle.fleet_cli.proofs.OneAnswer.{complete_there, not_refused}
use Rattle.fleet_cli.proofs.Others.{solved_others, texts_keep}
use Rattle.folder_answers.proofs.PlanLength.{plan_within}
use Rattle.folder_answers.proofs.TextsStand.{other_path}
use Rattle.fleet_cli.proofs.plan_search.Proven.{is_proven}
use Rattle.fleet_cli.proofs.SolvedHolds.{solved_holds}
use Rattle.fleet_cli.specs.Answer.{Answers, Solves}
use Rattle.folder_answers.specs.Contents.{bytes_in, file_number, table_bytes}
use Rattle.folder_answers.specs.Gathered.{AllStand, IsHeldWithin, limit_of}
use Rattle.fleet_cli.specs.Headline.{is_planned}
use Rattle.folder_answers.specs.FileLists.{five_tables, proof_files, tables_of, where_asked}
use Rattle.fleet_cli.specs.Run.{IsCostThere, IsSolution, ProofThere}
use Rattle.fleet_cli.specs.SolvedChecked.{CountAlike, ReadsAndHolds, SolvedIsChecked}
use Rattle.folder_answers.specs.Solution.{solved_files}
use Rattle.folder_answers.specs.Written.{HaveLengths, no_text, with_texts}
use Rattle.folder_answers.specs.declared.answer.Answer.{Answer}

-- ---- the tables stand as they did

-- the file of a table that tells of the schedule
abbrev IsTable : DeskFile → Type 0
IsTable f = file_number f < file_number file.Tails

where_table : (asked : Bool) (f : DeskFile) → IsTable f → All IsTable (where_asked asked f)
where_table true f is = All-from_recursion IsTable (f ∷ []) (is, tt)
where_table false f is = All-from_recursion IsTable [] tt

-- all that are read are such
are_tables : (reading : TableOptions) → All IsTable (tables_of reading)
are_tables reading =
    All-append IsTable five_tables (where_asked reading.windows file.Windows ++ where_asked reading.optional file.Optional)
    (All-from_recursion IsTable five_tables (omega arith, (omega arith, (omega arith, (omega arith, (omega arith, tt))))))
    (All-append IsTable (where_asked reading.windows file.Windows) (where_asked reading.optional file.Optional) (where_table reading.windows file.Windows (omega arith)) (where_table reading.optional file.Optional (omega arith)))

-- none has the name of another file, as of the plan, of the proof or of the rotations
other_name : (dir : List ℕ) (f g : DeskFile) → IsTable f → file_number file.Tails ≤ file_number g → path_of dir f ≢ path_of dir g
other_name dir f g is later = other_path dir f g (ne_eqb (file_number f) (file_number g) (λ same. omega (arith, is, later, same)))

module _ (held : Files) (dir : List ℕ) (t shown : Tables) (s : Solved) (rotations : List FleetRotation) (visits : ℕ) where
  abbrev stands : Files
  stands = with_texts held dir (solved_files t shown s rotations visits)

  abbrev Stands : DeskFile → Type 0
  Stands f = IsHeldWithin stands dir f (bytes_in stands dir f)

  -- under the name of a table stands what stood there
  name_kept : (f : DeskFile) → IsTable f → stands (path_of dir f) ≡ held (path_of dir f)
  name_kept f is =
      texts_keep dir (path_of dir f) held (solved_files t shown s rotations visits) (solved_others t shown rotations visits dir (path_of dir f) (other_name dir f file.Plan is (omega arith)) (other_name dir f file.Proof is (omega arith))
      (other_name dir f file.Rotation is (omega arith)) s)

  table_kept : (f : DeskFile) → IsTable f → bytes_in stands dir f ≡ bytes_in held dir f
  table_kept f is = ap (λ o. unwrap_or o []) (name_kept f is)

  same_tables : table_bytes (bytes_in stands dir) ≡ table_bytes (bytes_in held dir)
  same_tables = rw (
    table_kept file.Stations (omega arith),
    table_kept file.Fleets (omega arith),
    table_kept file.Legs (omega arith),
    table_kept file.Costs (omega arith),
    table_kept file.Throughs (omega arith),
    table_kept file.Windows (omega arith),
    table_kept file.Optional (omega arith),
  ) refl

  same_proof : bytes_in stands dir file.Proof ≡ proof_text t (is_planned s) (tree_of s)
  same_proof = sym (stands_in stands dir file.Proof _ (proof_stands held dir t shown rotations visits s))

  still_held : (f : DeskFile) → IsTable f → IsHeldWithin held dir f (bytes_in held dir f) → Stands f
  still_held f is there = held_in stands dir f (bytes_in held dir f) (record { stands = name_kept f is ∙ there.stands; within = there.within })

  proof_there : (reading : TableOptions) → AllStand held dir (tables_of reading) → length (proof_text t (is_planned s) (tree_of s)) ≤ limit_of file.Proof → AllStand stands dir (proof_files reading)
  proof_there reading there short = record {
    each = All-append Stands (tables_of reading) (file.Proof ∷ [])
        (λ k d below. still_held (get_or (tables_of reading) k d) (are_tables reading k d below) (there.each k d below))
        (All-from_recursion Stands (file.Proof ∷ []) (held_in stands dir file.Proof _ (record { stands = proof_stands held dir t shown rotations visits s; within = short }), tt));
  }

module _ (t shown : Tables) (rotations : List FleetRotation) (visits : ℕ) where
  -- the plan that is written stands there and is legal
  plan_there : (held : Files) (dir : List ℕ) (s : Solved) → IsRight t s → IsCostThere (with_texts held dir (solved_files t shown s rotations visits)) dir t (is_planned s) (plan_cost s)
  plan_there held dir (solved.Planned plan cost bound whole) right =
      let there = plan_stands held dir t shown rotations visits (solved.Planned plan cost bound whole) in
      let stands = with_texts held dir (solved_files t shown (solved.Planned plan cost bound whole) rotations visits) in (
        refl,
        record {
          plan = plan;
          there = held_in stands dir file.Plan (plan_text t plan) (record { stands = there; within = plan_within t plan });
          reads = subst (λ b. PlanReads t (records_of b) plan) (stands_in stands dir file.Plan (plan_text t plan) there) (reads_what_was_written t plan right.legal.assignment);
          legal = right.legal;
          costs = right.exact;
        },
      )
  plan_there held dir (solved.Infeasible whole) right = refl
  plan_there held dir (solved.Unsettled bound whole) right = refl

  -- the proof is no longer than a list of bytes can be, wherever it stands among the files
  proof_short : (s : Solved) → HaveLengths (solved_files t shown s rotations visits) → length (proof_text t (is_planned s) (tree_of s)) ≤ limit_of file.Proof
  unfolding solved_files limit_of
  proof_short (solved.Planned plan cost bound whole) lengths = lengths.each 1 no_text (omega arith)
  proof_short (solved.Infeasible whole) lengths = lengths.each 0 no_text (omega arith)
  proof_short (solved.Unsettled bound whole) lengths = lengths.each 0 no_text (omega arith)

  proof_stays : (held : Files) (dir : List ℕ) (reading : TableOptions) (s : Solved) → AllStand held dir (tables_of reading) → FilesRead (table_bytes (bytes_in held dir)) reading t
      → IsRight t s → ReadsAndHolds t s → HaveLengths (solved_files t shown s rotations visits) → ProofThere (with_texts held dir (solved_files t shown s rotations visits)) dir reading
  proof_stays held dir reading s there reads right proof lengths = record {
    tables = t;
    proof = proof.proof;
    cost = plan_cost s;
    bound = _;
    there = proof_there held dir t shown s rotations visits reading there (proof_short s lengths);
    reads = subst (λ b. FilesRead b reading t) (sym (same_tables held dir t shown s rotations visits)) reads;
    proof_reads = subst (λ b. ReadsAs t b proof.proof) (sym (same_proof held dir t shown s rotations visits)) proof.reads;
    plan = rw proof.says (plan_there held dir s right);
    holds = proof.holds;
  }

-- the answer to solving, with its files as they were written
module _ (held : Files) (dir : List ℕ) (solving checking : TableOptions) (alike : CountAlike solving checking) (options : SolveOptions) (solved_as checked_as : Answer)
    (solution : IsSolution solved_as.status.code) (lengths : HaveLengths solved_as.files) (checks : Answers (with_texts held dir solved_as.files) (Some (check dir checking)) checked_as) where
  answered : Answers held (Some (solve dir solving options)) solved_as → checked_as.status.code ≡ 0
  answered (inl long) = absurd (not_refused _ solution (ap (λ (a : Answer). a.status.code) long.is))
  answered (inr read) = by_tables read.answers
    where
      by_tables : Solves solving options (table_bytes (bytes_in held dir)) solved_as → checked_as.status.code ≡ 0
      by_tables (inl refused) = absurd (not_refused _ solution (ap (λ (a : Answer). a.status.code) refused.is))
      by_tables (inr solves) =
          let given = solves.finishes in
          let files = ap (λ (a : Answer). a.files) given.is in
          let stands = with_texts held dir (solved_files solves.tables given.shown given.solution given.rotations options.rotations.visits) in
          let proven = is_proven solves.tables options.way options.search given.solution given.solves in
          let there = proof_stays solves.tables given.shown given.rotations options.rotations.visits held dir solving given.solution read.within.first solves.reads proven.right
          (solved_holds solves.tables given.solution proven) (rw files at lengths) in
          complete_there stands (Some (check dir checking)) checked_as (rw files at checks) (proof_by_day stands dir solving checking alike checked_as there (rw files at checks))

pub solved_is_checked : SolvedIsChecked
solved_is_checked held stands dir solving checking options code before after answer alike run solution checks =
    let written : stands ≡ with_texts held dir run.answer.files = same_Some stands (with_texts held dir run.answer.files) run.written in
    answered held dir solving checking alike options run.answer answer (rw run.code_is at solution) run.lengths (rw written at checks) run.answers
