-- What an answer is, and the names that keep what they hold after it.
use Rattle.std.proofs.Common.{◌≡◌, ◌≢◌, ◌⊎◌, ℕ, suc, Bool, true, false, if◌then◌else◌, List, [], ◌∷◌, ◌++◌, length, length-append, ◌+◌, ◌≤◌, take, All, Option, Some, None, IfSome, ℤ, inl, inr, refl, sym, ap, subst, ◌∙◌, arith}
use Rattle.std.specs.Str.{bytes_eq}
use Rattle.std.proofs.lemmas.List.Elements.{All-append, All-from_recursion, All-take}
use Rattle.std.proofs.lemmas.Map.{update_other}
use Rattle.table_rows.proofs.Numbered.{bytes_eq-differ}
use Rattle.dual_bound.specs.declared.trees.Tree.{Tree}
use Rattle.bound_cert.specs.declared.reading.Proof.{Proof}
use Rattle.dual_bound.specs.declared.solved.Solved.{Solved}
use Rattle.dual_bound.specs.declared.solved.Solved.TheVariants as solved
use Rattle.cert_check.specs.declared.checked.Checked.{Checked}
use Rattle.cert_check.specs.declared.checked.Checked.TheVariants as checked
use Rattle.command_words.specs.Words.{Asked, check, due, judge, make, solve, tails, whatif}
use Rattle.cert_check.specs.declared.what_if.WhatIf.{WhatIf}
use Rattle.cert_check.specs.declared.what_if.WhatIf.TheVariants as what
use Rattle.command_words.specs.Arguments.{AskedDates}
use Rattle.command_words.specs.declared.command.RotationLimits.{RotationLimits}
use Rattle.command_words.specs.declared.command.SolveOptions.{SolveOptions}
use Rattle.command_words.specs.declared.command.TheConstants.{DEFAULT_OPTIONS}
use Rattle.fleet_model.specs.Legal.{total_cost}
use Rattle.fleet_model.specs.declared.options.TableOptions.{TableOptions}
use Rattle.sched_read.specs.Files.{AllBytes}
use Rattle.table_maker.specs.Made.{made_tables}
use Rattle.table_maker.specs.declared.made.MadeTables.{MadeTables}
use Rattle.fleet_model.specs.declared.tables.Tables.{Tables}
use Rattle.plan_desk.specs.Desk.{Files, with_file}
use Rattle.plan_desk.specs.DeskFile.{path_of}
use Rattle.plan_desk.specs.declared.file.DeskFile.{DeskFile}
use Rattle.plan_desk.specs.declared.file.DeskFile.TheVariants as desk_file
use Rattle.plan_judge.specs.declared.verdicts.Verdict.{Verdict}
use Rattle.plan_judge.specs.declared.verdicts.Verdict.TheVariants as verdict
use Rattle.euler_rotation.specs.declared.fleet_rotation.FleetRotation.{FleetRotation}
use Rattle.fleet_cli.proofs.OneAnswer.{solution_status}
use Rattle.due_report.specs.Placings.{are_unplaced}
use Rattle.tail_dates.specs.declared.tails.TailState.{TailState}
use Rattle.folder_answers.proofs.Skeletons.{either_fleet, either_legal, either_plan, either_proof, either_tables, either_tails}
use Rattle.fleet_cli.specs.Answer.{Answers, AnswersOf, AnswersSome, GivesSolution, Makes}
use Rattle.folder_answers.specs.Commands.{AsksChecked, AsksOn, DueOn, DueWith, JudgesOn, JudgesPlan, TailsOn, TellsDue, TellsOn, TellsProof, TellsRead, TellsTails, TellsTree, TellsWith, checked_status, due_status, what_if_status}
use Rattle.folder_answers.specs.Contents.{FileBytes, table_bytes}
use Rattle.folder_answers.specs.Making.{after_files, made_files}
use Rattle.folder_answers.specs.FileLists.{five_tables}
use Rattle.fleet_cli.specs.Reading.{folder_of, solution_files, written_files}
use Rattle.folder_answers.specs.Refusals.{says, verdict_status}
use Rattle.fleet_cli.specs.Run.{IsEnd, IsRefusalStatus, IsSolution, KeepsAllBut, KeepsOthers}
use Rattle.folder_answers.specs.Skeletons.{OnFleet, OnLegal, OnPlan, OnProof, OnTables, OnTails, TablesRead}
use Rattle.folder_answers.specs.Solution.{solved_answer, solved_files, solved_status}
use Rattle.folder_answers.specs.Written.{StandsAfter, no_text, text_name, under, with_texts}
use Rattle.folder_answers.specs.declared.answer.Answer.{Answer}
use Rattle.folder_answers.specs.declared.answer.FileText.{FileText}
use Rattle.folder_answers.specs.declared.status.TheConstants.{BAD_INPUT, DONE, FALLEN, FAULT, NO_MEMORY, REFUSED, UNPLACED, USAGE}
use Rattle.folder_answers.specs.declared.opened.Question.{Question}
use Rattle.folder_answers.specs.declared.opened.Question.TheVariants as question

-- ---- texts under other names

module _ (dir name : List ℕ) where
  abbrev pub IsOther : FileText → Type 0
  IsOther text = name ≢ path_of dir text.file

  file_keeps : (held : Files) (other : List ℕ) (bytes : Option (List ℕ)) → name ≢ other → with_file held other bytes name ≡ held name
  file_keeps held other bytes differ = update_other bytes_eq held other bytes name (bytes_eq-differ other name (λ same. differ (sym same)))

  pub texts_keep : (held : Files) (texts : List FileText) → All IsOther texts → with_texts held dir texts name ≡ held name
  texts_keep held [] others = refl
  texts_keep held (text ∷ texts) others =
      texts_keep (with_file held (path_of dir text.file) (Some text.bytes)) texts (λ k d within. others (suc k) d (omega arith)) ∙ file_keeps held (path_of dir text.file) (Some text.bytes) (others 0 text (omega arith))

  keeps_after : (held : Files) (texts : List FileText) (stands : Option Files) → All IsOther texts → StandsAfter dir texts (Some held) stands → under stands name ≡ held name
  keeps_after held texts stands others (inl all) = rw all (texts_keep held texts others)
  keeps_after held texts stands others (inr part) =
      rw part.part.1 (file_keeps (with_texts held dir (take part.written texts)) (text_name dir texts part.written) part.part.0 (others part.written no_text part.place)
      ∙ texts_keep held (take part.written texts) (All-take IsOther part.written texts others))

-- the files of a solution are the plan, the proof and the rotations
module _ (t shown : Tables) (rotations : List FleetRotation) (visits : ℕ) (dir name : List ℕ) (plan_differs : name ≢ path_of dir desk_file.Plan) (proof_differs : name ≢ path_of dir desk_file.Proof)
    (rotation_differs : name ≢ path_of dir desk_file.Rotation) where
  pub solved_others : (s : Solved) → All (IsOther dir name) (solved_files t shown s rotations visits)
  unfolding solved_files
  solved_others (solved.Planned plan cost bound tree) =
      All-from_recursion (IsOther dir name) (solved_files t shown (solved.Planned plan cost bound tree) rotations visits) (plan_differs, (proof_differs, (rotation_differs, tt)))
  solved_others (solved.Infeasible tree) = All-from_recursion (IsOther dir name) (solved_files t shown (solved.Infeasible tree) rotations visits) (proof_differs, (rotation_differs, tt))
  solved_others (solved.Unsettled bound tree) = All-from_recursion (IsOther dir name) (solved_files t shown (solved.Unsettled bound tree) rotations visits) (proof_differs, (rotation_differs, tt))

-- the files of made tables are the five tables
made_others : (made : MadeTables) (dir name : List ℕ) → All (λ other. name ≢ path_of dir other) (five_tables ++ solution_files) → All (IsOther dir name) (made_files made)
unfolding made_files
made_others made dir name differ =
    All-from_recursion (IsOther dir name) (made_files made)
    (differ 0 desk_file.Stations (omega arith), (differ 1 desk_file.Stations (omega arith), (differ 2 desk_file.Stations (omega arith), (differ 3 desk_file.Stations (omega arith), (differ 4 desk_file.Stations (omega arith), tt)))))

-- how many they are
solved_few : (t shown : Tables) (rotations : List FleetRotation) (visits : ℕ) (s : Solved) → length (solved_files t shown s rotations visits) ≤ 3
unfolding solved_files
solved_few t shown rotations visits (solved.Planned plan cost bound tree) = omega arith
solved_few t shown rotations visits (solved.Infeasible tree) = omega arith
solved_few t shown rotations visits (solved.Unsettled bound tree) = omega arith

made_few : (made : MadeTables) (more : List FileText) → length more ≤ 3 → length (made_files made ++ more) ≤ 8
unfolding made_files
made_few made more few = let five : length (made_files made ++ more) ≡ 5 + length more = length-append (made_files made) more in omega arith

-- ---- what an answer is

-- a status that ends a run, and that of usage only where nothing is asked
record Ends (asked : Option Asked) (code : ℕ) : Type 0 where
  ends : IsEnd code
  usage : code ≡ USAGE → asked ≡ None

-- such a status, a text, and no file
record IsSaid (asked : Option Asked) (answer : Answer) : Type 0 where
  code : ℕ
  text : List ℕ
  is : answer ≡ says code text
  ends : Ends asked code

-- the answer of a solution behind files that are written before, of a command that may write all of these
record IsSolved (asked : Option Asked) (answer : Answer) : Type 0 where
  first : List FileText
  tables : Tables
  options : SolveOptions
  solution : Solved
  shown : Tables
  rotations : List FleetRotation
  is : answer ≡ after_files first (solved_answer tables shown options solution rotations)
  one : DeskFile
  names : List DeskFile
  writes : written_files asked ≡ one ∷ names
  few : length (first ++ solved_files tables shown solution rotations options.rotations.visits) ≤ length (one ∷ names)
  others : (dir name : List ℕ) → All (λ other. name ≢ path_of dir other) (one ∷ names) → All (IsOther dir name) (first ++ solved_files tables shown solution rotations options.rotations.visits)

-- the answer of a solution of what was made
made_kind : (dir : List ℕ) (number legs : ℕ) (answer : Answer) → Makes number legs answer → IsSolved (Some (make dir number legs)) answer
made_kind dir number legs answer x = let given = x.solves.finishes in record {
  first = made_files (made_tables number legs);
  tables = x.solves.tables;
  options = DEFAULT_OPTIONS;
  solution = given.solution;
  shown = given.shown;
  rotations = given.rotations;
  is = x.is ∙ ap (after_files (made_files (made_tables number legs))) given.is;
  one = desk_file.Stations;
  names = desk_file.Fleets ∷ desk_file.Legs ∷ desk_file.Costs ∷ desk_file.Throughs ∷ solution_files;
  writes = refl;
  few = made_few (made_tables number legs) (solved_files x.solves.tables given.shown given.solution given.rotations DEFAULT_OPTIONS.rotations.visits) (solved_few x.solves.tables given.shown given.rotations DEFAULT_OPTIONS.rotations.visits given.solution);
  others = λ folder name differ. All-append (IsOther folder name) _ _ (made_others (made_tables number legs) folder name differ)
      (solved_others x.solves.tables given.shown given.rotations DEFAULT_OPTIONS.rotations.visits folder name (differ 5 desk_file.Plan (omega arith)) (differ 6 desk_file.Proof (omega arith)) (differ 7 desk_file.Rotation (omega arith)) given.solution);
}

-- the answer of a solution of what was read
solved_kind : (dir : List ℕ) (reading : TableOptions) (options : SolveOptions) (bytes : AllBytes) (answer : Answer) → TablesRead reading bytes (GivesSolution options) answer → IsSolved (Some (solve dir reading options)) answer
solved_kind dir reading options bytes answer x = let given = x.finishes in record {
  first = [];
  tables = x.tables;
  options = options;
  solution = given.solution;
  shown = given.shown;
  rotations = given.rotations;
  is = given.is;
  one = desk_file.Plan;
  names = desk_file.Proof ∷ desk_file.Rotation ∷ [];
  writes = refl;
  few = solved_few x.tables given.shown given.rotations options.rotations.visits given.solution;
  others = λ folder name differ.
      solved_others x.tables given.shown given.rotations options.rotations.visits folder name (differ 0 desk_file.Plan (omega arith)) (differ 1 desk_file.Proof (omega arith)) (differ 2 desk_file.Rotation (omega arith)) given.solution;
}

done_ends : (asked : Option Asked) → Ends asked DONE
done_ends asked = record { ends = (λ e. omega arith, λ e. omega arith); usage = λ e. absurd (omega arith) }

refused_ends : (asked : Option Asked) → Ends asked REFUSED
refused_ends asked = record { ends = (λ e. omega arith, λ e. omega arith); usage = λ e. absurd (omega arith) }

fallen_ends : (asked : Option Asked) → Ends asked FALLEN
fallen_ends asked = record { ends = (λ e. omega arith, λ e. omega arith); usage = λ e. absurd (omega arith) }

bad_ends : (asked : Option Asked) → Ends asked BAD_INPUT
bad_ends asked = record { ends = (λ e. omega arith, λ e. omega arith); usage = λ e. absurd (omega arith) }

usage_ends : Ends None USAGE
usage_ends = record { ends = (λ e. omega arith, λ e. omega arith); usage = λ e. refl }

refused : (asked : Option Asked) (answer : Answer) (text : List ℕ) → answer ≡ says REFUSED text → IsSaid asked answer
refused asked answer text is = record { code = REFUSED; text = text; is = is; ends = refused_ends asked }

bad : (asked : Option Asked) (answer : Answer) (text : List ℕ) → answer ≡ says BAD_INPUT text → IsSaid asked answer
bad asked answer text is = record { code = BAD_INPUT; text = text; is = is; ends = bad_ends asked }

verdict_ends : (asked : Option Asked) (v : Verdict) → Ends asked (verdict_status v)
verdict_ends asked (verdict.Legal cost) = done_ends asked
verdict_ends asked (verdict.NotAllowed leg) = refused_ends asked
verdict_ends asked (verdict.Unbalanced f s came left) = refused_ends asked
verdict_ends asked (verdict.TooMany f used has) = refused_ends asked
verdict_ends asked (verdict.Crowded s d stands limit) = refused_ends asked

due_ends : (asked : Option Asked) (unplaced : Bool) → Ends asked (if unplaced then UNPLACED else DONE)
due_ends asked true = record { ends = (λ e. omega arith, λ e. omega arith); usage = λ e. absurd (omega arith) }
due_ends asked false = done_ends asked

checked_ends : (asked : Option Asked) (v : Checked) → Ends asked (checked_status v)
checked_ends asked (checked.Holds bound) = done_ends asked
checked_ends asked (checked.Broken node rule) = refused_ends asked

what_if_ends : (asked : Option Asked) (w : WhatIf) → Ends asked (what_if_status w)
what_if_ends asked (what.Fallen node) = fallen_ends asked
what_if_ends asked what.NoPlan = done_ends asked
what_if_ends asked (what.Bound bound) = done_ends asked

solution_ends : (code : ℕ) → IsSolution code → IsEnd code
solution_ends code (inl is) = (λ e. let bad : ◌≡◌ {A = ℕ} 0 7 = sym is ∙ e in omega arith, λ e. let bad : ◌≡◌ {A = ℕ} 0 8 = sym is ∙ e in omega arith)
solution_ends code (inr (inl is)) = (λ e. let bad : ◌≡◌ {A = ℕ} 3 7 = sym is ∙ e in omega arith, λ e. let bad : ◌≡◌ {A = ℕ} 3 8 = sym is ∙ e in omega arith)
solution_ends code (inr (inr (inl is))) = (λ e. let bad : ◌≡◌ {A = ℕ} 4 7 = sym is ∙ e in omega arith, λ e. let bad : ◌≡◌ {A = ℕ} 4 8 = sym is ∙ e in omega arith)
solution_ends code (inr (inr (inr is))) = (λ e. let bad : ◌≡◌ {A = ℕ} 5 7 = sym is ∙ e in omega arith, λ e. let bad : ◌≡◌ {A = ℕ} 5 8 = sym is ∙ e in omega arith)

module _ (asked : Option Asked) (answer : Answer) where
  -- what is said of all that is answered on what was read is said of the refusals too
  said_tables : (reading : TableOptions) (bytes : AllBytes) (finish : Tables → Answer → Type 0) → ((t : Tables) → finish t answer → IsSaid asked answer) → OnTables reading bytes finish answer → IsSaid asked answer
  said_tables reading bytes finish more = either_tables answer (IsSaid asked answer) reading bytes finish (λ x. bad asked answer _ x.is) (λ t reads. more t)

  module _ (t : Tables) where
    said_fleet : (name : List ℕ) (finish : ℕ → Answer → Type 0) → ((fleet : ℕ) → finish fleet answer → IsSaid asked answer) → OnFleet t name finish answer → IsSaid asked answer
    said_fleet name finish more = either_fleet answer (IsSaid asked answer) t name finish (λ x. refused asked answer _ x.is) (λ fleet known. more fleet)

    said_plan : (bytes : List ℕ) (finish : List ℕ → Answer → Type 0) → ((plan : List ℕ) → finish plan answer → IsSaid asked answer) → OnPlan t bytes finish answer → IsSaid asked answer
    said_plan bytes finish more = either_plan answer (IsSaid asked answer) t bytes finish (λ x. refused asked answer _ x.is) (λ plan reads. more plan)

    said_legal : (finish : List ℕ → Answer → Type 0) (plan : List ℕ) → (finish plan answer → IsSaid asked answer) → OnLegal t finish plan answer → IsSaid asked answer
    said_legal finish plan more =
        either_legal answer (IsSaid asked answer) t finish plan (λ x. record { code = verdict_status x.verdict; text = _; is = x.is; ends = verdict_ends asked x.verdict }) (λ legal. more)

    said_proof : (bytes : List ℕ) (finish : Proof → Answer → Type 0) → ((proof : Proof) → finish proof answer → IsSaid asked answer) → OnProof t bytes finish answer → IsSaid asked answer
    said_proof bytes finish more = either_proof answer (IsSaid asked answer) t bytes finish (λ x. refused asked answer _ x.is) (λ proof reads. more proof)

    judged : (plan : List ℕ) → JudgesPlan t plan answer → IsSaid asked answer
    judged plan x = record { code = verdict_status x.verdict; text = _; is = x.is; ends = verdict_ends asked x.verdict }

    said_tails : (bytes : List ℕ) (finish : List TailState → Answer → Type 0) → ((tails : List TailState) → finish tails answer → IsSaid asked answer) → OnTails t bytes finish answer → IsSaid asked answer
    said_tails bytes finish more = either_tails answer (IsSaid asked answer) t bytes finish (λ x. bad asked answer _ x.is) more

    tails_said : (limits : RotationLimits) (dates : AskedDates) (plan : List ℕ) → TellsTails t limits dates plan answer → IsSaid asked answer
    tails_said limits dates plan x = record { code = DONE; text = _; is = x.finishes.is; ends = done_ends asked }

    due_said : (limits : RotationLimits) (dates : AskedDates) (tails : List TailState) (plan : List ℕ) → TellsDue t limits dates tails plan answer → IsSaid asked answer
    due_said limits dates named plan x = record { code = due_status x.finishes.placings; text = _; is = x.finishes.is; ends = due_ends asked (are_unplaced x.finishes.placings) }

    asked_said : (fleet count : ℕ) (tree : Tree) (v : Checked) → AsksChecked t fleet count tree v answer → IsSaid asked answer
    asked_said fleet count tree (checked.Holds bound) x = record { code = what_if_status x.what; text = _; is = x.is; ends = what_if_ends asked x.what }
    asked_said fleet count tree (checked.Broken node rule) x = refused asked answer _ x

    tree_said : (asks : Question) (cost : Option ℤ) (tree : Tree) → TellsTree t asks cost tree answer → IsSaid asked answer
    tree_said question.Holds cost tree x = record { code = checked_status x.verdict; text = _; is = x.is; ends = checked_ends asked x.verdict }
    tree_said (question.OtherSize fleet count) cost tree x = asked_said fleet count tree x.verdict x.asks

    proof_said : (asks : Question) (plan : List ℕ) (planned : Bool) (tree : Tree) → TellsProof t asks planned tree plan answer → IsSaid asked answer
    proof_said asks plan false tree = tree_said asks None tree
    proof_said asks plan true tree = said_plan plan (OnLegal t (TellsWith t asks tree)) (λ p. said_legal (TellsWith t asks tree) p (tree_said asks (Some (total_cost t p)) tree))

    told_said : (asks : Question) (text plan : List ℕ) → TellsOn asks text plan t answer → IsSaid asked answer
    told_said asks text plan = said_proof text (TellsRead t asks plan) (λ proof. proof_said asks plan proof.planned proof.tree)

module _ (answer : Answer) where
  kind_of : (asked : Option Asked) (bytes : FileBytes) → AnswersOf asked bytes answer → IsSaid asked answer ⊎ IsSolved asked answer
  kind_of None bytes x = inl (record { code = USAGE; text = _; is = x; ends = usage_ends })
  kind_of (Some (judge dir reading)) bytes x = inl (
      let asked = Some (judge dir reading) in
      said_tables asked answer reading (table_bytes bytes) (JudgesOn (bytes desk_file.Plan)) (λ t. said_plan asked answer t (bytes desk_file.Plan) (JudgesPlan t) (judged asked answer t)) x
      )
  kind_of (Some (solve dir reading options)) bytes (inl x) = inl (bad (Some (solve dir reading options)) answer _ x.is)
  kind_of (Some (solve dir reading options)) bytes (inr x) = inr (solved_kind dir reading options (table_bytes bytes) answer x)
  kind_of (Some (check dir reading)) bytes x = inl (
      let asked = Some (check dir reading) in
      said_tables asked answer reading (table_bytes bytes) (TellsOn question.Holds (bytes desk_file.Proof) (bytes desk_file.Plan))
      (λ t. told_said asked answer t question.Holds (bytes desk_file.Proof) (bytes desk_file.Plan)) x
      )
  kind_of (Some (tails dir reading limits dates)) bytes x = inl (
      let asked = Some (tails dir reading limits dates) in
      said_tables asked answer reading (table_bytes bytes) (TailsOn limits dates (bytes desk_file.Plan))
      (λ t. said_plan asked answer t (bytes desk_file.Plan) (OnLegal t (TellsTails t limits dates)) (λ p. said_legal asked answer t (TellsTails t limits dates) p (tails_said asked answer t limits dates p))) x
      )
  kind_of (Some (due dir reading limits dates)) bytes x = inl (
      let asked = Some (due dir reading limits dates) in
      said_tables asked answer reading (table_bytes bytes) (DueOn limits dates (bytes desk_file.Tails) (bytes desk_file.Plan))
      (λ t. said_tails asked answer t (bytes desk_file.Tails) (DueWith limits dates (bytes desk_file.Plan) t)
      (λ s. said_plan asked answer t (bytes desk_file.Plan) (OnLegal t (TellsDue t limits dates s)) (λ p. said_legal asked answer t (TellsDue t limits dates s) p (due_said asked answer t limits dates s p)))) x
      )
  kind_of (Some (make dir number legs)) bytes x = inr (made_kind dir number legs answer x)
  kind_of (Some (whatif dir reading name count)) bytes x = inl (
      let asked = Some (whatif dir reading name count) in
      said_tables asked answer reading (table_bytes bytes) (AsksOn name count (bytes desk_file.Proof) (bytes desk_file.Plan))
      (λ t. said_fleet asked answer t name (λ fleet. TellsOn (question.OtherSize fleet count) (bytes desk_file.Proof) (bytes desk_file.Plan) t)
      (λ fleet. told_said asked answer t (question.OtherSize fleet count) (bytes desk_file.Proof) (bytes desk_file.Plan))) x
      )

  kind : (held : Files) (asked : Option Asked) → Answers held asked answer → IsSaid asked answer ⊎ IsSolved asked answer
  kind held asked (inl long) = inl (bad asked answer _ long.is)
  kind held asked (inr read) = kind_of asked _ read.answers

  some_kind : (longer : Type 0) (asked : Option Asked) → AnswersSome longer asked answer → IsSaid asked answer ⊎ IsSolved asked answer
  some_kind longer asked (inl long) = inl (bad asked answer _ long.is)
  some_kind longer asked (inr read) = kind_of asked read.0 read.1

  kind_ends : (asked : Option Asked) → IsSaid asked answer ⊎ IsSolved asked answer → IsEnd answer.status.code
  kind_ends asked (inl x) = subst (λ (a : Answer). IsEnd a.status.code) (sym x.is) x.ends.ends
  kind_ends asked (inr x) = subst (λ (a : Answer). IsEnd a.status.code) (sym x.is) (solution_ends (solved_status x.solution) (solution_status x.solution))

-- the status of an answer ends a run
pub answer_ends : (longer : Type 0) (asked : Option Asked) (answer : Answer) → AnswersSome longer asked answer → IsEnd answer.status.code
answer_ends longer asked answer some = kind_ends answer asked (some_kind answer longer asked some)

-- an answer has no more files than what is asked for may write
few_files : (asked : Option Asked) (answer : Answer) → IsSaid asked answer ⊎ IsSolved asked answer → length answer.files ≤ length (written_files asked)
few_files asked answer (inl said) = let none : length answer.files ≡ 0 = ap (λ (a : Answer). length a.files) said.is in omega arith
few_files asked answer (inr given) = rw (given.writes, given.is) given.few

pub writes_few : (longer : Type 0) (asked : Option Asked) (answer : Answer) → AnswersSome longer asked answer → length answer.files ≤ length (written_files asked)
writes_few longer asked answer some = few_files asked answer (some_kind answer longer asked some)

-- ---- where nothing is written, all stands as it was

nothing : (dir : List ℕ) (told stands : Option Files) → StandsAfter dir [] told stands → stands ≡ told
nothing dir None stands (inl all) = all
nothing dir (Some held) stands (inl all) = all
nothing dir told stands (inr part) = let place = part.place in absurd (omega arith)

nothing_by : (dir : List ℕ) (texts : List FileText) (told stands : Option Files) → texts ≡ [] → StandsAfter dir texts told stands → stands ≡ told
nothing_by dir texts told stands none after = nothing dir told stands (rw none at after)

-- a desk that doesn't tell before doesn't tell after
untold : (dir : List ℕ) (texts : List FileText) (stands : Option Files) → StandsAfter dir texts None stands → stands ≡ None
untold dir texts stands (inl all) = all
untold dir texts stands (inr part) = part.part.1

-- ---- what a run leaves

pub nothing_written : (dir : List ℕ) (names : List DeskFile) (told stands : Option Files) → stands ≡ told → KeepsAllBut dir names told stands
nothing_written dir [] told stands same = same
nothing_written dir (f ∷ names) told stands same = λ name others. rw same refl

pub keeps_others : (told : Option Files) (asked : Option Asked) (answer : Answer) (stands : Option Files) → IfSome told (λ held. Answers held asked answer)
    → StandsAfter (folder_of asked) answer.files told stands → KeepsOthers asked told stands
keeps_others None asked answer stands answers after = nothing_written (folder_of asked) (written_files asked) None stands (untold _ _ stands after)
keeps_others (Some held) asked answer stands answers after = elim (kind answer held asked answers) [
  | inl said ↦ nothing_written (folder_of asked) (written_files asked) (Some held) stands (nothing_by (folder_of asked) answer.files (Some held) stands (ap (λ (a : Answer). a.files) said.is) after)
  | inr given ↦ subst (λ names. KeepsAllBut (folder_of asked) names (Some held) stands) (sym given.writes)
      (λ name others. keeps_after (folder_of asked) name held answer.files stands
      (rw given.is (given.others (folder_of asked) name others)) after)
]

differs : (code : ℕ) → IsRefusalStatus code → (k : ℕ) → code ≡ k → ¬ (2 ≡ k) → ¬ (6 ≡ k) → ¬ (9 ≡ k) → ⊥
differs code (inl e) k is a b c = a (sym e ∙ is)
differs code (inr (inl e)) k is a b c = b (sym e ∙ is)
differs code (inr (inr e)) k is a b c = c (sym e ∙ is)

-- a refusal is neither a fault nor want of memory
pub refusal_ends : (code : ℕ) → IsRefusalStatus code → ¬ ((code ≡ FAULT) ⊎ (code ≡ NO_MEMORY))
refusal_ends code refused (inl is) = differs code refused 7 is (λ e. omega arith) (λ e. omega arith) (λ e. omega arith)
refusal_ends code refused (inr is) = differs code refused 8 is (λ e. omega arith) (λ e. omega arith) (λ e. omega arith)

not_both : (code : ℕ) → IsSolution code → ¬ (IsRefusalStatus code)
not_both code (inl is) refused = differs code refused 0 is (λ e. omega arith) (λ e. omega arith) (λ e. omega arith)
not_both code (inr (inl is)) refused = differs code refused 3 is (λ e. omega arith) (λ e. omega arith) (λ e. omega arith)
not_both code (inr (inr (inl is))) refused = differs code refused 4 is (λ e. omega arith) (λ e. omega arith) (λ e. omega arith)
not_both code (inr (inr (inr is))) refused = differs code refused 5 is (λ e. omega arith) (λ e. omega arith) (λ e. omega arith)

pub refusal_leaves : (told : Option Files) (asked : Option Asked) (answer : Answer) (code : ℕ) (stands : Option Files) → IfSome told (λ held. Answers held asked answer) → code ≡ answer.status.code
    → IsRefusalStatus code → StandsAfter (folder_of asked) answer.files told stands → stands ≡ told
refusal_leaves None asked answer code stands answers is refuses after = untold _ _ stands after
refusal_leaves (Some held) asked answer code stands answers is refuses after = elim (kind answer held asked answers) [
  | inl said ↦ nothing_by (folder_of asked) answer.files (Some held) stands (ap (λ (a : Answer). a.files) said.is) after
  | inr given ↦ absurd (not_both code (rw (is ∙ ap (λ (a : Answer). a.status.code) given.is) (solution_status given.solution)) refuses)
]

-- the status of usage comes only where nothing is asked
kind_usage : (asked : Option Asked) (answer : Answer) → IsSaid asked answer ⊎ IsSolved asked answer → answer.status.code ≡ USAGE → asked ≡ None
kind_usage asked answer (inl said) usage = said.ends.usage (sym (ap (λ (a : Answer). a.status.code) said.is) ∙ usage)
kind_usage asked answer (inr given) usage = absurd (not_both (solved_status given.solution) (solution_status given.solution) (inl (sym (ap (λ (a : Answer). a.status.code) given.is) ∙ usage)))

pub only_usage : (longer : Type 0) (asked : Option Asked) (answer : Answer) (code : ℕ) → AnswersSome longer asked answer → code ≡ answer.status.code → code ≡ USAGE → asked ≡ None
only_usage longer asked answer code some is usage = kind_usage asked answer (some_kind answer longer asked some) (sym is ∙ usage)
