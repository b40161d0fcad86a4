-- The folder in which made tables stand, as solving reads it.
use Rattle.std.proofs.Common.{◌≡◌, ℕ, List, Some, refl, sym, ap, subst, ◌∙◌, inl, inr, arith}
use Rattle.std.proofs.lemmas.Bool.{cases_Bool}
use Rattle.dual_bound.specs.Leaves.{has_open}
use Rattle.branch_bound.specs.Solved.{IsRight}
use Rattle.dual_bound.specs.declared.solved.Solved.{Solved}
use Rattle.dual_bound.specs.declared.solved.Solved.TheVariants as solved
use Rattle.command_words.specs.Words.{make, solve}
use Rattle.command_words.specs.declared.command.TheConstants.{DEFAULT_OPTIONS, DEFAULT_READING}
use Rattle.fleet_model.specs.Legal.{IsLegal}
use Rattle.fleet_model.specs.declared.tables.Tables.{Tables}
use Rattle.plan_desk.specs.Desk.{Files}
use Rattle.plan_desk.specs.Sink.{output_with}
use Rattle.plan_desk.specs.declared.file.DeskFile.{DeskFile}
use Rattle.sched_read.proofs.ReadLaws as tables
use Rattle.table_maker.proofs.MadeRead.{made_read}
use Rattle.table_maker.proofs.TextLengths.{made_short}
use Rattle.table_maker.specs.Laws.{all_on_first, made_bytes}
use Rattle.table_maker.specs.Made.{made_tables}
use Rattle.fleet_cli.proofs.plan_search.Proven.{is_proven}
use Rattle.folder_answers.proofs.TextsStand.{with_more}
use Rattle.fleet_cli.specs.Answer.{Answers, Makes}
use Rattle.folder_answers.specs.Contents.{bytes_in}
use Rattle.fleet_cli.specs.MadeSolved.{MadeIsSolved}
use Rattle.folder_answers.specs.Making.{made_files}
use Rattle.fleet_cli.specs.Reading.{IsFileReached, IsRead}
use Rattle.fleet_cli.specs.Run.{IsFlyable}
use Rattle.folder_answers.specs.Solution.{solved_status}
use Rattle.folder_answers.specs.Written.{held_with_texts, with_texts}
use Rattle.folder_answers.specs.declared.answer.Answer.{Answer}
use Rattle.folder_answers.proofs.MadeStand.{all_stand, alone, defaults_fit, later_lengths, made_stand, tables_are}

-- ---- solving them

-- making reads no file
pub none_reached : (held : Files) (dir : List ℕ) (number legs : ℕ) (f : DeskFile) → IsFileReached (Some (make dir number legs)) held f → ⊥
none_reached held dir number legs f (inl comes) = let within = comes.within in omega arith
none_reached held dir number legs f (inr follows) = follows.1

pub none_read : (dir : List ℕ) (number legs : ℕ) (f : DeskFile) → IsRead (Some (make dir number legs)) f → ⊥
none_read dir number legs f (inl among) = let within = among.within in omega arith
none_read dir number legs f (inr follows) = follows.1

module _ (held : Files) (dir : List ℕ) (number legs : ℕ) (answer : Answer) (x : Makes number legs answer) where
  abbrev pub with_made : Files
  with_made = with_texts held dir (made_files (made_tables number legs))

  -- what is solved is what solving answers where the tables stand
  pub solving_answers : Answers with_made (Some (solve dir DEFAULT_READING DEFAULT_OPTIONS)) x.solving
  solving_answers =
      let there = made_stand held dir (made_tables number legs) in
      inr (record {
        within = record { first = all_stand with_made dir (made_tables number legs) there (made_short number legs x.can); further = λ f follows. absurd follows };
        answers = inr (alone (bytes_in with_made dir) (tables_are with_made dir (made_tables number legs) there) x.solves);
      })

  -- and its files are written over them
  pub written_over : held_with_texts (Some held) dir answer.files ≡ held_with_texts (Some with_made) dir x.solving.files
  written_over =
      ap (λ (a : Answer). held_with_texts (Some held) dir a.files) x.is ∙ ap Some (with_more held dir (made_files (made_tables number legs)) x.solving.files)

pub made_is_solved : MadeIsSolved
made_is_solved held dir number legs code stands before after run = elim run.answers [
  | inl long ↦ absurd (none_reached held dir number legs long.file long.longer.reached)
  | inr read ↦ let x = read.answers in record {
    answer = x.solving;
    answers = solving_answers held dir number legs run.answer x;
    code_is = run.code_is ∙ ap (λ (a : Answer). a.status.code) x.is;
    written = run.written ∙ written_over held dir number legs run.answer x;
    lengths = later_lengths (made_files (made_tables number legs)) x.solving.files (rw x.is at run.lengths);
    put = run.put ∙ ap (λ (a : Answer). output_with before a.text) x.is;
  }
]

-- ---- there is a plan

by_plan : (t : Tables) (plan : List ℕ) (s : Solved) → IsLegal t plan → IsRight t s → IsFlyable (solved_status s)
by_plan t plan (solved.Planned found cost bound tree) legal right = elim (cases_Bool (has_open tree)) [
  | inl is_open ↦ rw is_open (inr (inl refl))
  | inr closed ↦ rw closed (inl refl)
]
by_plan t plan (solved.Infeasible tree) legal right = absurd (right.none.none plan legal)
by_plan t plan (solved.Unsettled bound tree) legal right = inr (inr refl)

pub flyable : (number legs : ℕ) (answer : Answer) → Makes number legs answer → IsFlyable answer.status.code
flyable number legs answer x =
    let made = made_read number legs DEFAULT_READING.settings x.can defaults_fit refl in
    let first = x.solves.reads.before.first in
    let one : made.tables ≡ first = tables.one_reading (made_bytes (made_tables number legs)) DEFAULT_READING.settings made.tables first made.reads x.solves.reads.before.five in
    let same : made.tables ≡ x.solves.tables = one ∙ sym x.solves.reads.before.windows ∙ sym x.solves.reads.optional in
    let legal = subst (λ t. IsLegal t (all_on_first legs)) same made.legal in
    rw (ap (λ (a : Answer). a.status.code) x.is ∙ ap (λ (a : Answer). a.status.code) x.solves.finishes.is)
    (by_plan x.solves.tables (all_on_first legs) x.solves.finishes.solution legal
    (is_proven x.solves.tables DEFAULT_OPTIONS.way DEFAULT_OPTIONS.search x.solves.finishes.solution x.solves.finishes.solves).right)
