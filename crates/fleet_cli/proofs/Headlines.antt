-- The headline of each command, from the answer that was given.
use Rattle.std.proofs.Common.{◌≡◌, ℕ, List, ◌++◌, Option, Some, None, IfSome, inl, inr, sym, ap, subst, ◌∙◌}
use Rattle.std.proofs.lemmas.Option.{same_Some}
use Rattle.command_words.specs.Words.{Asked, check, due, judge, make, solve, tails, whatif}
use Rattle.command_words.specs.declared.command.TheConstants.{DEFAULT_OPTIONS, DEFAULT_READING}
use Rattle.plan_desk.specs.Desk.{Files}
use Rattle.plan_desk.specs.Sink.{output_with}
use Rattle.table_maker.proofs.TextLengths.{made_short}
use Rattle.table_maker.specs.Made.{made_tables}
use Rattle.fleet_cli.proofs.BoundFacts.{checked_tells}
use Rattle.fleet_cli.proofs.HeadlineFacts.{solved_leaves}
use Rattle.folder_answers.proofs.MadeStand.{TablesStand, all_stand, still_stand, tables_are}
use Rattle.fleet_cli.proofs.MadeFolder.{flyable, none_reached, solving_answers, written_over}
use Rattle.fleet_cli.proofs.OtherFacts.{asked_tells}
use Rattle.fleet_cli.specs.Answer.{Answers, Makes}
use Rattle.fleet_cli.specs.Headline.{Headline, TellsMade}
use Rattle.folder_answers.specs.Making.{made_files}
use Rattle.fleet_cli.specs.Reading.{folder_of}
use Rattle.fleet_cli.specs.Run.{IsFlyable, IsSolution}
use Rattle.folder_answers.specs.Solution.{solved_files}
use Rattle.folder_answers.specs.Written.{held_with_texts, with_texts}
use Rattle.folder_answers.specs.declared.answer.Answer.{Answer}

-- a status of tables that have a plan tells of a solution
is_solution : (code : ℕ) → IsFlyable code → IsSolution code
is_solution code (inl is) = inl is
is_solution code (inr (inl is)) = inr (inl is)
is_solution code (inr (inr is)) = inr (inr (inr is))

module _ (held : Files) (dir : List ℕ) (number legs : ℕ) (answer : Answer) (code : ℕ) (told : Option Files) (before after : Option (List ℕ)) where
  leaves_made : (x : Makes number legs answer) → code ≡ answer.status.code → told ≡ held_with_texts (Some held) dir answer.files → after ≡ output_with before answer.text
      → TellsMade held told dir number legs code before after
  leaves_made x is written put =
      let made = made_tables number legs in
      let given = x.solves.finishes in
      let solution : IsSolution code = rw is (is_solution answer.status.code (flyable number legs answer x)) in
      let solved = solved_leaves (with_texts held dir (made_files made)) dir DEFAULT_READING DEFAULT_OPTIONS x.solving code told before after (solving_answers held dir number legs answer x)
      (is ∙ ap (λ (a : Answer). a.status.code) x.is) (written ∙ written_over held dir number legs answer x) (put ∙ ap (λ (a : Answer). output_with before a.text) x.is) solution in
      let files : answer.files ≡ made_files made ++ solved_files x.solves.tables given.shown given.solution given.rotations DEFAULT_OPTIONS.rotations.visits =
      ap (λ (a : Answer). a.files) x.is ∙ ap (λ (a : Answer). made_files made ++ a.files) given.is in
      let stands : with_texts held dir answer.files ≡ solved.stands = same_Some (with_texts held dir answer.files) solved.stands (sym written ∙ solved.tells) in
      let there : TablesStand solved.stands dir made = subst (λ f. TablesStand f dir made) (ap (with_texts held dir) (sym files) ∙ stands) (still_stand held dir made x.solves.tables given.shown given.solution given.rotations DEFAULT_OPTIONS.rotations.visits) in
      record {
        stands = solved.stands;
        tells = solved.tells;
        there = all_stand solved.stands dir made there (made_short number legs x.can);
        tables = tables_are solved.stands dir made there;
        leaves = solved.leaves;
      }

  made_leaves : Answers held (Some (make dir number legs)) answer → code ≡ answer.status.code → told ≡ held_with_texts (Some held) dir answer.files → after ≡ output_with before answer.text
      → TellsMade held told dir number legs code before after
  made_leaves (inl long) is written put = absurd (none_reached held dir number legs long.file long.longer.reached)
  made_leaves (inr read) is written put = leaves_made read.answers is written put

pub headline : (told stands : Option Files) (asked : Option Asked) (answer : Answer) (code : ℕ) (before after : Option (List ℕ)) → IfSome told (λ held. Answers held asked answer) → code ≡ answer.status.code
    → stands ≡ held_with_texts told (folder_of asked) answer.files → after ≡ output_with before answer.text → IfSome told (λ held. Headline held asked code stands before after)
headline None stands asked answer code before after answers is written put = tt
headline (Some held) stands None answer code before after answers is written put = tt
headline (Some held) stands (Some (judge dir reading)) answer code before after answers is written put = tt
headline (Some held) stands (Some (solve dir reading options)) answer code before after answers is written put = solved_leaves held dir reading options answer code stands before after answers is written put
headline (Some held) stands (Some (tails dir reading limits dates)) answer code before after answers is written put = tt
headline (Some held) stands (Some (due dir reading limits dates)) answer code before after answers is written put = tt
headline (Some held) stands (Some (make dir number legs)) answer code before after answers is written put = made_leaves held dir number legs answer code stands before after answers is written put
headline (Some held) stands (Some (check dir reading)) answer code before after answers is written put = λ done. checked_tells answer (sym is ∙ done) held dir reading before after answers put
headline (Some held) stands (Some (whatif dir reading name count)) answer code before after answers is written put = λ done. asked_tells answer (sym is ∙ done) held dir reading name count before after put answers
