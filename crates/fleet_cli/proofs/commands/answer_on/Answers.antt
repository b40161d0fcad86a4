use Rattle.std.proofs.Common.{inr}
use Rattle.std.proofs.lemmas.Result.{err_from_is_err_and}
use Rattle.command_words.specs.Words.{dates_by}
use Rattle.folder_answers.proofs.HaltFacts.{stops}
use Rattle.folder_answers.specs.Commands.{DueOn, JudgesOn, TailsOn}
use Rattle.folder_answers.specs.Contents.{file_content}
use Rattle.fleet_cli.proofs.OpenFacts.{at_once, check_opened, check_refused, whatif_opened, whatif_refused}
use Rattle.fleet_cli.proofs.commands.answer_on.Goals as goal

-- ---- what is answered on the tables

pub returns-in_ok-tables-in-Judge : goal.returns-in_ok-tables-in-Judge
returns-in_ok-tables-in-Judge c =
    rw c.in-Judge.is (at_once _ _ (λ f follows. follows) (JudgesOn c.args.contents.now.plan c.in_ok-tables-in-Judge.tables)
    (λ answer tells. inr (record { tables = c.in_ok-tables-in-Judge.tables; reads = c.in_ok-tables-in-Judge.ensures.read; finishes = tells })) c.judge_on.result (rw c.as_slice.ensures at c.judge_on.ensures) c.answered.result c.answered.ensures)

pub returns-in_ok-solve_on-in-Solve : goal.returns-in_ok-solve_on-in-Solve
returns-in_ok-solve_on-in-Solve c = rw c.in-Solve.is (record {
  no_more = λ f follows. follows;
  answers = inr (record { tables = c.in_ok-tables-in-Solve.tables; reads = c.in_ok-tables-in-Solve.ensures.read; finishes = c.in_ok-solve_on-in-Solve.ensures });
})

pub returns-in_ok-tables-in-Tails : goal.returns-in_ok-tables-in-Tails
returns-in_ok-tables-in-Tails c =
    rw c.in-Tails.is (at_once _ _ (λ f follows. follows) (TailsOn c.in-Tails.rotations (dates_by c.in-Tails.dates) c.args.contents.now.plan c.in_ok-tables-in-Tails.tables)
    (λ answer tells. inr (record { tables = c.in_ok-tables-in-Tails.tables; reads = c.in_ok-tables-in-Tails.ensures.read; finishes = tells })) c.tails_on.result (rw c.as_slice-in-Tails.ensures at c.tails_on.ensures) c.answered-in-Tails.result c.answered-in-Tails.ensures)

pub returns-in_ok-tables-in-Due : goal.returns-in_ok-tables-in-Due
returns-in_ok-tables-in-Due c =
    rw c.in-Due.is (at_once _ _ (λ f follows. follows) (DueOn c.in-Due.rotations (dates_by c.in-Due.dates) c.args.contents.now.tails c.args.contents.now.plan c.in_ok-tables-in-Due.tables)
    (λ answer tells. inr (record { tables = c.in_ok-tables-in-Due.tables; reads = c.in_ok-tables-in-Due.ensures.read; finishes = tells })) c.due_on.result (rw (c.as_slice-tails.ensures, c.as_slice-in-Due.ensures) at c.due_on.ensures) c.answered-in-Due.result c.answered-in-Due.ensures)

-- ---- what is asked of a proof

pub returns-in_err-tables-in-Check : goal.returns-in_err-tables-in-Check
returns-in_err-tables-in-Check c =
    let p = err_from_is_err_and c.from_residual-in_err-tables-in-Check.result c.from_residual-in_err-tables-in-Check.ensures.1 in
    rw c.in-Check.is (stops c.from_residual-in_err-tables-in-Check.result p.0 p.1 c.in_err-tables-in-Check.field-0.0 _ _ _ p.2 (check_refused c.in-Check.dir.now c.in-Check.reading (file_content c.args.contents.now)) c.in_err-tables-in-Check.ensures.read)

pub returns-in_ok-tables-in-Check : goal.returns-in_ok-tables-in-Check
returns-in_ok-tables-in-Check c =
    rw c.in-Check.is (check_opened c.in-Check.dir.now c.in-Check.reading (file_content c.args.contents.now) c.in_ok-tables-in-Check.tables c.in_ok-tables-in-Check.ensures.read c.open_proof.result (rw c.as_slice-in-Check.ensures at c.open_proof.ensures))

pub returns-in_err-tables-in-Whatif : goal.returns-in_err-tables-in-Whatif
returns-in_err-tables-in-Whatif c =
    let p = err_from_is_err_and c.from_residual-in_err-tables-in-Whatif.result c.from_residual-in_err-tables-in-Whatif.ensures.1 in
    rw c.in-Whatif.is (stops c.from_residual-in_err-tables-in-Whatif.result p.0 p.1 c.in_err-tables-in-Whatif.field-0.0 _ _ _ p.2 (whatif_refused c.in-Whatif.dir.now c.in-Whatif.reading c.in-Whatif.fleet.now c.in-Whatif.count (file_content c.args.contents.now)) c.in_err-tables-in-Whatif.ensures.read)

pub returns-in_ok-tables-in-Whatif : goal.returns-in_ok-tables-in-Whatif
returns-in_ok-tables-in-Whatif c =
    rw c.in-Whatif.is (whatif_opened c.in-Whatif.dir.now c.in-Whatif.reading c.in-Whatif.fleet.now c.in-Whatif.count (file_content c.args.contents.now) c.in_ok-tables-in-Whatif.tables c.in_ok-tables-in-Whatif.ensures.read c.open_of_fleet.result (rw c.as_slice-in-Whatif.ensures at c.open_of_fleet.ensures))
