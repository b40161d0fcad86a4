use Rattle.std.proofs.Common.{arith, rules}
use Rattle.std.proofs.lemmas.Result.{err_from_is_err_and}
use Rattle.folder_answers.proofs.CallCounts.{after_one_more, one_more_call}
use Rattle.folder_answers.proofs.FrontFacts.{at_place, comes_to_if, front_put_if}
use Rattle.folder_answers.proofs.ReadStops.{called, fails, rose_before, too_long}
use Rattle.folder_answers.specs.Contents.{file_content}
use Rattle.folder_answers.specs.Gathered.{ComesTo, IsAmong}
use Rattle.folder_answers.proofs.gathering.read_files.Goals as goal

pub returns-in_err-bytes-clause-told : goal.returns-in_err-bytes-clause-told
returns-in_err-bytes-clause-told g c =
    let p = err_from_is_err_and c.from_residual.result c.from_residual.ensures.1 in
    let invariant = c.loop-file.invariant in
    rw (p.1, p.2) (too_long _ _ _ (g.D.Desk.holds c.args.desk.now) c.args.dir.now (λ held. ComesTo held c.args.dir.now c.args.files.now) _ _ _ c.in_err-bytes.field-0.0
    (comes_to_if _ _ _ c.loop-file.file-index _ (file_content c.loop-file.contents) invariant.front c.loop-file-test.true) (rw invariant.holds at c.in_err-bytes.ensures.told) c.in_err-bytes.ensures.within)

pub returns-in_err-bytes-clause-too_long : goal.returns-in_err-bytes-clause-too_long
returns-in_err-bytes-clause-too_long g c =
    let p = err_from_is_err_and c.from_residual.result c.from_residual.ensures.1 in
    rw (p.1, p.2) (called _ _ _ (IsAmong c.args.files.now) _ _ _ c.in_err-bytes.field-0.0 (at_place c.args.files.now c.loop-file.file-index _ c.loop-file-test.true)
    (rose_before _ _ _ _ c.loop-file.invariant.taken) c.in_err-bytes.ensures.too_long_taken c.in_err-bytes.ensures.not_proof c.in_err-bytes.ensures.within)

pub returns-in_err-bytes-clause-blamed : goal.returns-in_err-bytes-clause-blamed
returns-in_err-bytes-clause-blamed g c =
    let p = err_from_is_err_and c.from_residual.result c.from_residual.ensures.1 in
    let invariant = c.loop-file.invariant in
    rw (p.1, p.2) (fails _ _ _ (g.D.Desk.holds c.args.desk.now) c.args.dir.now (IsAmong c.args.files.now) (λ held. ComesTo held c.args.dir.now c.args.files.now) _ _ _ c.in_err-bytes.field-0.0
    (at_place c.args.files.now c.loop-file.file-index _ c.loop-file-test.true) invariant.steady (comes_to_if _ _ _ c.loop-file.file-index _ (file_content c.loop-file.contents) invariant.front c.loop-file-test.true)
    c.in_err-bytes.ensures.blamed (rw invariant.holds at c.in_err-bytes.ensures.missing))

pub returns-in_err-bytes-clause-calls : goal.returns-in_err-bytes-clause-calls
returns-in_err-bytes-clause-calls g c = one_more_call _ _ _ _ _ c.loop-file-test.true c.loop-file.invariant.calls c.in_err-bytes.ensures.calls

pub returns-clause-calls : goal.returns-clause-calls
returns-clause-calls g c = record { calls = c.loop-file.file-index; within = c.loop-file.invariant.within; made = c.loop-file.invariant.calls }

pub loop-file-preserved : goal.loop-file-preserved
loop-file-preserved g c = record {
  holds = search rules;
  faults = search rules;
  taken = search rules;
  calls = after_one_more c.loop-file.file-index (g.D.Desk.calls c.args.desk.now) _ _ c.loop-file.invariant.calls c.in_ok-bytes.ensures.calls;
  within = let below = c.loop-file-test.true in omega arith;
  steady = search rules;
  front = rw c.put.ensures (front_put_if _ _ _ _ _ _ _ c.loop-file.invariant.front c.loop-file-test.true (rw c.loop-file.invariant.holds at c.in_ok-bytes.ensures.told) c.in_ok-bytes.ensures.within);
}
