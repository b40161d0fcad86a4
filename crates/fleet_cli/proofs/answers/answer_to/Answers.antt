use Rattle.std.proofs.Common.{◌∙◌, Some, inl, inr}
use Rattle.std.specs.Prelude.{⊤}
use Rattle.std.proofs.lemmas.Result.{err_from_is_err_and}
use Rattle.command_words.specs.Words.{asked_by}
use Rattle.folder_answers.specs.Contents.{file_content}
use Rattle.folder_answers.specs.Gathered.{ComesTo, IsAmong}
use Rattle.fleet_cli.specs.Reading.{IsFileReached, IsRead, first_files, folder_of}
use Rattle.folder_answers.specs.declared.contents.Contents.{Contents}
use Rattle.fleet_cli.proofs.AnswerFacts.{told_settled}
use Rattle.fleet_cli.proofs.CallFacts.{reads_first, reads_plan}
use Rattle.fleet_cli.proofs.OpenFacts.{opened_is}
use Rattle.fleet_cli.proofs.StopFacts.{fails_sooner, lacking, lacking_some, lacking_told, some_sooner, some_stopped, stopped_as, told_stopped}
use Rattle.folder_answers.proofs.ReadStops.{weaker_called, weaker_fails, weaker_long}
use Rattle.folder_answers.proofs.ReadStops.{rose_before}
use Rattle.fleet_cli.proofs.answers.answer_to.Goals as goal

-- ---- the first files are enough

pub returns-in-Answered : goal.returns-in-Answered
returns-in-Answered g c = record {
  told = told_settled _ (Some (asked_by c.args.command.now)) (file_content c.in-Ok.contents) (rw (c.folder-dir.ensures, c.as_slice.ensures, c.first_files-files.ensures) at c.in-Ok.ensures.told) _ (rw c.in-Answered.is at (opened_is (Some (asked_by c.args.command.now)) (file_content c.in-Ok.contents) c.answer_on-opened.result c.answer_on-opened.ensures _ c.in_ok-answer.ensures));
  some = let settles = rw c.in-Answered.is at (opened_is (Some (asked_by c.args.command.now)) (file_content c.in-Ok.contents) c.answer_on-opened.result c.answer_on-opened.ensures _ c.in_ok-answer.ensures) in inr (file_content c.in-Ok.contents, settles.answers);
  holds = c.in-Ok.ensures.holds;
  calls = reads_first (Some (asked_by c.args.command.now)) _ _ (rw (c.as_slice.ensures, c.first_files-files.ensures) at c.in-Ok.ensures.calls);
  faults = c.in-Ok.ensures.faults;
  blamed = tt;
  stays_steady = c.in-Ok.ensures.stays_steady;
}

-- ---- they ask for the plan

pub answer_with_plan-requires : goal.answer_with_plan-requires
answer_with_plan-requires g c = let awaits = rw c.in-WantsPlan.is at (opened_is (Some (asked_by c.args.command.now)) (file_content c.in-Ok.contents) c.answer_on-opened.result c.answer_on-opened.ensures _ c.in_ok-answer.ensures) in awaits.ready

pub returns-in-WantsPlan : goal.returns-in-WantsPlan
returns-in-WantsPlan g c = record {
  told =
      let told = rw c.in-Ok.ensures.holds at c.answer_with_plan.ensures.told in
      told (Some (asked_by c.args.command.now)) (file_content c.in-Ok.contents)
      (record { awaits = rw c.in-WantsPlan.is at (opened_is (Some (asked_by c.args.command.now)) (file_content c.in-Ok.contents) c.answer_on-opened.result c.answer_on-opened.ensures _ c.in_ok-answer.ensures); folder = c.folder-dir.ensures; first = rw (c.folder-dir.ensures, c.as_slice.ensures, c.first_files-files.ensures) at c.in-Ok.ensures.told });
  some =
      some_sooner _ _ (Some (asked_by c.args.command.now)) c.answer_with_plan.result (rose_before _ _ _ _ c.in-Ok.ensures.taken)
      (c.answer_with_plan.ensures.some (Some (asked_by c.args.command.now)) (file_content c.in-Ok.contents) (rw c.in-WantsPlan.is at (opened_is (Some (asked_by c.args.command.now)) (file_content c.in-Ok.contents) c.answer_on-opened.result c.answer_on-opened.ensures _ c.in_ok-answer.ensures)));
  holds = c.answer_with_plan.ensures.holds ∙ c.in-Ok.ensures.holds;
  calls =
      let awaits = rw c.in-WantsPlan.is at (opened_is (Some (asked_by c.args.command.now)) (file_content c.in-Ok.contents) c.answer_on-opened.result c.answer_on-opened.ensures _ c.in_ok-answer.ensures) in
      reads_plan (Some (asked_by c.args.command.now)) (file_content c.in-Ok.contents) _ _ _ awaits.wanted (rw (c.as_slice.ensures, c.first_files-files.ensures) at c.in-Ok.ensures.calls) c.answer_with_plan.ensures.calls;
  faults = rw c.in-Ok.ensures.faults at c.answer_with_plan.ensures.faults;
  blamed =
      let blamed = rw c.in-Ok.ensures.holds at c.answer_with_plan.ensures.blamed in
      fails_sooner _ _ _ _ _ _ c.answer_with_plan.result c.in-Ok.ensures.stays_steady (blamed (Some (asked_by c.args.command.now)) (file_content c.in-Ok.contents)
      (record { awaits = rw c.in-WantsPlan.is at (opened_is (Some (asked_by c.args.command.now)) (file_content c.in-Ok.contents) c.answer_on-opened.result c.answer_on-opened.ensures _ c.in_ok-answer.ensures); folder = c.folder-dir.ensures; first = rw (c.folder-dir.ensures, c.as_slice.ensures, c.first_files-files.ensures) at c.in-Ok.ensures.told }));
  stays_steady = λ steady. c.answer_with_plan.ensures.stays_steady (c.in-Ok.ensures.stays_steady steady);
}

-- ---- reading them stopped

pub returns-in-Err : goal.returns-in-Err
returns-in-Err g c = record {
  told =
      let asked = Some (asked_by c.args.command.now) in
      told_stopped Contents asked c.in-Err.stop c.stopped.result c.stopped.ensures _
      (weaker_long Contents _ (folder_of asked) (λ held. ComesTo held (folder_of asked) (first_files asked)) (IsFileReached asked) _ c.in-Err.stop (λ held f comes. inl comes) (rw (c.folder-dir.ensures, c.as_slice.ensures, c.first_files-files.ensures) at c.in-Err.ensures.told));
  some =
      let asked = Some (asked_by c.args.command.now) in
      some_stopped Contents asked c.in-Err.stop c.stopped.result c.stopped.ensures _
      (weaker_called Contents _ (IsAmong (first_files asked)) (IsRead asked) c.in-Err.stop (λ f among. inl among) (rw (c.as_slice.ensures, c.first_files-files.ensures) at c.in-Err.ensures.too_long));
  blamed =
      let asked = Some (asked_by c.args.command.now) in
      stopped_as Contents c.in-Err.stop c.stopped.result ⊤ _ c.stopped.ensures
      (weaker_fails Contents _ _ (folder_of asked) (IsAmong (first_files asked)) (IsRead asked) (λ held. ComesTo held (folder_of asked) (first_files asked)) (IsFileReached asked) _ c.in-Err.stop (λ f among. inl among) (λ held f comes. inl comes)
      (rw (c.folder-dir.ensures, c.as_slice.ensures, c.first_files-files.ensures) at c.in-Err.ensures.blamed));
  calls = reads_first (Some (asked_by c.args.command.now)) _ _ (rw (c.as_slice.ensures, c.first_files-files.ensures) at c.in-Err.ensures.calls);
  holds = c.in-Err.ensures.holds;
  faults = stopped_as _ c.in-Err.stop c.stopped.result _ _ c.stopped.ensures c.in-Err.ensures.faults;
  stays_steady = c.in-Err.ensures.stays_steady;
}

-- ---- want of memory

pub returns-in_err-answer : goal.returns-in_err-answer
returns-in_err-answer g c = record {
  calls = reads_first (Some (asked_by c.args.command.now)) _ _ (rw (c.as_slice.ensures, c.first_files-files.ensures) at c.in-Ok.ensures.calls);
  told = let p = err_from_is_err_and c.from_residual.result c.from_residual.ensures.1 in lacking_told c.from_residual.result p.0 p.1 p.2 _ (Some (asked_by c.args.command.now));
  some = let p = err_from_is_err_and c.from_residual.result c.from_residual.ensures.1 in lacking_some c.from_residual.result p.0 p.1 p.2 _ (Some (asked_by c.args.command.now));
  holds = c.in-Ok.ensures.holds;
  faults = let p = err_from_is_err_and c.from_residual.result c.from_residual.ensures.1 in lacking c.from_residual.result p.0 p.1 p.2 _ _ _ c.in-Ok.ensures.faults;
  blamed = let p = err_from_is_err_and c.from_residual.result c.from_residual.ensures.1 in lacking c.from_residual.result p.0 p.1 p.2 ⊤ _ ⊤ tt;
  stays_steady = c.in-Ok.ensures.stays_steady;
}
