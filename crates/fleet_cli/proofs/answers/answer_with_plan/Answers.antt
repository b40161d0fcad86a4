use Rattle.std.proofs.Common.{inr}
use Rattle.std.specs.Prelude.{⊤}
use Rattle.std.proofs.lemmas.Result.{err_from_is_err_and}
use Rattle.plan_desk.specs.declared.file.DeskFile.TheVariants as file
use Rattle.folder_answers.specs.Contents.{with_plan}
use Rattle.fleet_cli.specs.Reading.{IsFileReached, IsRead, folder_of}
use Rattle.folder_answers.specs.declared.contents.Contents.{Contents}
use Rattle.fleet_cli.proofs.AnswerFacts.{told_awaited, told_reached}
use Rattle.folder_answers.proofs.FrontFacts.{held_if}
use Rattle.folder_answers.proofs.ReadStops.{called, fails, too_long}
use Rattle.fleet_cli.proofs.StopFacts.{lacking, lacking_some, lacking_told, some_stopped, stopped_as, told_stopped}
use Rattle.fleet_cli.proofs.answers.answer_with_plan.Goals as goal

-- ---- the plan was read

pub tell_with_plan-requires : goal.tell_with_plan-requires
tell_with_plan-requires g c = c.requires

pub returns-in_ok-tell_with_plan-in-Ok : goal.returns-in_ok-tell_with_plan-in-Ok
returns-in_ok-tell_with_plan-in-Ok g c = record {
  told = λ call bytes there.
      told_awaited _ call bytes there.first c.args.checking.now there.awaits c.in-Ok.plan _ (held_if _ _ file.Plan c.in-Ok.plan (rw there.folder at c.in-Ok.ensures.told) c.in-Ok.ensures.within) (rw c.as_slice.ensures at c.in_ok-tell_with_plan-in-Ok.ensures);
  some = λ call bytes awaits. inr (with_plan bytes c.in-Ok.plan, awaits.answers c.in-Ok.plan _ (rw c.as_slice.ensures at c.in_ok-tell_with_plan-in-Ok.ensures));
  holds = c.in-Ok.ensures.holds;
  calls = c.in-Ok.ensures.calls;
  faults = c.in-Ok.ensures.faults;
  blamed = λ call bytes there. tt;
  stays_steady = c.in-Ok.ensures.stays_steady;
}

-- ---- reading it stopped

pub returns-in-Err : goal.returns-in-Err
returns-in-Err g c = record {
  told = λ call bytes there.
      told_stopped Contents call c.in-Err.stop c.stopped.result c.stopped.ensures _
      (too_long file.Plan _ Contents _ (folder_of call) (IsFileReached call) _ _ (λ _ _. ⊤) c.in-Err.stop (told_reached _ call bytes there.first c.args.checking.now there.awaits) (rw there.folder at c.in-Err.ensures.told) c.in-Err.ensures.within);
  some = λ call bytes awaits.
      some_stopped Contents call c.in-Err.stop c.stopped.result c.stopped.ensures _
      (called file.Plan _ Contents (IsRead call) _ _ _ c.in-Err.stop (inr (bytes, awaits.wanted)) (λ rose. rose) c.in-Err.ensures.too_long_taken c.in-Err.ensures.not_proof c.in-Err.ensures.within);
  holds = c.in-Err.ensures.holds;
  calls = c.in-Err.ensures.calls;
  faults = stopped_as _ c.in-Err.stop c.stopped.result _ _ c.stopped.ensures c.in-Err.ensures.faults;
  blamed = λ call bytes there.
      stopped_as Contents c.in-Err.stop c.stopped.result ⊤ _ c.stopped.ensures
      (fails file.Plan _ Contents _ (folder_of call) (IsRead call) (IsFileReached call) _ _ _ c.in-Err.stop (inr (bytes, there.awaits.wanted)) (λ steady. steady) (told_reached _ call bytes there.first c.args.checking.now there.awaits)
      c.in-Err.ensures.blamed (rw there.folder at c.in-Err.ensures.missing));
  stays_steady = c.in-Err.ensures.stays_steady;
}

-- ---- want of memory

pub returns-in_err-tell_with_plan-in-Ok : goal.returns-in_err-tell_with_plan-in-Ok
returns-in_err-tell_with_plan-in-Ok g c = record {
  told = λ call bytes there. let p = err_from_is_err_and c.from_residual.result c.from_residual.ensures.1 in lacking_told c.from_residual.result p.0 p.1 p.2 _ call;
  some = λ call bytes awaits. let p = err_from_is_err_and c.from_residual.result c.from_residual.ensures.1 in lacking_some c.from_residual.result p.0 p.1 p.2 _ call;
  holds = c.in-Ok.ensures.holds;
  calls = c.in-Ok.ensures.calls;
  faults = let p = err_from_is_err_and c.from_residual.result c.from_residual.ensures.1 in lacking c.from_residual.result p.0 p.1 p.2 _ _ _ c.in-Ok.ensures.faults;
  blamed = λ call bytes there. let p = err_from_is_err_and c.from_residual.result c.from_residual.ensures.1 in lacking c.from_residual.result p.0 p.1 p.2 ⊤ _ ⊤ tt;
  stays_steady = c.in-Ok.ensures.stays_steady;
}
