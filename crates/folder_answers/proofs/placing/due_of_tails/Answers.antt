use Rattle.sched_read.proofs.retime_windows.SettledLaws.{settled_is_legal}
use Rattle.sched_read.proofs.retime_windows.SettledPairs.{plain}
use Rattle.folder_answers.proofs.HaltFacts.{on_legal}
use Rattle.folder_answers.proofs.placing.due_of_tails.Goals as goal

pub due_of_shown-requires-clause-plain : goal.due_of_shown-requires-clause-plain
due_of_shown-requires-clause-plain c = plain _ _ _ _ c.in_ok-plan.ensures.legal.legal.assignment c.in_ok-shown.ensures

pub due_of_shown-requires-clause-plan : goal.due_of_shown-requires-clause-plan
due_of_shown-requires-clause-plan c = (settled_is_legal _ _ _ _ c.in_ok-plan.ensures.legal.legal.assignment c.in_ok-shown.ensures).1 c.in_ok-plan.ensures.legal.legal

pub returns : goal.returns
returns c = on_legal _ _ _ _ c.in_ok-plan.plan c.in_ok-plan.ensures.read c.in_ok-plan.ensures.legal
    (record { shown = c.in_ok-shown.shown.tables; flown = c.in_ok-shown.shown.plan; settled = c.in_ok-shown.ensures; finishes = c.in_ok-due_of_shown.ensures })
