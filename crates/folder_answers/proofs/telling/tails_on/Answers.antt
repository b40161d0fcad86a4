use Rattle.sched_read.proofs.retime_windows.SettledLaws.{settled_is_legal}
use Rattle.sched_read.proofs.retime_windows.SettledPairs.{plain}
use Rattle.folder_answers.proofs.HaltFacts.{on_legal}
use Rattle.folder_answers.proofs.telling.tails_on.Goals as goal

pub tails_of_shown-requires-clause-plain : goal.tails_of_shown-requires-clause-plain
tails_of_shown-requires-clause-plain c = plain _ _ _ _ c.in_ok-plan.ensures.legal.legal.assignment c.in_ok-shown.ensures

pub tails_of_shown-requires-clause-plan : goal.tails_of_shown-requires-clause-plan
tails_of_shown-requires-clause-plan c = (settled_is_legal _ _ _ _ c.in_ok-plan.ensures.legal.legal.assignment c.in_ok-shown.ensures).1 c.in_ok-plan.ensures.legal.legal

pub returns : goal.returns
returns c = on_legal _ _ _ _ c.in_ok-plan.plan c.in_ok-plan.ensures.read c.in_ok-plan.ensures.legal
    (record { shown = c.in_ok-shown.shown.tables; flown = c.in_ok-shown.shown.plan; settled = c.in_ok-shown.ensures; finishes = c.in_ok-tails_of_shown.ensures })
