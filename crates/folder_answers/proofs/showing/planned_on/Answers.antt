use Rattle.std.proofs.lemmas.Result.{IfOk-weaker}
use Rattle.sched_read.proofs.retime_windows.SettledLaws.{settled_is_legal}
use Rattle.sched_read.proofs.retime_windows.SettledPairs.{plain, same_fleets, same_legs}
use Rattle.folder_answers.proofs.showing.planned_on.Goals as goal

pub rotated_on-requires-clause-legs : goal.rotated_on-requires-clause-legs
rotated_on-requires-clause-legs c = same_legs _ _ _ _ c.in_ok-shown.ensures

pub rotated_on-requires-clause-fleets : goal.rotated_on-requires-clause-fleets
rotated_on-requires-clause-fleets c = same_fleets _ _ _ _ c.requires.legal.assignment c.in_ok-shown.ensures

pub rotated_on-requires-clause-plain : goal.rotated_on-requires-clause-plain
rotated_on-requires-clause-plain c = plain _ _ _ _ c.requires.legal.assignment c.in_ok-shown.ensures

pub rotated_on-requires-clause-legal : goal.rotated_on-requires-clause-legal
rotated_on-requires-clause-legal c = (settled_is_legal _ _ _ _ c.requires.legal.assignment c.in_ok-shown.ensures).1 c.requires.legal

pub returns : goal.returns
returns c = IfOk-weaker c.rotated_on.result _ _ (λ answer shows. record { shown = c.in_ok-shown.shown.tables; flown = c.in_ok-shown.shown.plan; settled = c.in_ok-shown.ensures; finishes = shows }) c.rotated_on.ensures
