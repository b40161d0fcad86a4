use Rattle.node_bounding.proofs.Lifts.{has_ended, is_started, told_relaxed}
use Rattle.node_bounding.proofs.proved_run.proved_run.Goals as goal

pub run_within-requires-clause-started : goal.run_within-requires-clause-started
run_within-requires-clause-started g c = is_started _ _ _ _ c.requires.lines c.requires.problem c.in_ok-table.ensures.table

pub ended-requires-clause-ended : goal.ended-requires-clause-ended
ended-requires-clause-ended g c = (c.args.pivots, has_ended _ _ _ _ _ _ _ c.requires.lines c.requires.problem c.in_ok-table.ensures.table c.in_ok-outcome.ensures)

pub returns : goal.returns
returns g c =
    told_relaxed _ _ _ c.ended.result c.told.result (c.ended.ensures.relaxed c.args.pivots (has_ended _ _ _ _ _ _ _ c.requires.lines c.requires.problem c.in_ok-table.ensures.table c.in_ok-outcome.ensures)) c.told.ensures
