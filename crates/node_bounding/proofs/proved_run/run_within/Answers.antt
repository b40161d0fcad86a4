use Rattle.node_bounding.proofs.Lifts.{finished_within}
use Rattle.node_bounding.proofs.proved_run.run_within.Goals as goal

pub returns-in_ok-finish-in-None : goal.returns-in_ok-finish-in-None
returns-in_ok-finish-in-None g c = finished_within _ _ c.args.pivots _ c.in_ok-finish-in-None.field-0 c.from.result c.in-None.is c.in_ok-finish-in-None.ensures.finished c.from.ensures
