use Rattle.std.proofs.Common.{◌∙◌}
use Rattle.node_aggregate.proofs.EventSteps.{none_found, some_found}
use Rattle.node_aggregate.proofs.arcs.first_within.Goals as goal

pub returns : goal.returns
returns c period test few lists = c.then_some.ensures ∙ some_found c.args.idle.now c.args.station c.args.from c.args.until period few test lists c.in_ok-minute.minute c.in_ok-minute.ensures

pub returns-in_err-minute : goal.returns-in_err-minute
returns-in_err-minute c period test few lists = c.from_residual.ensures ∙ none_found c.args.idle.now c.args.station c.args.from c.args.until period few test lists c.in_err-minute.ensures
