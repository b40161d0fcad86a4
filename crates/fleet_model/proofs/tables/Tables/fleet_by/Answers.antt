use Rattle.fleet_model.specs.Schedule.{fleet_by}
use Rattle.fleet_model.proofs.FewChoices.{few_fleets}
use Rattle.fleet_model.proofs.tables.Tables.fleet_by.Goals as goal

pub returns-clause-known : goal.returns-clause-known
unfolding fleet_by
returns-clause-known c = rw c.shift_count.ensures.value (few_fleets c.args.self.now c.args.pair c.requires)
