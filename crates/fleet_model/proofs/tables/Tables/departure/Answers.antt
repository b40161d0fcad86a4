use Rattle.fleet_model.specs.Times.{departure}
use Rattle.fleet_model.proofs.PeriodMinutes.{departs_in}
use Rattle.fleet_model.proofs.tables.Tables.departure.Goals as goal

pub returns-clause-within : goal.returns-clause-within
unfolding departure
returns-clause-within c = rw c.shift_by.ensures.value (departs_in c.args.self.now c.args.pair c.requires.pair)
