use Rattle.std.proofs.Common.{arith}
use Rattle.fleet_model.specs.Schedule.{departures_in}
use Rattle.fleet_model.proofs.FewChoices.{few_departures}
use Rattle.fleet_model.proofs.tables.Tables.departure_count.Goals as goal

pub overflow_cast-result : goal.overflow_cast-result
unfolding departures_in
overflow_cast-result c = omega (arith, c.len.ensures, few_departures c.args.self.now)

pub returns-clause-few : goal.returns-clause-few
unfolding departures_in
returns-clause-few c = omega (arith, c.len.ensures, few_departures c.args.self.now)
