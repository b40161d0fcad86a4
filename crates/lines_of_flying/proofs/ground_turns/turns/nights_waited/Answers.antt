use Rattle.std.proofs.Common.{arith}
use Rattle.fleet_model.proofs.PeriodMinutes.{at_most_week, days_are_period, few_days}
use Rattle.lines_of_flying.proofs.ground_turns.turns.nights_waited.Goals as goal

pub overflow_add-ready : goal.overflow_add-ready
overflow_add-ready c = omega (arith, at_most_week c.args.tables.now, c.ready-ready.ensures.within, c.wait-wait.ensures.within)

pub returns-clause-week : goal.returns-clause-week
returns-clause-week c = omega (arith, days_are_period c.args.tables.now, few_days c.args.tables.now, c.wait-wait.ensures.within)

pub returns-clause-few : goal.returns-clause-few
returns-clause-few c = omega (arith, days_are_period c.args.tables.now, c.wait-wait.ensures.within)
