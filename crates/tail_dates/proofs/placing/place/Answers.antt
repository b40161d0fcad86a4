use Rattle.tail_dates.proofs.OwnPlaces.{given_in_time, shown_none}
use Rattle.tail_dates.proofs.placing.place.Goals as goal

pub returns-clause-in_time : goal.returns-clause-in_time
returns-clause-in_time c = given_in_time c.args.tables.now c.args.plan.now c.args.fleet c.args.tour.now c.args.day c.args.tails.now c.requires.day c.outcome.result c.outcome.ensures

pub returns-clause-none : goal.returns-clause-none
returns-clause-none c = shown_none c.args.tables.now c.args.plan.now c.args.fleet c.args.tour.now c.args.day c.args.tails.now c.requires.day c.outcome.result c.outcome.ensures
