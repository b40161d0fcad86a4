use Rattle.euler_rotation.proofs.LeastPlaces.{no_place}
use Rattle.euler_rotation.proofs.TourTurns.{tour_known}
use Rattle.euler_rotation.proofs.starting.first_place.Goals as goal

pub least_place-requires-clause-known : goal.least_place-requires-clause-known
least_place-requires-clause-known c = tour_known c.args.asked.now.tables.now c.args.asked.now.plan.now c.args.asked.now.fleet c.args.tour.now c.requires.kept.tour

pub unreachable-requires : goal.unreachable-requires
unreachable-requires c = no_place c.args.asked.now.tables.now c.args.asked.now.fleet c.args.tour.now c.in-None.ensures c.args.asked.now.plan.now c.requires.kept.tour c.requires.kept.kept.some
