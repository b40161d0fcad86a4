use Rattle.euler_rotation.proofs.TourTurns.{tour_order}
use Rattle.euler_rotation.proofs.rotating.searched.Goals as goal

pub field_of-requires-clause-order : goal.field_of-requires-clause-order
field_of-requires-clause-order c = tour_order c.args.clean.now.asked.now.tables.now c.args.clean.now.asked.now.plan.now c.args.clean.now.asked.now.fleet c.args.tour.now c.requires.tour.tour

pub search-requires : goal.search-requires
search-requires c = c.in_ok-field.ensures.field
