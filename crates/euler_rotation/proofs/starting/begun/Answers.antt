use Rattle.std.proofs.Common.{◌∙◌, sym, subst}
use Rattle.euler_rotation.specs.Tours.{BeginsLeast, IsKeptTour}
use Rattle.euler_rotation.proofs.LeastPlaces.{begins_least}
use Rattle.euler_rotation.proofs.Turning.{kept_turned}
use Rattle.euler_rotation.proofs.starting.begun.Goals as goal

pub returns-clause-kept : goal.returns-clause-kept
returns-clause-kept c =
    subst (IsKeptTour c.args.asked.now.tables.now c.args.asked.now.plan.now c.args.asked.now.fleet c.args.asked.now.pairs.now c.args.asked.now.days) (sym (c.from_vec.ensures ∙ c.in_ok-legs.ensures))
    (kept_turned c.args.tour.now c.first_place-place.result c.first_place-place.ensures.within c.args.asked.now.tables.now c.args.asked.now.plan.now c.args.asked.now.fleet c.args.asked.now.pairs.now
    c.args.asked.now.days c.requires.kept)

pub returns-clause-begins : goal.returns-clause-begins
returns-clause-begins c =
    subst (BeginsLeast c.args.asked.now.tables.now c.args.asked.now.fleet) (sym (c.from_vec.ensures ∙ c.in_ok-legs.ensures))
    (begins_least c.args.asked.now.tables.now c.args.asked.now.fleet c.args.tour.now c.first_place-place.result c.first_place-place.ensures)
