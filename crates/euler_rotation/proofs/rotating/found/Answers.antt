use Rattle.std.proofs.Common.{◌∙◌, sym, subst}
use Rattle.euler_rotation.specs.Tours.{IsKeptTour}
use Rattle.euler_rotation.proofs.rotating.found.Goals as goal

pub returns-then-is_kept_tour : goal.returns-then-is_kept_tour
returns-then-is_kept_tour c =
    let asked = c.args.clean.now.asked.now in
    subst (IsKeptTour asked.tables.now asked.plan.now asked.fleet asked.pairs.now asked.days) (c.deref.ensures.value ∙ sym c.from_vec.ensures)
    (c.is_kept_tour.ensures.0 c.if-is_kept_tour.true)
