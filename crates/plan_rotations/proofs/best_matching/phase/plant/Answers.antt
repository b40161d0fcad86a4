use Rattle.plan_rotations.proofs.best_matching.Planting.{planted}
use Rattle.plan_rotations.proofs.best_matching.phase.plant.Goals as goal

pub returns : goal.returns
returns c =
    planted _ _ _ _ c.requires.pairing c.requires.duals c.requires.matched c.requires.root
    c.in_ok-first_gaps.ensures.size c.in_ok-first_gaps.ensures.each c.in_ok-repeated.ensures c.in_ok-repeated-2.ensures
