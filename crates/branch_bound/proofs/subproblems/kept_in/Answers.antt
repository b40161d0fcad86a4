use Rattle.std.proofs.Common.{sym}
use Rattle.branch_bound.proofs.WayUp.{begins, ends, choice_fits, goes_on, later_at, leg_fits}
use Rattle.branch_bound.proofs.subproblems.kept_in.Goals as goal

pub loop-origin-init : goal.loop-origin-init
loop-origin-init c = begins _ _ _ _ c.requires.number

pub narrow-requires-clause-leg : goal.narrow-requires-clause-leg
narrow-requires-clause-leg c = leg_fits _ _ _ (later_at _ _ _ _ c.requires.origins c.loop-origin.invariant.within (sym c.in-Some.ensures))

pub narrow-requires-clause-fleet : goal.narrow-requires-clause-fleet
narrow-requires-clause-fleet c = choice_fits _ _ _ (later_at _ _ _ _ c.requires.origins c.loop-origin.invariant.within (sym c.in-Some.ensures))

pub loop-origin-smaller : goal.loop-origin-smaller
loop-origin-smaller c = (later_at _ _ _ _ c.requires.origins c.loop-origin.invariant.within (sym c.in-Some.ensures)).earlier

pub loop-origin-preserved : goal.loop-origin-preserved
loop-origin-preserved c = goes_on _ _ _ _ _ _ c.loop-origin.invariant _ _ c.requires.origins (sym c.in-Some.ensures) c.narrow.ensures.kept

pub returns : goal.returns
returns c = ends _ _ _ _ _ _ c.loop-origin.invariant (sym c.in_default.ensures)
