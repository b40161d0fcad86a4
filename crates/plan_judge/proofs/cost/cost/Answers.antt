use Rattle.std.proofs.Common.{arith}
use Rattle.std.proofs.lemmas.Int.{ints, to_z-of_z}
use Rattle.plan_judge.proofs.cost.cost.Goals as goal

pub loop-leg-preserved : goal.loop-leg-preserved
loop-leg-preserved c = record {
  added = grind (arith, ints, to_z-of_z);
  no_less = omega (arith, ints, c.leg_units-sum.ensures.fits);
  no_more = omega (arith, ints, c.leg_units-sum.ensures.fits);
}
