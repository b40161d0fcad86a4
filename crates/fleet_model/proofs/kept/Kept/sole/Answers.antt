use Rattle.std.proofs.Common.{[], ◌∷◌, length-append, arith}
use Rattle.fleet_model.proofs.SoleFleets.{flies_more}
use Rattle.fleet_model.proofs.kept.Kept.sole.Goals as goal

pub loop-leg-preserved : goal.loop-leg-preserved
loop-leg-preserved c = rw c.push.ensures (record {
  flown = omega (arith, length-append c.loop-leg.plan (c.in-Some.fleet ∷ []), c.loop-leg.invariant.flown);
  sole = flies_more _ _ _ _ c.loop-leg.invariant.sole (rw c.loop-leg.invariant.flown c.in-Some.ensures);
})
