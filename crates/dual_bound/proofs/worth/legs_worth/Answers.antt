use Rattle.std.proofs.Common.{◌*◌, ◌∙◌, arith}
use Rattle.std.proofs.lemmas.Int.{ints}
use Rattle.fleet_model.specs.Kept.{kept_by}
use Rattle.dual_bound.specs.Worth.{leg_worth}
use Rattle.dual_bound.proofs.Numbers.{added, one_more}
use Rattle.dual_bound.proofs.worth.legs_worth.Goals as goal

pub loop-leg-preserved : goal.loop-leg-preserved
loop-leg-preserved c = record {
  added = added (7 * c.loop-leg.leg) 7 _ _ _ _ c.loop-leg.invariant.size c.leg_worth-sum.ensures.size (omega arith) c.loop-leg.invariant.added c.leg_worth-sum.ensures.value
      ∙ one_more (leg_worth c.args.tables.now (kept_by c.args.kept.now) c.args.prices.now c.args.k) c.loop-leg.leg;
  size = record { no_less = omega (arith, ints, c.leg_worth-sum.ensures.size); no_more = omega (arith, ints, c.leg_worth-sum.ensures.size) };
}
