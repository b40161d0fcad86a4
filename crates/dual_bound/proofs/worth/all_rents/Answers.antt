use Rattle.std.proofs.Common.{◌*◌, ◌∙◌, arith}
use Rattle.std.proofs.lemmas.Int.{ints}
use Rattle.fleet_model.specs.declared.limits.TheConstants.{MAX_AIRCRAFT}
use Rattle.dual_bound.specs.Worth.{rents_of}
use Rattle.dual_bound.proofs.Numbers.{added, one_more}
use Rattle.dual_bound.proofs.worth.all_rents.Goals as goal

pub loop-fleet-preserved : goal.loop-fleet-preserved
loop-fleet-preserved c = record {
  added = added (MAX_AIRCRAFT * c.loop-fleet.fleet) MAX_AIRCRAFT _ _ _ _ c.loop-fleet.invariant.size c.fleet_rents-sum.ensures.size (omega arith) c.loop-fleet.invariant.added c.fleet_rents-sum.ensures.value
      ∙ one_more (rents_of c.args.tables.now c.args.prices.now) c.loop-fleet.fleet;
  size = record { no_less = omega (arith, ints, c.fleet_rents-sum.ensures.size); no_more = omega (arith, ints, c.fleet_rents-sum.ensures.size) };
}
