use Rattle.std.proofs.Common.{◌*◌, ◌∙◌, arith}
use Rattle.std.proofs.lemmas.Int.{ints}
use Rattle.fleet_model.specs.Mixed.{weighted_cost}
use Rattle.dual_bound.proofs.Numbers.{added, one_more}
use Rattle.dual_bound.specs.Fractions.{parts_in}
use Rattle.cert_check.proofs.fraction_rules.leg_cost.Goals as goal

pub loop-choice-preserved : goal.loop-choice-preserved
loop-choice-preserved c = record {
  added = added (3 * c.loop-choice.choice) 3 _ _ _ _ c.loop-choice.invariant.size c.weighted_cost-sum.ensures.size (omega arith) c.loop-choice.invariant.added c.weighted_cost-sum.ensures.value
      ∙ one_more (weighted_cost c.args.tables.now (parts_in c.args.mixed.now) c.args.leg) c.loop-choice.choice;
  size = record { no_less = omega (arith, ints, c.weighted_cost-sum.ensures.size); no_more = omega (arith, ints, c.weighted_cost-sum.ensures.size) };
}
