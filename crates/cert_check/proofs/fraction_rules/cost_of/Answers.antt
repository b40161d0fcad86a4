use Rattle.std.proofs.Common.{◌*◌, ◌∙◌, arith}
use Rattle.std.proofs.lemmas.Int.{ints}
use Rattle.sums.specs.Below.{sum_below_ℤ}
use Rattle.fleet_model.specs.Mixed.{weighted_cost}
use Rattle.fleet_model.specs.Schedule.{choices_in}
use Rattle.fleet_model.specs.declared.limits.TheConstants.{MAX_CHOICES}
use Rattle.dual_bound.proofs.Numbers.{added, one_more}
use Rattle.dual_bound.specs.Fractions.{parts_in}
use Rattle.cert_check.proofs.fraction_rules.cost_of.Goals as goal

pub loop-leg-preserved : goal.loop-leg-preserved
loop-leg-preserved c = record {
  added = added (3 * MAX_CHOICES * c.loop-leg.leg) (3 * MAX_CHOICES) _ _ _ _ c.loop-leg.invariant.size c.leg_cost-sum.ensures.size (omega arith) c.loop-leg.invariant.added c.leg_cost-sum.ensures.value
      ∙ one_more (λ m. sum_below_ℤ (weighted_cost c.args.tables.now (parts_in c.args.mixed.now) m) (choices_in c.args.tables.now m)) c.loop-leg.leg;
  size = record { no_less = omega (arith, ints, c.leg_cost-sum.ensures.size); no_more = omega (arith, ints, c.leg_cost-sum.ensures.size) };
}
