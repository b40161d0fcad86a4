use Rattle.std.proofs.Common.{◌≡◌, ◌*◌, ◌≤ℤ◌, pos, neg_ℤ}
use Rattle.sums.specs.Below.{sum_below_ℤ}
use Rattle.fleet_model.specs.Legal.{leg_cost}
use Rattle.plan_judge.proofs.cost.cost.Given as goal

abbrev pub invariant-loop-leg : goal.invariant-loop-leg
invariant-loop-leg l = record {
  added : l.sum ≡ sum_below_ℤ (leg_cost l.tables l.plan) l.leg;
  no_less : neg_ℤ (pos (3000000000000 * l.leg)) ≤ℤ l.sum;
  no_more : l.sum ≤ℤ pos (3000000000000 * l.leg);
}
