use Rattle.std.proofs.Common.{◌≡◌, IfSome}
use Rattle.fleet_model.specs.Kept.{kept_by}
use Rattle.fleet_model.specs.Schedule.{leg_on}
use Rattle.dual_bound.specs.Sizes.{IsUpTo}
use Rattle.dual_bound.specs.Worth.{least_below, pair_worth}
use Rattle.dual_bound.proofs.worth.leg_worth.Given as goal

abbrev pub invariant-loop-choice : goal.invariant-loop-choice
invariant-loop-choice l = record {
  least : l.least ≡ least_below (λ c. kept_by l.kept (leg_on l.leg c)) (λ c. pair_worth l.tables l.prices l.k (leg_on l.leg c)) l.choice;
  size : IfSome l.least (λ z. IsUpTo 7 z);
}
