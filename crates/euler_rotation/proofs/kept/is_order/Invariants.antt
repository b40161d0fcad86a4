use Rattle.std.proofs.Common.{◌≡◌, ◌<◌, ℕ}
use Rattle.fleet_model.specs.Counts.{weights_of}
use Rattle.fleet_model.specs.Schedule.{leg_on}
use Rattle.euler_rotation.specs.Tours.{times_in}
use Rattle.euler_rotation.proofs.kept.is_order.Given as goal

abbrev pub invariant-loop-leg : goal.invariant-loop-leg
invariant-loop-leg l = (k : ℕ) → k < l.leg → times_in l.legs k ≡ weights_of l.asked.plan.now (leg_on k l.asked.fleet)
