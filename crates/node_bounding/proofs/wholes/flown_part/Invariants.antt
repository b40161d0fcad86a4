use Rattle.std.proofs.Common.{◌≡◌, ℕ, ◌<◌, pos}
use Rattle.fleet_model.specs.Schedule.{leg_on}
use Rattle.dual_bound.specs.Mixed.{weight_in}
use Rattle.node_bounding.proofs.wholes.flown_part.Given as goal

abbrev pub invariant-loop-choice : goal.invariant-loop-choice
invariant-loop-choice l = (c : ℕ) → c < l.choice → weight_in l.mixed (leg_on l.leg c) ≡ pos 0
