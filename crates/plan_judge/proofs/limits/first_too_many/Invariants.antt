use Rattle.std.proofs.Common.{ℕ, ◌<◌, ◌≤◌}
use Rattle.fleet_model.specs.Counts.{weights_of}
use Rattle.fleet_model.specs.Use.{used_of}
use Rattle.fleet_model.specs.Sizes.{aircraft_by}
use Rattle.plan_judge.proofs.limits.first_too_many.Given as goal

abbrev pub invariant-loop-fleet : goal.invariant-loop-fleet
invariant-loop-fleet l = (f : ℕ) → f < l.fleet → used_of l.tables (weights_of l.plan) f ≤ aircraft_by l.tables l.sizes f
