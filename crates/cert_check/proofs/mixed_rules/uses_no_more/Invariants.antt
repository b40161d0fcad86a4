use Rattle.std.proofs.Common.{◌≤◌, ◌*◌, ◌<◌, ℕ}
use Rattle.fleet_model.specs.Schedule.{fleet_of}
use Rattle.fleet_model.specs.Use.{used_of}
use Rattle.dual_bound.specs.Fractions.{parts_in, parts_of_leg}
use Rattle.cert_check.proofs.mixed_rules.uses_no_more.Given as goal

abbrev pub invariant-loop-fleet : goal.invariant-loop-fleet
invariant-loop-fleet l = (f : ℕ) → f < l.fleet → used_of l.tables (parts_in l.mixed) f ≤ parts_of_leg l.mixed * (fleet_of l.tables f).aircraft
