use Rattle.std.proofs.Common.{◌≡◌, ◌<◌, ℕ}
use Rattle.fleet_model.specs.Mixed.{weight_on}
use Rattle.dual_bound.specs.Fractions.{parts_in, parts_of_leg}
use Rattle.cert_check.proofs.mixed_rules.covers.Given as goal

abbrev pub invariant-loop-leg : goal.invariant-loop-leg
invariant-loop-leg l = (m : ℕ) → m < l.leg → weight_on l.tables (parts_in l.mixed) m ≡ parts_of_leg l.mixed
