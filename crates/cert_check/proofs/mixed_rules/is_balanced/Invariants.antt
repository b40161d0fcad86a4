use Rattle.std.proofs.Common.{◌<◌, ℕ}
use Rattle.cert_check.specs.MixedRules.{BalancesFleet}
use Rattle.cert_check.proofs.mixed_rules.is_balanced.Given as goal

abbrev pub invariant-loop-fleet : goal.invariant-loop-fleet
invariant-loop-fleet l = (f : ℕ) → f < l.fleet → BalancesFleet l.tables l.mixed f
