use Rattle.std.proofs.Common.{ℕ, ◌<◌}
use Rattle.dual_bound.specs.Prices.{IsRent, rent_of}
use Rattle.cert_check.proofs.price_rules.are_rents.Given as goal

abbrev pub invariant-loop-fleet : goal.invariant-loop-fleet
invariant-loop-fleet l = (f : ℕ) → f < l.fleet → IsRent (rent_of l.prices f)
