use Rattle.std.proofs.Common.{ℕ, ◌<◌}
use Rattle.dual_bound.specs.Rising.{step_at}
use Rattle.cert_check.specs.PriceRules.{IsWithinAt}
use Rattle.cert_check.proofs.price_rules.are_steps_within.Given as goal

abbrev pub invariant-loop-place : goal.invariant-loop-place
invariant-loop-place l = (k : ℕ) → k < l.place → IsWithinAt l.tables l.prices (step_at l.prices k)
