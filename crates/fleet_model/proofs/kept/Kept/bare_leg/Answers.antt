use Rattle.std.proofs.Common.{◌≡◌, inl, inr, arith}
use Rattle.std.proofs.lemmas.Bool.{cases_lt}
use Rattle.fleet_model.proofs.kept.Kept.bare_leg.Goals as goal

pub loop-leg-preserved : goal.loop-leg-preserved
loop-leg-preserved c k below = elim (cases_lt k c.loop-leg.leg) [
  | inl before ↦ c.loop-leg.invariant k before
  | inr after ↦ let last : k ≡ c.loop-leg.leg = omega arith in rw (last, ← c.count_on.ensures) c.if-count_on-eq0.false
]
