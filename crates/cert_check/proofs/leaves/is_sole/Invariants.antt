use Rattle.std.proofs.Common.{◌≡◌, ℕ, ◌<◌}
use Rattle.fleet_model.specs.Kept.{kept_by, kept_on}
use Rattle.cert_check.proofs.leaves.is_sole.Given as goal

-- each leg so far keeps one choice
abbrev pub invariant-loop-leg : goal.invariant-loop-leg
invariant-loop-leg l = (m : ℕ) → m < l.leg → kept_on l.tables (kept_by l.kept) m ≡ 1
