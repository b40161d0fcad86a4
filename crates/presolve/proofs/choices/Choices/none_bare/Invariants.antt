use Rattle.std.proofs.Common.{◌≢◌, ℕ, ◌<◌}
use Rattle.fleet_model.specs.Kept.{kept_by, kept_on}
use Rattle.presolve.proofs.choices.Choices.none_bare.Given as goal

abbrev pub invariant-loop-leg : goal.invariant-loop-leg
invariant-loop-leg l = (k : ℕ) → k < l.leg → kept_on l.tables (kept_by l.self.kept) k ≢ 0
