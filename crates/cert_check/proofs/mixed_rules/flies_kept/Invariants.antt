use Rattle.std.proofs.Common.{◌<◌, ℕ}
use Rattle.fleet_model.specs.Kept.{kept_by}
use Rattle.cert_check.specs.MixedRules.{FliesKeptOn}
use Rattle.cert_check.proofs.mixed_rules.flies_kept.Given as goal

abbrev pub invariant-loop-leg : goal.invariant-loop-leg
invariant-loop-leg l = (m : ℕ) → m < l.leg → FliesKeptOn l.tables (kept_by l.kept) l.mixed m
