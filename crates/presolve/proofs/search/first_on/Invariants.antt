use Rattle.std.proofs.Common.{◌≡◌, ℕ, ◌<◌, ◌≤◌, None}
use Rattle.fleet_model.specs.Kept.{kept_by}
use Rattle.fleet_model.specs.Schedule.{leg_on}
use Rattle.presolve.specs.Rules.{removed_by}
use Rattle.presolve.proofs.search.first_on.Given as goal

abbrev pub invariant-loop-choice : goal.invariant-loop-choice
invariant-loop-choice l = (c : ℕ) → l.start ≤ c → c < l.choice → removed_by l.tables (kept_by l.choices.kept) (leg_on l.leg c) ≡ None
