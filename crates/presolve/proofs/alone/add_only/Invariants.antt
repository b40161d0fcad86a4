use Rattle.std.proofs.Common.{◌≡◌, ℕ, ◌<◌, false}
use Rattle.fleet_model.specs.Kept.{kept_by}
use Rattle.fleet_model.specs.Schedule.{leg_on}
use Rattle.presolve.proofs.alone.add_only.Given as goal

abbrev pub invariant-loop-choice : goal.invariant-loop-choice
invariant-loop-choice l = record {
  unchanged : l.cells.items ≡ l.fn.cells.items;
  none : (c : ℕ) → c < l.choice → kept_by l.kept (leg_on l.leg c) ≡ false;
}
