use Rattle.std.proofs.Common.{ℕ, ◌<◌}
use Rattle.lines_of_flying.specs.Following.{IsFirstOutNext}
use Rattle.lines_of_flying.proofs.following.first_out.Given as goal

abbrev pub invariant-loop-other : goal.invariant-loop-other
invariant-loop-other l = (k : ℕ) → k < l.other → ¬ (IsFirstOutNext l.ground.tables.now l.ground.plan.now l.ground.fleet l.ground.pairs.now l.leg k)
