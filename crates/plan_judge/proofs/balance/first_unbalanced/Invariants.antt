use Rattle.std.proofs.Common.{ℕ, ◌<◌}
use Rattle.fleet_model.specs.Schedule.{stations_in}
use Rattle.plan_judge.specs.Verdicts.{Balances}
use Rattle.plan_judge.proofs.balance.first_unbalanced.Given as goal

abbrev pub invariant-loop-fleet : goal.invariant-loop-fleet
invariant-loop-fleet l = (f s : ℕ) → f < l.fleet → s < stations_in l.tables → Balances l.tables l.plan f s
