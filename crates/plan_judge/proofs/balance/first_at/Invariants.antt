use Rattle.std.proofs.Common.{ℕ, ◌<◌}
use Rattle.plan_judge.specs.Verdicts.{Balances}
use Rattle.plan_judge.proofs.balance.first_at.Given as goal

abbrev pub invariant-loop-station : goal.invariant-loop-station
invariant-loop-station l = (s : ℕ) → s < l.station → Balances l.tables l.plan l.fleet s
