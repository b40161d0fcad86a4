use Rattle.std.proofs.Common.{◌≡◌}
use Rattle.presolve.specs.Reasons.{steps_until}
use Rattle.presolve.proofs.reasons.steps_until.Given as goal

abbrev pub invariant-loop-station : goal.invariant-loop-station
invariant-loop-station l = l.steps.items ≡ steps_until l.tables l.fleet l.minute l.station
