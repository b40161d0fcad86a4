use Rattle.std.proofs.Common.{◌≡◌}
use Rattle.sums.specs.Places.{list_below}
use Rattle.presolve.specs.Reasons.{reason_rent}
use Rattle.presolve.proofs.reasons.rents.Given as goal

abbrev pub invariant-loop-fleet : goal.invariant-loop-fleet
invariant-loop-fleet l = l.rents.items ≡ list_below (reason_rent l.rule l.own) l.fleet
