use Rattle.std.proofs.Common.{◌≡◌, drop}
use Rattle.fleet_model.specs.Costs.{cost_in}
use Rattle.fleet_model.proofs.costs.scan.Given as goal

abbrev pub invariant-loop-entry : goal.invariant-loop-entry
invariant-loop-entry l = cost_in l.entries l.key.leg l.key.fleet ≡ cost_in (drop l.entry-index l.entries) l.key.leg l.key.fleet
