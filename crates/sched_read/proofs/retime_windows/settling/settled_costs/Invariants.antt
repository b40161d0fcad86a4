use Rattle.std.proofs.Common.{◌≡◌, map, take}
use Rattle.sched_read.specs.retime_windows.Settled.{settled_cost}
use Rattle.sched_read.proofs.retime_windows.settling.settled_costs.Given as goal

abbrev pub invariant-loop-entry : goal.invariant-loop-entry
invariant-loop-entry l = l.costs.items ≡ map (settled_cost l.tables l.plan) (take l.entry-index l.tables.costs)
