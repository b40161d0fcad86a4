use Rattle.std.proofs.Common.{◌≡◌}
use Rattle.fleet_model.specs.Counts.{pair_at}
use Rattle.fleet_model.specs.Schedule.{fleet_by}
use Rattle.sums.specs.Places.{list_below}
use Rattle.sched_read.proofs.retime_windows.settling.settled_plan.Given as goal

abbrev pub invariant-loop-leg : goal.invariant-loop-leg
invariant-loop-leg l = l.settled ≡ list_below (λ k. fleet_by l.tables (pair_at l.plan k)) l.leg
