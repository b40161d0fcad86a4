use Rattle.std.proofs.Common.{◌≡◌, take}
use Rattle.sched_read.proofs.retime_windows.settling.copied_fleets.Given as goal

abbrev pub invariant-loop-fleet : goal.invariant-loop-fleet
invariant-loop-fleet l = l.copied_fleets.items ≡ take l.fleet-index l.fleets
