use Rattle.std.proofs.Common.{◌≡◌, take}
use Rattle.sched_read.proofs.retime_windows.settling.copied_stations.Given as goal

abbrev pub invariant-loop-station : goal.invariant-loop-station
invariant-loop-station l = l.copied_stations.items ≡ take l.station-index l.stations
