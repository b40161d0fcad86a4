use Rattle.std.proofs.Common.{◌≡◌, []}
use Rattle.sums.specs.Below.{sum_below}
use Rattle.sched_read.specs.retime_windows.Keys.{triples_of}
use Rattle.sched_read.proofs.retime_windows.seen.triples_of.Given as goal

abbrev pub invariant-loop-count : goal.invariant-loop-count
invariant-loop-count l = l.triples ≡ sum_below (triples_of l.fleets []) l.count-index
