use Rattle.std.proofs.Common.{arith}
use Rattle.sched_read.proofs.retime_windows.Counting.{triples_below}
use Rattle.sched_read.proofs.retime_windows.seen.triples_of.Goals as goal

pub overflow_add-triples : goal.overflow_add-triples
overflow_add-triples c =
    omega (arith, triples_below c.args.fleets.now c.loop-count.count-index c.loop-count-test.true, c.loop-count.invariant, c.requires)
