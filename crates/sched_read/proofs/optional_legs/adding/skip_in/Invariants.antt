use Rattle.std.proofs.Common.{◌≡◌, length}
use Rattle.sched_read.specs.optional_legs.Adding.{skip_in}
use Rattle.sched_read.proofs.optional_legs.adding.skip_in.Given as goal

abbrev pub invariant-loop-first : goal.invariant-loop-first
invariant-loop-first l = skip_in l.optional l.leg ≡ skip_in l.rest l.leg

abbrev pub decreases-loop-first : goal.decreases-loop-first
decreases-loop-first l = length l.rest
