use Rattle.std.proofs.Common.{slice_index_or}
use Rattle.fleet_model.specs.Windows.{no_leg}
use Rattle.sums.specs.Places.{IsFilledBelow}
use Rattle.sched_read.specs.retime_windows.Times.{leg_in_windows}
use Rattle.sched_read.proofs.retime_windows.adding.give_times.Given as goal

abbrev pub invariant-loop-place : goal.invariant-loop-place
invariant-loop-place l = IsFilledBelow no_leg (λ k. leg_in_windows l.period l.windows k (slice_index_or l.fn.legs.items k no_leg)) l.fn.legs.items l.legs.items l.place
