use Rattle.std.proofs.Common.{slice_index_or}
use Rattle.fleet_model.specs.Windows.{no_leg}
use Rattle.sums.specs.Places.{IsFilledBelow}
use Rattle.sched_read.specs.optional_legs.Adding.{skip_in, skippable_leg}
use Rattle.sched_read.proofs.optional_legs.adding.give_skips.Given as goal

abbrev pub invariant-loop-place : goal.invariant-loop-place
invariant-loop-place l = IsFilledBelow no_leg (λ k. skippable_leg (slice_index_or l.fn.legs.items k no_leg) (skip_in l.optional k)) l.fn.legs.items l.legs.items l.place
