use Rattle.std.proofs.Common.{slice_index_or, arith}
use Rattle.fleet_model.specs.Windows.{no_leg}
use Rattle.sums.proofs.Places.{filled_all, filled_none}
use Rattle.sched_read.specs.optional_legs.Adding.{skip_in, skippable_leg}
use Rattle.sched_read.proofs.optional_legs.adding.give_skips.Goals as goal

pub loop-place-init : goal.loop-place-init
loop-place-init c = filled_none no_leg (λ k. skippable_leg (slice_index_or c.args.legs.now.items k no_leg) (skip_in c.args.optional.now k)) c.args.legs.now.items

pub returns : goal.returns
returns c =
    filled_all no_leg (λ k. skippable_leg (slice_index_or c.args.legs.now.items k no_leg) (skip_in c.args.optional.now k)) c.args.legs.now.items c.loop-place.legs.items c.loop-place.place
    c.loop-place.invariant (omega (arith, c.loop-place-test.false))
