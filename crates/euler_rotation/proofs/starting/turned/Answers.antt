use Rattle.std.proofs.Common.{◌∙◌, ◌+◌, ◌%◌, length, slice_index, refl}
use Rattle.sums.proofs.Places.{list_below-push}
use Rattle.euler_rotation.proofs.starting.turned.Goals as goal

pub loop-step-preserved : goal.loop-step-preserved
loop-step-preserved c =
    c.in_ok-push.ensures.items
    ∙ list_below-push (λ k. slice_index c.args.tour.now ((k + c.args.place) % length c.args.tour.now)) c.loop-step.step c.loop-step.legs.items _ c.loop-step.invariant refl
