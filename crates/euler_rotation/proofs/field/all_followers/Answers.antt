use Rattle.std.proofs.Common.{◌∙◌}
use Rattle.sums.proofs.Places.{list_below-push}
use Rattle.euler_rotation.specs.Asked.{followers_of}
use Rattle.euler_rotation.proofs.field.all_followers.Goals as goal

pub loop-leg-preserved : goal.loop-leg-preserved
loop-leg-preserved c =
    c.in_ok-push.ensures.items
    ∙ list_below-push (followers_of c.args.clean.now.asked.now.tables.now c.args.clean.now.asked.now.plan.now c.args.clean.now.asked.now.fleet c.args.clean.now.asked.now.pairs.now c.args.order.now)
    c.loop-leg.leg c.loop-leg.all.items c.in_ok-followers.field-0 c.loop-leg.invariant c.in_ok-followers.ensures
