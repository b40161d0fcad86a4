use Rattle.std.proofs.Common.{◌≡◌}
use Rattle.sums.specs.Places.{list_below}
use Rattle.euler_rotation.specs.Asked.{followers_of}
use Rattle.euler_rotation.proofs.field.all_followers.Given as goal

abbrev pub invariant-loop-leg : goal.invariant-loop-leg
invariant-loop-leg l =
    l.all.items ≡ list_below (followers_of l.clean.asked.now.tables.now l.clean.asked.now.plan.now l.clean.asked.now.fleet l.clean.asked.now.pairs.now l.order) l.leg
