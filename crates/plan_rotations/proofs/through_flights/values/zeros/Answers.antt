use Rattle.std.proofs.Common.{◌≡◌, ◌∙◌, refl, ap, arith}
use Rattle.sums.specs.Places.{list_below}
use Rattle.sums.proofs.Places.{list_below-push}
use Rattle.plan_rotations.proofs.through_flights.values.zeros.Goals as goal

pub loop-preserved : goal.loop-preserved
loop-preserved c = c.in_ok-push.ensures.items ∙ list_below-push _ c.loop.counter _ _ c.loop.invariant refl

pub returns : goal.returns
returns c =
    let all : c.loop.counter ≡ c.args.size = omega arith in
    c.from_vec.ensures ∙ c.loop.invariant ∙ ap (list_below (λ _. 0)) all
