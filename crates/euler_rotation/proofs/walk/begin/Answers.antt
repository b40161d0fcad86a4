use Rattle.std.proofs.Common.{◌∷◌, ◌∙◌, slice_index, ap, refl, arith}
use Rattle.euler_rotation.proofs.WalkSteps.{begun}
use Rattle.euler_rotation.proofs.walk.begin.Goals as goal

pub returns : goal.returns
returns c =
    begun c.args.field.now c.enter.new.walk (record { leg = slice_index c.args.field.now.order.now 0; next = 0; since = 0 }) c.in_ok-used.used.items c.requires (c.in_ok-used.ensures.each_leg ∙ c.leg_count.ensures)
    (λ k lt. c.in_ok-used.ensures.none k (omega (arith, lt, c.leg_count.ensures)))
    (c.in_ok-enter.ensures.path ∙ ap (λ path. record { leg = slice_index c.args.field.now.order.now 0; next = 0; since = 0 } ∷ path) c.new.ensures) c.in_ok-enter.ensures.used refl refl
