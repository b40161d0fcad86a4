use Rattle.std.proofs.Common.{◌∙◌, ap, refl}
use Rattle.std.proofs.lemmas.List.{take_all}
use Rattle.euler_rotation.specs.Walks.{legs_of_path}
use Rattle.euler_rotation.proofs.Marks.{legs_in_order, legs_listed, one_leg_more}
use Rattle.euler_rotation.proofs.path.Path.legs.Goals as goal

pub loop-level-init : goal.loop-level-init
unfolding legs_in_order
loop-level-init c = c.new-legs.ensures.items

pub loop-level-preserved : goal.loop-level-preserved
loop-level-preserved c =
    c.in_ok-push.ensures.items
    ∙ one_leg_more c.deref-level-items.result.now c.loop-level.level-index _ c.loop-level.legs.items _ c.loop-level-test.true c.loop-level.invariant refl

pub returns : goal.returns
returns c =
    c.from_vec.ensures ∙ c.loop-level.invariant
    ∙ ap legs_in_order (take_all c.loop-level.level-index c.deref-level-items.result.now c.loop-level-test.false ∙ c.deref-level-items.ensures.value)
    ∙ legs_listed c.self.inside.levels.items ∙ ap legs_of_path c.self.view_is
