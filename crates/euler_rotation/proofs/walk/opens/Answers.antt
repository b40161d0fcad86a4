use Rattle.std.proofs.Common.{◌<◌, ◌∙◌, false, length, sym, arith}
use Rattle.std.proofs.lemmas.List.{get_or_read}
use Rattle.euler_rotation.proofs.WalkSteps.{opened}
use Rattle.euler_rotation.proofs.walk.opens.Goals as goal

pub returns : goal.returns
returns c =
    let low : c.args.leg < length c.args.walk.now.used.items = omega (arith, c.requires.leg, c.requires.walk.each_leg) in
    opened c.args.field.now c.args.walk.now c.args.top c.args.leg c.since_after.result c.requires.walk c.requires.top c.requires.leg
    (sym (get_or_read c.args.walk.now.used.items c.args.leg c.index.result.now low c.index.ensures false) ∙ c.if-index.false) c.since_after.ensures
