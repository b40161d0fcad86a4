use mir.Syntax.{w128}
use Rattle.std.proofs.Common.{◌≡◌, of_z, rules, to_z}
use Rattle.cert_check.proofs.Found.{above_at, none_above}
use Rattle.cert_check.proofs.splits.split_above.Goals as goal

pub returns-then-walk : goal.returns-then-walk
returns-then-walk c =
    let same : to_z w128 (of_z w128 c.args.cost) ≡ c.args.cost = search rules in
    rw same at (above_at _ _ _ _ _ _ c.new-walker.ensures.kept c.new-walker.ensures.number c.if-walk.ensures.visited)

pub returns-else-walk : goal.returns-else-walk
returns-else-walk c =
    let same : to_z w128 (of_z w128 c.args.cost) ≡ c.args.cost = search rules in
    rw same at (none_above _ _ _ _ _ _ c.new-walker.ensures.kept c.new-walker.ensures.number c.if-walk.ensures.visited)
