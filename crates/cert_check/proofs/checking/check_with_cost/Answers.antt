use Rattle.std.proofs.Common.{refl}
use Rattle.cert_check.proofs.Found.{breaks_at, holds_with, proves_nothing, some_rule}
use Rattle.cert_check.proofs.TreeBounds.{bounds_all}
use Rattle.cert_check.proofs.checking.check_with_cost.Goals as goal

pub broken-requires : goal.broken-requires
broken-requires c = some_rule _ _ _ _ _ _ c.new-walker.ensures.kept c.new-walker.ensures.number c.new-walker.ensures.bound c.if-walk.ensures.visited

pub returns-then-walk-clause-verdict : goal.returns-then-walk-clause-verdict
returns-then-walk-clause-verdict c = breaks_at _ _ _ _ _ _ c.new-walker.ensures.kept c.new-walker.ensures.number c.new-walker.ensures.bound c.if-walk.ensures.visited _ c.broken.ensures

pub returns-then-walk-clause-proof : goal.returns-then-walk-clause-proof
returns-then-walk-clause-proof c = proves_nothing _ _ _ _ c.broken.ensures

pub returns-else-walk-clause-verdict : goal.returns-else-walk-clause-verdict
returns-else-walk-clause-verdict c = holds_with _ _ _ _ _ _ c.new-walker.ensures.kept c.new-walker.ensures.number c.new-walker.ensures.bound c.if-walk.ensures.visited

pub returns-else-walk-clause-proof : goal.returns-else-walk-clause-proof
returns-else-walk-clause-proof c =
    let holds = holds_with _ _ _ _ _ _ c.new-walker.ensures.kept c.new-walker.ensures.number c.new-walker.ensures.bound c.if-walk.ensures.visited in
    bounds_all _ _ _ _ _ refl holds.sound holds.bounded
