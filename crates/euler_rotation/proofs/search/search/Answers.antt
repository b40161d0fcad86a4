use Rattle.std.proofs.Common.{◌∙◌}
use Rattle.euler_rotation.proofs.Visiting.{some_prefix, visited_at_0}
use Rattle.euler_rotation.proofs.search.search.Goals as goal

pub returns-then-visits-eq0 : goal.returns-then-visits-eq0
returns-then-visits-eq0 c =
    visited_at_0 c.args.field.now c.from_vec.result c.args.visits c.requires (some_prefix c.args.field.now c.requires) c.if-visits-eq0.true (c.from_vec.ensures ∙ c.new.ensures.items)
