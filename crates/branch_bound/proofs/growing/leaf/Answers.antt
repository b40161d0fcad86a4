use Rattle.std.proofs.Common.{sym, ap, if◌then◌else◌}
use Rattle.dual_bound.specs.declared.trees.Tree.TheVariants as tree
use Rattle.branch_bound.proofs.Closing.{closing_is, open_is}
use Rattle.branch_bound.proofs.growing.leaf.Goals as goal

pub returns-then-is_reached : goal.returns-then-is_reached
returns-then-is_reached c = ap (λ b. if b then tree.Priced c.args.prices else tree.Open c.args.prices c.args.why) (sym (closing_is _ _ c.if-is_reached.ensures))

pub returns-else-is_reached : goal.returns-else-is_reached
returns-else-is_reached c = ap (λ b. if b then tree.Priced c.args.prices else tree.Open c.args.prices c.args.why) (sym (open_is _ _ c.if-is_reached.ensures))
