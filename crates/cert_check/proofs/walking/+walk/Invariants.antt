use Rattle.std.proofs.Common.{◌+◌, ◌*◌}
use Rattle.cert_check.proofs.TreeSizes.{node_count}
use Rattle.cert_check.proofs.walking.+walk.Given as goal

-- each call is of less: a tree, one of its parts
abbrev pub decreases-walk : goal.decreases-walk
decreases-walk g l = 2 * node_count l.tree.now

abbrev pub decreases-walk_part : goal.decreases-walk_part
decreases-walk_part g l = 2 * node_count l.child.now + 1
