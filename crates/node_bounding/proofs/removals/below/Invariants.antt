use Rattle.std.proofs.Common.{◌≡◌, ◌++◌, List, vec_len}
use Rattle.presolve.specs.declared.trims.Trim.{Trim}
use Rattle.node_bounding.specs.Trims.{AreBelow}
use Rattle.node_bounding.proofs.removals.below.Given as goal

-- the tree stands below those removals that were taken
abbrev pub invariant-loop-removal : goal.invariant-loop-removal
invariant-loop-removal l = (taken : List Trim) × (l.initial.waiting.items ≡ l.waiting.items ++ taken) × AreBelow taken l.initial.tree l.tree

abbrev pub decreases-loop-removal : goal.decreases-loop-removal
decreases-loop-removal l = vec_len l.waiting
