use Rattle.std.proofs.Common.{◌≡◌, length}
use Rattle.node_bounding.proofs.FlownParts.{FliesSoFar}
use Rattle.node_bounding.proofs.wholes.flown_parts.Given as goal

abbrev pub invariant-loop-leg : goal.invariant-loop-leg
invariant-loop-leg l = (length l.plan ≡ l.leg) × FliesSoFar l.tables l.mixed l.plan
