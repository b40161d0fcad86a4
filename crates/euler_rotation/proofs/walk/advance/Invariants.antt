use Rattle.std.proofs.Common.{◌≡◌, length}
use Rattle.euler_rotation.specs.Walks.{IsWalk, pending_in}
use Rattle.euler_rotation.proofs.walk.advance.Given as goal

abbrev pub invariant-loop-top : goal.invariant-loop-top
invariant-loop-top l = record {
  walk : IsWalk l.field l.walk;
  same : pending_in l.field l.fn.walk.path 0 ≡ pending_in l.field l.walk.path l.from;
}

abbrev pub decreases-loop-top : goal.decreases-loop-top
decreases-loop-top l = length l.walk.path
