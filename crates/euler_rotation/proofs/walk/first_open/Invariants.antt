use Rattle.std.proofs.Common.{◌≡◌}
use Rattle.std.specs.List.{filter}
use Rattle.euler_rotation.specs.Walks.{followers_from, opens_in}
use Rattle.euler_rotation.proofs.walk.first_open.Given as goal

abbrev pub invariant-loop-place : goal.invariant-loop-place
invariant-loop-place l =
    filter (opens_in l.field l.walk.path) (followers_from l.field l.top l.from) ≡ filter (opens_in l.field l.walk.path) (followers_from l.field l.top l.place)
