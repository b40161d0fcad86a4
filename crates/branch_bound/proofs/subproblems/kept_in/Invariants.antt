use Rattle.fleet_model.specs.Kept.{kept_by}
use Rattle.branch_bound.proofs.WayUp.{IsOnTheWay}
use Rattle.branch_bound.proofs.subproblems.kept_in.Given as goal

abbrev pub invariant-loop-origin : goal.invariant-loop-origin
invariant-loop-origin l = IsOnTheWay l.tables (kept_by l.first) l.all l.number l.here (kept_by l.kept)

abbrev pub decreases-loop-origin : goal.decreases-loop-origin
decreases-loop-origin l = l.here
