use Rattle.std.proofs.Common.{◌≡◌}
use Rattle.lp_rows.specs.Staying.{passing_below, stays_at}
use Rattle.lp_rows.proofs.arcs.staying_arcs.Given as goal

abbrev pub invariant-loop-number : goal.invariant-loop-number
invariant-loop-number l = l.arcs.items ≡ passing_below (stays_at l.moments) l.number
