use Rattle.std.proofs.Common.{◌≡◌, ◌++◌}
use Rattle.sums.specs.Places.{list_below}
use Rattle.lp_rows.specs.Layout.{park_at}
use Rattle.lp_rows.proofs.layout.push_parks.Given as goal

abbrev pub invariant-loop-number : goal.invariant-loop-number
invariant-loop-number l = l.parks.items ≡ l.fn.parks.items ++ list_below (park_at l.station) l.number
