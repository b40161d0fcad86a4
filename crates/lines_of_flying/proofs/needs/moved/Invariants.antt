use Rattle.std.proofs.Common.{◌≡◌, ◌≤◌}
use Rattle.sums.specs.Below.{count_below}
use Rattle.lines_of_flying.specs.Moves.{has_moved}
use Rattle.lines_of_flying.proofs.needs.moved.Given as goal

abbrev pub invariant-loop-leg : goal.invariant-loop-leg
invariant-loop-leg l = record {
  counted : l.count ≡ count_below (has_moved l.ground l.movement l.station l.minute) l.leg;
  few : l.count ≤ l.leg;
}
