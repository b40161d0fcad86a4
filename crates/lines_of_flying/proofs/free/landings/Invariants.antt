use Rattle.std.proofs.Common.{◌≡◌, ◌≤◌}
use Rattle.sums.specs.Below.{count_below}
use Rattle.lines_of_flying.specs.Grounds.{lands_free}
use Rattle.lines_of_flying.proofs.free.landings.Given as goal

abbrev pub invariant-loop-leg : goal.invariant-loop-leg
invariant-loop-leg l = record {
  counted : l.count ≡ count_below (lands_free l.ground l.station) l.leg;
  few : l.count ≤ l.leg;
}
