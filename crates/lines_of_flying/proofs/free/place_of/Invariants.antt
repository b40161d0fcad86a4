use Rattle.std.proofs.Common.{◌≡◌, ◌≤◌}
use Rattle.sums.specs.Below.{count_below}
use Rattle.lines_of_flying.specs.Moves.{is_ahead}
use Rattle.lines_of_flying.proofs.free.place_of.Given as goal

abbrev pub invariant-loop-other : goal.invariant-loop-other
invariant-loop-other l = record {
  counted : l.count ≡ count_below (is_ahead l.ground l.movement l.leg) l.other;
  few : l.count ≤ l.other;
}
