use Rattle.std.proofs.Common.{◌≡◌, ◌≤◌, ◌==◌}
use Rattle.sums.specs.Below.{count_below}
use Rattle.lines_of_flying.specs.ground_turns.Maps.{turn_at}
use Rattle.lines_of_flying.proofs.ground.arrivals.Given as goal

abbrev pub invariant-loop-pair : goal.invariant-loop-pair
invariant-loop-pair l = record {
  counted : l.count ≡ count_below (λ k. (turn_at l.pairs k).arriving == l.leg) l.pair-index;
  few : l.count ≤ l.pair-index;
}
