use Rattle.std.proofs.Common.{◌≡◌, ◌==◌}
use Rattle.sums.specs.Below.{count_below}
use Rattle.lines_of_flying.specs.ground_turns.Maps.{turn_at}
use Rattle.lines_of_flying.proofs.cycle_join.rounds.follower.Given as goal

abbrev pub invariant-loop-turn : goal.invariant-loop-turn
invariant-loop-turn l = count_below (λ k. (turn_at l.turns k).arriving == l.leg) l.turn-index ≡ 0
