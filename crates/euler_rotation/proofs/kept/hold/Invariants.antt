use Rattle.std.proofs.Common.{◌<◌, ℕ}
use Rattle.lines_of_flying.specs.ground_turns.Maps.{HasTurn, turn_at, turns_round}
use Rattle.euler_rotation.proofs.kept.hold.Given as goal

abbrev pub invariant-loop-pair : goal.invariant-loop-pair
invariant-loop-pair l = (k : ℕ) → k < l.pair-index → HasTurn (turns_round l.legs) (turn_at l.pairs k)
