use Rattle.std.proofs.Common.{◌≡◌, ◌<◌, ℕ}
use Rattle.lines_of_flying.specs.ground_turns.Maps.{turn_after}
use Rattle.euler_rotation.proofs.kept.has_turn.Given as goal

abbrev pub invariant-loop-place : goal.invariant-loop-place
invariant-loop-place l = (k : ℕ) → k < l.place → turn_after l.legs k ≡ l.turn → ⊥
