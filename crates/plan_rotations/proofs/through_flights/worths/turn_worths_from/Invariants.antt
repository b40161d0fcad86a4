use Rattle.std.proofs.Common.{◌≡◌, ◌<◌, ℕ, length, slice_index}
use Rattle.plan_rotations.specs.through_flights.Worths.{IsTurnWorth, through_pair}
use Rattle.plan_rotations.proofs.through_flights.worths.turn_worths_from.Given as goal

abbrev pub invariant-loop-departing : goal.invariant-loop-departing
invariant-loop-departing l = record {
  size : length l.worths.items ≡ l.departing;
  each : (departing : ℕ) → departing < l.departing → IsTurnWorth l.turns.tables.now l.turns.plan.now l.turns.fleet (through_pair l.arriving departing) (slice_index l.worths.items departing);
}
