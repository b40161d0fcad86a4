use Rattle.std.proofs.Common.{◌≡◌, ◌<◌, ℕ, length, slice_index_or, []}
use Rattle.plan_rotations.specs.best_matching.Worths.{worth_at}
use Rattle.fleet_model.specs.Schedule.{legs_in}
use Rattle.plan_rotations.specs.through_flights.Worths.{IsTurnWorth, through_pair}
use Rattle.plan_rotations.proofs.through_flights.worths.turn_worths.Given as goal

abbrev pub invariant-loop-arriving : goal.invariant-loop-arriving
invariant-loop-arriving l = record {
  size : length l.worths.items ≡ l.arriving;
  square : (arriving : ℕ) → arriving < l.arriving → length (slice_index_or l.worths.items arriving []) ≡ legs_in l.turns.tables.now;
  each : (arriving departing : ℕ) → arriving < l.arriving → departing < legs_in l.turns.tables.now
      → IsTurnWorth l.turns.tables.now l.turns.plan.now l.turns.fleet (through_pair arriving departing) (worth_at l.worths.items arriving departing);
}
