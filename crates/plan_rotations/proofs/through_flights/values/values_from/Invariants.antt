use Rattle.std.proofs.Common.{◌≡◌, ◌<◌, ◌≤◌, ℕ, length, slice_index, drop, unwrap_or, unsigned_abs, pos}
use Rattle.fleet_model.specs.Schedule.{legs_in}
use Rattle.lines_of_flying.specs.ground_turns.Throughs.{through_value_in}
use Rattle.plan_rotations.specs.through_flights.Worths.{through_pair}
use Rattle.plan_rotations.proofs.through_flights.values.values_from.Given as goal

abbrev pub invariant-loop-left : goal.invariant-loop-left
invariant-loop-left l = record {
  size : length l.values ≡ legs_in l.tables;
  within : l.left ≤ length l.tables.throughs;
  each : (departing : ℕ) → departing < legs_in l.tables
      → slice_index l.values departing ≡ unsigned_abs (unwrap_or (through_value_in (drop l.left l.tables.throughs) (through_pair l.arriving departing)) (pos 0));
}

abbrev pub decreases-loop-left : goal.decreases-loop-left
decreases-loop-left l = l.left
