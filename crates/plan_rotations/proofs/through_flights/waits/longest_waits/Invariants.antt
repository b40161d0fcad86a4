use Rattle.std.proofs.Common.{◌≡◌, ◌<◌, ℕ, length, slice_index}
use Rattle.plan_rotations.specs.through_flights.Waits.{IsLongestWait}
use Rattle.plan_rotations.proofs.through_flights.waits.longest_waits.Given as goal

abbrev pub invariant-loop-leg : goal.invariant-loop-leg
invariant-loop-leg l = record {
  size : length l.longest.items ≡ l.leg;
  each : (leg : ℕ) → leg < l.leg → IsLongestWait l.tables l.plan l.fleet leg (slice_index l.longest.items leg);
}
