use Rattle.std.proofs.Common.{◌<◌, ◌≤◌, ◌+◌, ◌-◌, ◌%◌, ℕ, slice_index}
use Rattle.plan_rotations.proofs.through_flights.waits.longest_wait.Given as goal

abbrev pub invariant-loop-zero : goal.invariant-loop-zero
invariant-loop-zero l = record {
  no_more : (k : ℕ) → k < l.zero-index → l.longest ≤ (slice_index l.zeros k + l.period - l.ready) % l.period;
  all : (wait : ℕ) → wait < l.period
      → ((k : ℕ) → k < l.zero-index → wait ≤ (slice_index l.zeros k + l.period - l.ready) % l.period) → wait ≤ l.longest;
}
