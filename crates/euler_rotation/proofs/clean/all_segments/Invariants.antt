use Rattle.std.proofs.Common.{◌≡◌, ◌<◌, ℕ, [], length, slice_index_or}
use Rattle.euler_rotation.specs.Asked.{AreSegments}
use Rattle.euler_rotation.proofs.clean.all_segments.Given as goal

abbrev pub invariant-loop-station : goal.invariant-loop-station
invariant-loop-station l = record {
  each_station : length l.all.items ≡ l.station;
  each : (s : ℕ) → s < l.station → AreSegments l.asked.tables.now l.asked.plan.now l.asked.fleet s (slice_index_or l.all.items s []);
}
