use Rattle.std.proofs.Common.{◌≡◌, ◌<◌, ℕ, length, take}
use Rattle.lines_of_flying.specs.ground_turns.Segments.{is_marked, is_minute_among}
use Rattle.lines_of_flying.proofs.ground_turns.segments.marks.Given as goal

abbrev pub invariant-loop-minute : goal.invariant-loop-minute
invariant-loop-minute l = record {
  whole : length l.marks.items ≡ l.minutes;
  so_far : (m : ℕ) → m < l.minutes → is_marked l.marks.items m ≡ is_minute_among (take l.minute-index l.list) m;
}
