use Rattle.std.proofs.Common.{◌≡◌, ℕ, ◌<◌, false}
use Rattle.lines_of_flying.specs.cycle_join.Meetings.{meet}
use Rattle.lines_of_flying.proofs.cycle_join.exchanges.met_by.Given as goal

abbrev pub invariant-loop-other : goal.invariant-loop-other
invariant-loop-other l = (k : ℕ) → k < l.other → meet l.ground l.cycles l.place k ≡ false
