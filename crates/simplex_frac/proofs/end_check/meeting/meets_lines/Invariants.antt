use Rattle.std.proofs.Common.{ℕ, ◌<◌}
use Rattle.simplex_frac.specs.end_check.Sums.{MeetsLine}
use Rattle.simplex_frac.proofs.end_check.meeting.meets_lines.Given as goal

abbrev pub invariant-loop-line : goal.invariant-loop-line
invariant-loop-line l = (line : ℕ) → line < l.line → MeetsLine l.rows l.point l.scale line
