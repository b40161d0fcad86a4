use Rattle.std.proofs.Common.{◌≡◌, ◌++◌}
use Rattle.lines_of_flying.specs.Lines.{line_after, lines_ended}
use Rattle.lines_of_flying.proofs.days.end_days.Given as goal

abbrev pub invariant-loop : goal.invariant-loop
invariant-loop l = record {
  ended : l.lines.items ≡ l.fn.lines.items ++ lines_ended l.fn.line.items l.counter;
  rest : l.line.items ≡ line_after l.fn.line.items l.counter;
}
