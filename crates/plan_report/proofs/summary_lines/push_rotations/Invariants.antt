use Rattle.std.proofs.Common.{◌≡◌, ◌++◌}
use Rattle.plan_report.specs.Summary.{rotation_lines}
use Rattle.plan_report.proofs.summary_lines.push_rotations.Given as goal

abbrev pub invariant-loop-fleet : goal.invariant-loop-fleet
invariant-loop-fleet l = l.text.items ≡ l.fn.text.items ++ rotation_lines l.tables l.rotations l.fleet
