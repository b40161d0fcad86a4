use Rattle.std.proofs.Common.{◌≡◌, ◌++◌}
use Rattle.rotation_report.specs.TextLines.{fleet_lines}
use Rattle.rotation_report.proofs.text_lines.push_fleets.Given as goal

abbrev pub invariant-loop-fleet : goal.invariant-loop-fleet
invariant-loop-fleet l = l.text.items ≡ l.fn.text.items ++ fleet_lines l.tables l.plan l.fleet
