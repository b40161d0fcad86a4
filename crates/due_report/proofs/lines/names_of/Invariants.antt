use Rattle.std.proofs.Common.{◌≡◌, take}
use Rattle.due_report.specs.Lines.{tail_names}
use Rattle.due_report.proofs.lines.names_of.Given as goal

abbrev pub invariant-loop-place : goal.invariant-loop-place
invariant-loop-place l = l.names.items ≡ tail_names l.fleet (take l.place l.tails)
