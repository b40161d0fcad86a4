use Rattle.std.proofs.Common.{◌≡◌, ◌++◌, map, take}
use Rattle.bound_cert.specs.ProofText.{text_of_lines}
use Rattle.bound_cert.proofs.writing.push_entries.Given as goal

abbrev pub invariant-loop-entry : goal.invariant-loop-entry
invariant-loop-entry g l = l.text.items ≡ l.initial.text.items ++ text_of_lines l.tables (map g.T.Written.written (take l.entry-index l.entries))
