use Rattle.std.proofs.Common.{◌≡◌, ◌++◌}
use Rattle.bound_cert.specs.ProofText.{rent_lines, text_of_lines}
use Rattle.bound_cert.proofs.writing.push_rents.Given as goal

abbrev pub invariant-loop-fleet : goal.invariant-loop-fleet
invariant-loop-fleet l = l.text.items ≡ l.initial.text.items ++ text_of_lines l.tables (rent_lines l.prices l.fleet)
