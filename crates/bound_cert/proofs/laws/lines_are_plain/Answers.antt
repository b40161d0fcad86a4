use Rattle.bound_cert.proofs.LinesOfWords as laws
use Rattle.bound_cert.proofs.laws.lines_are_plain.Goals as goal

pub returns : goal.returns
returns c = laws.lines_are_plain
