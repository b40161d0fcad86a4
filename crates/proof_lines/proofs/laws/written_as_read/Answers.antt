use Rattle.proof_lines.proofs.ReadLines as laws
use Rattle.proof_lines.proofs.laws.written_as_read.Goals as goal

pub returns : goal.returns
returns c = laws.written_as_read
