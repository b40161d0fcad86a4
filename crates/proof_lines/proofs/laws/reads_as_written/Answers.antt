use Rattle.proof_lines.proofs.WrittenLines as laws
use Rattle.proof_lines.proofs.laws.reads_as_written.Goals as goal

pub returns : goal.returns
returns c = laws.reads_as_written
