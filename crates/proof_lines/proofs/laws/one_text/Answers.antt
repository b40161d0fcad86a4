use Rattle.proof_lines.proofs.OneText as laws
use Rattle.proof_lines.proofs.laws.one_text.Goals as goal

pub returns : goal.returns
returns c = laws.one_text
