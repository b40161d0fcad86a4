use Rattle.proof_lines.proofs.LineWords as laws
use Rattle.proof_lines.proofs.laws.lines_are_of_words.Goals as goal

pub returns : goal.returns
returns c = laws.of_words
