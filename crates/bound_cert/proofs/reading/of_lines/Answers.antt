use Rattle.bound_cert.proofs.ReadProof as lemmas
use Rattle.bound_cert.proofs.reading.of_lines.Goals as goal

pub returns : goal.returns
returns c = lemmas.answered _ _ _ _ c.proof_at.ensures c.answer.ensures
