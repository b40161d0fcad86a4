use Rattle.bound_cert.proofs.ProofsBegun as laws
use Rattle.bound_cert.proofs.laws.lines_before_begin_proof.Goals as goal

pub returns : goal.returns
returns c = laws.lines_before_begin_proof
