use Rattle.bound_cert.proofs.ReadProof as laws
use Rattle.bound_cert.proofs.laws.reads_each_version.Goals as goal

pub returns : goal.returns
returns c = laws.reads_each_version
