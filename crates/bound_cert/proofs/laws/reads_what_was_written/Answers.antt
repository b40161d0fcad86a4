use Rattle.bound_cert.proofs.WrittenTrees as laws
use Rattle.bound_cert.proofs.laws.reads_what_was_written.Goals as goal

pub returns : goal.returns
returns c = laws.reads_what_was_written
