use Rattle.bound_cert.proofs.WrittenTrees as laws
use Rattle.bound_cert.proofs.laws.one_text.Goals as goal

pub returns : goal.returns
returns c = laws.one_text
