use Rattle.bound_cert.proofs.TextTrees as laws
use Rattle.bound_cert.proofs.laws.text_of_reading.Goals as goal

pub returns : goal.returns
returns c = laws.text_of_reading
