use Rattle.bound_cert.proofs.Cut as laws
use Rattle.bound_cert.proofs.laws.text_tells_lines.Goals as goal

pub returns : goal.returns
returns c = laws.text_tells_lines
