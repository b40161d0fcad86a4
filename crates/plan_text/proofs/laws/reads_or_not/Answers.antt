use Rattle.plan_text.proofs.ReadOrNot as laws
use Rattle.plan_text.proofs.laws.reads_or_not.Goals as goal

pub returns : goal.returns
returns c = laws.reads_or_not
