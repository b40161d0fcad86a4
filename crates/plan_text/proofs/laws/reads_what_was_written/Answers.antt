use Rattle.plan_text.proofs.Lines as laws
use Rattle.plan_text.proofs.laws.reads_what_was_written.Goals as goal

pub returns : goal.returns
returns c = laws.reads_what_was_written
