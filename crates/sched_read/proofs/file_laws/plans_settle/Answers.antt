use Rattle.sched_read.proofs.Settling as laws
use Rattle.sched_read.proofs.file_laws.plans_settle.Goals as goal

pub returns : goal.returns
returns c = laws.plans_settle
