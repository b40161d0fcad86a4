use Rattle.sched_read.proofs.OneDay as laws
use Rattle.sched_read.proofs.laws.one_day.Goals as goal

pub returns : goal.returns
returns c = laws.one_day
