use Rattle.sched_read.proofs.ReadEnds as laws
use Rattle.sched_read.proofs.laws.read_or_fault.Goals as goal

pub returns : goal.returns
returns c = laws.read_or_fault
