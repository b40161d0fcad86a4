use Rattle.sched_read.proofs.ReadLaws as laws
use Rattle.sched_read.proofs.laws.read_or_fault_not_both.Goals as goal

pub returns : goal.returns
returns c = λ bytes settings reads fault. laws.reads_no_fault bytes settings reads.tables fault.file fault.row fault.kind reads.reads fault.bad
