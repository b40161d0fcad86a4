use Rattle.sched_read.proofs.FileReadLaws as laws
use Rattle.sched_read.proofs.file_laws.one_first_fault.Goals as goal

pub returns : goal.returns
returns c = laws.one_first_fault
