use Rattle.sched_read.proofs.FileReadLaws as laws
use Rattle.sched_read.proofs.file_laws.read_or_fault_not_both.Goals as goal

pub returns : goal.returns
returns c = laws.not_both
