use Rattle.sched_read.proofs.retime_windows.ReadLaws as laws
use Rattle.sched_read.proofs.retime_windows.laws.windows_or_fault.Goals as goal

pub returns : goal.returns
returns c = laws.windows_or_fault
