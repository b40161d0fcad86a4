use Rattle.sched_read.proofs.retime_windows.ReadLaws as laws
use Rattle.sched_read.proofs.retime_windows.laws.one_reading.Goals as goal

pub returns : goal.returns
returns c = laws.one_reading
