use Rattle.sched_read.proofs.retime_windows.SettledOnce as laws
use Rattle.sched_read.proofs.retime_windows.laws.settled_once.Goals as goal

pub returns : goal.returns
returns c = laws.settled_once
