use Rattle.sched_read.proofs.retime_windows.SettledLaws as laws
use Rattle.sched_read.proofs.retime_windows.laws.settled_costs_alike.Goals as goal

pub returns : goal.returns
returns c = laws.settled_costs_alike
