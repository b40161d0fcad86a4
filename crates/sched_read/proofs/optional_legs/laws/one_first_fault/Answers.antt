use Rattle.sched_read.proofs.optional_legs.ReadLaws as laws
use Rattle.sched_read.proofs.optional_legs.laws.one_first_fault.Goals as goal

pub returns : goal.returns
returns c = laws.one_first_fault
