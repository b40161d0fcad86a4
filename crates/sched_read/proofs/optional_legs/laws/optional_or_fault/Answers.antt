use Rattle.sched_read.proofs.optional_legs.ReadLaws as laws
use Rattle.sched_read.proofs.optional_legs.laws.optional_or_fault.Goals as goal

pub returns : goal.returns
returns c = laws.optional_or_fault
