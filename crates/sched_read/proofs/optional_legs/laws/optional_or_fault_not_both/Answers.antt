use Rattle.sched_read.proofs.optional_legs.ReadLaws as laws
use Rattle.sched_read.proofs.optional_legs.laws.optional_or_fault_not_both.Goals as goal

pub returns : goal.returns
returns c = laws.not_both
