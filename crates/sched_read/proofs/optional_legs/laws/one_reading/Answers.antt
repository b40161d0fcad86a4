use Rattle.sched_read.proofs.optional_legs.ReadLaws as laws
use Rattle.sched_read.proofs.optional_legs.laws.one_reading.Goals as goal

pub returns : goal.returns
returns c = laws.one_reading
