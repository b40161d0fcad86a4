use Rattle.std.proofs.Common.{length}
use Rattle.sched_read.proofs.legs.+are_text.Given as goal

abbrev pub decreases-are_text : goal.decreases-are_text
decreases-are_text l = length l.row.now
