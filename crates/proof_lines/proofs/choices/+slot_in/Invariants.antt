use Rattle.std.proofs.Common.{length}
use Rattle.proof_lines.proofs.choices.+slot_in.Given as goal

abbrev pub decreases-slot_in : goal.decreases-slot_in
decreases-slot_in l = length l.shifts.now
