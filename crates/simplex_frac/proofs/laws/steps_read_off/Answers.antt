use Rattle.simplex_frac.proofs.ReachedRows.{reads_off}
use Rattle.simplex_frac.proofs.laws.steps_read_off.Goals as goal

pub returns : goal.returns
returns c = reads_off
