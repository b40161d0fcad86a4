use Rattle.simplex_frac.proofs.ReadOff.{run_reads_off}
use Rattle.simplex_frac.proofs.laws.run_reads_off.Goals as goal

pub returns : goal.returns
returns c = run_reads_off
