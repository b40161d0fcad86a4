-- The rows of each table of the run, read off its identity block.
use Rattle.simplex_frac.proofs.ReachedRows.{reads_off}
use Rattle.simplex_frac.specs.Duality.{RunReadsOff}
use Rattle.simplex_frac.proofs.RunPoints.{run_is_reached}

pub run_reads_off : RunReadsOff
run_reads_off rows made table basis h = reads_off rows table basis (run_is_reached rows made table basis h)
