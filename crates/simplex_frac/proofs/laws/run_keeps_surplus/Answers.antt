use Rattle.simplex_frac.proofs.RunLaws.{run_keeps_surplus}
use Rattle.simplex_frac.proofs.laws.run_keeps_surplus.Goals as goal

pub returns : goal.returns
returns c = run_keeps_surplus
