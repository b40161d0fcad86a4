use Rattle.simplex_frac.proofs.RightSides.{run_keeps_right_sides}
use Rattle.simplex_frac.proofs.laws.run_keeps_right_sides.Goals as goal

pub returns : goal.returns
returns c = run_keeps_right_sides
