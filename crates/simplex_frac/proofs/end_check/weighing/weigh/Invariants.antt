use Rattle.simplex_frac.specs.end_check.Ends.{value_in}
use Rattle.simplex_frac.proofs.end_check.Weights.{IsWeighing}
use Rattle.simplex_frac.proofs.end_check.weighing.weigh.Given as goal

abbrev pub invariant-loop-line : goal.invariant-loop-line
invariant-loop-line l = IsWeighing l.rows (value_in l.values) l.line l.weights.items
