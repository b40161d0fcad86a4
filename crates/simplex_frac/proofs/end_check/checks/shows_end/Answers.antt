use Rattle.std.proofs.Common.{length, ap, arith}
use Rattle.simplex_frac.specs.end_check.Ends.{value_in}
use Rattle.simplex_frac.proofs.end_check.Weights.{weights_long}
use Rattle.simplex_frac.proofs.end_check.checks.shows_end.Goals as goal

pub are_under-requires-clause-long : goal.are_under-requires-clause-long
are_under-requires-clause-long c = omega (arith, ap length c.as_slice.ensures, c.requires.problem.costs, ap length c.requires.weights, weights_long c.args.rows.now (value_in c.args.hint.now.duals) (length c.args.rows.now.lines))

pub bounds-weights-rows : goal.bounds-weights-rows
bounds-weights-rows c = omega (arith, ap length c.requires.weights, weights_long c.args.rows.now (value_in c.args.hint.now.duals) (length c.args.rows.now.lines))
