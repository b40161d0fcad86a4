use Rattle.std.proofs.Common.{arith}
use Rattle.simplex_frac.proofs.end_check.Shown.{by_line}
use Rattle.simplex_frac.proofs.end_check.checks.are_by_line.Goals as goal

pub returns-then-values-len : goal.returns-then-values-len
returns-then-values-len c = by_line c.args.rows.now c.args.values.now c.are_within.result (omega arith) c.are_within.ensures
