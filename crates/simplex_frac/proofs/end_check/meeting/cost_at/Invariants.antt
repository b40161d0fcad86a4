use Rattle.std.proofs.Common.{pos}
use Rattle.simplex_frac.specs.end_check.Ends.{part_in, value_in}
use Rattle.simplex_frac.proofs.end_check.Products.{IsSumUpTo}
use Rattle.simplex_frac.proofs.end_check.meeting.cost_at.Given as goal

abbrev pub invariant-loop-column : goal.invariant-loop-column
invariant-loop-column l = IsSumUpTo (value_in l.fn.costs) (λ column. pos (part_in l.fn.point column)) l.column l.total
