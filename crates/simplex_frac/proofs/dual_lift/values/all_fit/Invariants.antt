use Rattle.std.proofs.Common.{◌≡◌, ◌+◌, None}
use Rattle.sums.specs.Places.{first_below}
use Rattle.simplex_frac.specs.dual_lift.Readings.{value_excess_by}
use Rattle.simplex_frac.proofs.dual_lift.values.all_fit.Given as goal

abbrev pub invariant-loop-past : goal.invariant-loop-past
invariant-loop-past g l = first_below (λ k. value_excess_by (g.R.RowStore.content l.table) l.reading (l.first + k)) l.past ≡ None
