use Rattle.std.proofs.Common.{◌≡◌, ◌+◌, None}
use Rattle.sums.specs.Places.{first_below, list_below}
use Rattle.simplex_frac.specs.dual_lift.Readings.{value_by, value_excess_by}
use Rattle.simplex_frac.proofs.dual_lift.values.values.Given as goal

abbrev pub invariant-loop-past : goal.invariant-loop-past
invariant-loop-past g l = record {
  numbers : l.numbers.items ≡ list_below (λ k. value_by (g.R.RowStore.content l.table) l.reading (l.first + k)) l.past;
  fits : first_below (λ k. value_excess_by (g.R.RowStore.content l.table) l.reading (l.first + k)) l.past ≡ None;
}
