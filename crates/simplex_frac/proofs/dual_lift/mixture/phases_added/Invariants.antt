use Rattle.std.proofs.Common.{◌≡◌, pos, None}
use Rattle.sums.specs.Below.{max_below}
use Rattle.sums.specs.Places.{first_below}
use Rattle.simplex_frac.specs.dual_lift.Duals.{phases_wanted}
use Rattle.simplex_frac.specs.dual_lift.TooLarge.{phases_excess}
use Rattle.simplex_frac.proofs.dual_lift.mixture.phases_added.Given as goal

abbrev pub invariant-loop-column : goal.invariant-loop-column
invariant-loop-column g l = record {
  most : l.most ≡ pos (max_below (phases_wanted (g.R.RowStore.content l.table)) l.column);
  fits : first_below (phases_excess (g.R.RowStore.content l.table)) l.column ≡ None;
}
