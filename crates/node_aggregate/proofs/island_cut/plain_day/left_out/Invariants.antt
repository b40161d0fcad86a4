use Rattle.std.proofs.Common.{◌≡◌, ◌≤◌, ◌*◌}
use Rattle.sums.specs.Below.{sum_below}
use Rattle.fleet_model.specs.declared.limits.TheConstants.{MAX_CHOICES}
use Rattle.fleet_model.specs.LeftOut.{left_out_on}
use Rattle.node_aggregate.proofs.island_cut.plain_day.left_out.Given as goal

abbrev pub invariant-loop-leg : goal.invariant-loop-leg
invariant-loop-leg l = record {
  counted : l.count ≡ sum_below (left_out_on l.tables) l.leg;
  few : l.count ≤ MAX_CHOICES * l.leg;
}
