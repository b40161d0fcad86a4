use Rattle.std.proofs.Common.{◌≡◌, ◌≤◌, ◌*◌}
use Rattle.sums.specs.Below.{sum_below}
use Rattle.fleet_model.specs.Kept.{kept_by}
use Rattle.fleet_model.specs.declared.limits.TheConstants.{MAX_CHOICES}
use Rattle.node_aggregate.specs.KeptIdles.{strange_on}
use Rattle.node_aggregate.proofs.kept_idles.keeps_allowed.Given as goal

abbrev pub invariant-loop-leg : goal.invariant-loop-leg
invariant-loop-leg l = record {
  counted : l.strange ≡ sum_below (strange_on l.tables (kept_by l.kept)) l.leg;
  few : l.strange ≤ MAX_CHOICES * l.leg;
}
