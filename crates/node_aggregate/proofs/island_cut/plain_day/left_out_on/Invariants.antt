use Rattle.std.proofs.Common.{◌≡◌, ◌≤◌}
use Rattle.sums.specs.Below.{count_below}
use Rattle.fleet_model.specs.LeftOut.{leaves_out}
use Rattle.node_aggregate.proofs.island_cut.plain_day.left_out_on.Given as goal

abbrev pub invariant-loop-choice : goal.invariant-loop-choice
invariant-loop-choice l = record {
  counted : l.count ≡ count_below (leaves_out l.tables l.leg) l.choice;
  few : l.count ≤ l.choice;
}
