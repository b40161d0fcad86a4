use Rattle.std.proofs.Common.{◌≡◌, ◌≤◌}
use Rattle.sums.specs.Below.{count_below}
use Rattle.fleet_model.specs.Kept.{kept_by}
use Rattle.node_aggregate.specs.KeptIdles.{is_strange}
use Rattle.node_aggregate.proofs.kept_idles.strange_on.Given as goal

abbrev pub invariant-loop-choice : goal.invariant-loop-choice
invariant-loop-choice l = record {
  counted : l.strange ≡ count_below (is_strange l.tables (kept_by l.kept) l.leg) l.choice;
  few : l.strange ≤ l.choice;
}
