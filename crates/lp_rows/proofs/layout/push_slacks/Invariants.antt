use Rattle.std.proofs.Common.{◌≡◌, ◌++◌}
use Rattle.sums.specs.Places.{list_below}
use Rattle.lp_rows.specs.declared.kinds.Column.TheVariants.{Slack}
use Rattle.lp_rows.proofs.layout.push_slacks.Given as goal

abbrev pub invariant-loop-fleet : goal.invariant-loop-fleet
invariant-loop-fleet l = l.columns.items ≡ l.fn.columns.items ++ list_below Slack l.fleet
