use Rattle.std.proofs.Common.{refl}
use Rattle.lp_rows.specs.declared.kinds.Column.TheVariants.{Slack}
use Rattle.lp_rows.proofs.ListSums.{one_behind}
use Rattle.lp_rows.proofs.layout.push_slacks.Goals as goal

pub loop-fleet-preserved : goal.loop-fleet-preserved
loop-fleet-preserved c = one_behind _ _ _ Slack c.loop-fleet.fleet _ c.loop-fleet.invariant c.in_ok-push.ensures.items refl
