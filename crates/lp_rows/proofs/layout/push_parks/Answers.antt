use Rattle.std.proofs.Common.{refl}
use Rattle.lp_rows.specs.Layout.{park_at}
use Rattle.lp_rows.proofs.ListSums.{one_behind}
use Rattle.lp_rows.proofs.layout.push_parks.Goals as goal

pub loop-number-preserved : goal.loop-number-preserved
loop-number-preserved c = one_behind _ _ _ (park_at c.args.station) c.loop-number.number _ c.loop-number.invariant c.in_ok-push.ensures.items refl
