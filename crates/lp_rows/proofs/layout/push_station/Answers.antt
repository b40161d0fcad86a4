use Rattle.std.proofs.Common.{refl}
use Rattle.lp_rows.specs.Layout.{node_of_place}
use Rattle.lp_rows.proofs.ListSums.{one_behind}
use Rattle.lp_rows.proofs.layout.push_station.Goals as goal

pub loop-place-preserved : goal.loop-place-preserved
loop-place-preserved c = one_behind _ _ _ (node_of_place c.args.fleet c.args.station) c.loop-place.place _ c.loop-place.invariant c.in_ok-push.ensures.items refl
