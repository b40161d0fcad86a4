use Rattle.std.proofs.Common.{refl}
use Rattle.lp_rows.specs.declared.kinds.Column.TheVariants.{Room}
use Rattle.lp_rows.proofs.ListsBehind.{all_values_behind, one_value_behind}
use Rattle.lp_rows.proofs.layout.push_rooms.Goals as goal

pub loop-park-preserved : goal.loop-park-preserved
loop-park-preserved c = one_value_behind Room c.args.parks.now _ _ _ _ c.loop-park.park-index _ c.loop-park-test.true c.loop-park.invariant c.in_ok-push.ensures.items refl

pub returns : goal.returns
returns c = all_values_behind Room c.args.parks.now _ _ c.loop-park.park-index c.loop-park-test.false c.loop-park.invariant
