use Rattle.std.proofs.Common.{refl}
use Rattle.lp_rows.specs.declared.kinds.Column.TheVariants.{Flight}
use Rattle.lp_rows.proofs.ListsBehind.{all_values_behind, one_value_behind}
use Rattle.lp_rows.proofs.layout.push_flights.Goals as goal

pub loop-pair-preserved : goal.loop-pair-preserved
loop-pair-preserved c = one_value_behind Flight c.args.pairs.now _ _ _ _ c.loop-pair.pair-index _ c.loop-pair-test.true c.loop-pair.invariant c.in_ok-push.ensures.items refl

pub returns : goal.returns
returns c = all_values_behind Flight c.args.pairs.now _ _ c.loop-pair.pair-index c.loop-pair-test.false c.loop-pair.invariant
