use Rattle.std.proofs.Common.{arith}
use Rattle.fleet_model.specs.Kept.{kept_by}
use Rattle.presolve.specs.Ends.{end_station}
use Rattle.presolve.proofs.FirstCounts.{all_counted, few_counted_there, none_counted, one_leg_more}
use Rattle.presolve.proofs.counting.all_at.Goals as goal

pub loop-leg-init : goal.loop-leg-init
loop-leg-init c = none_counted c.args.tables.now c.in_ok-cells.cells.items c.in_ok-cells.ensures

pub add_leg-requires-clause-small : goal.add_leg-requires-clause-small
add_leg-requires-clause-small c = few_counted_there c.args.tables.now (kept_by c.args.kept.now) (end_station c.args.tables.now c.args.end) c.loop-leg.leg c.loop-leg.cells.items c.loop-leg.invariant

pub loop-leg-preserved : goal.loop-leg-preserved
loop-leg-preserved c =
    one_leg_more c.args.tables.now (kept_by c.args.kept.now) (end_station c.args.tables.now c.args.end) c.loop-leg.leg c.end_station.result c.loop-leg.cells.items _ c.end_station.ensures.value c.loop-leg.invariant c.add_leg.ensures

pub returns : goal.returns
returns c = all_counted c.args.tables.now (kept_by c.args.kept.now) c.args.end c.loop-leg.leg c.loop-leg.cells.items (omega arith) c.loop-leg.invariant
