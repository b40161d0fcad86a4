use Rattle.std.proofs.Common.{arith}
use Rattle.fleet_model.specs.Kept.{kept_by}
use Rattle.presolve.proofs.FirstCounts.{all_alone, alone_leg_more, few_alone_there, none_alone}
use Rattle.presolve.proofs.alone.all_alone.Goals as goal

pub loop-leg-init : goal.loop-leg-init
loop-leg-init c = none_alone c.args.tables.now c.in_ok-cells.cells.items c.in_ok-cells.ensures

pub add_alone-requires-clause-small : goal.add_alone-requires-clause-small
add_alone-requires-clause-small c = few_alone_there c.args.tables.now (kept_by c.args.kept.now) c.loop-leg.leg c.loop-leg.cells.items (omega arith) c.loop-leg.invariant

pub loop-leg-preserved : goal.loop-leg-preserved
loop-leg-preserved c = alone_leg_more c.args.tables.now (kept_by c.args.kept.now) c.loop-leg.leg _ _ c.loop-leg.invariant c.add_alone.ensures

pub returns : goal.returns
returns c = all_alone c.args.tables.now (kept_by c.args.kept.now) c.loop-leg.leg c.loop-leg.cells.items (omega arith) c.loop-leg.invariant
