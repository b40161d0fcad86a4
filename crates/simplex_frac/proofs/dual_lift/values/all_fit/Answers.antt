use Rattle.std.proofs.Common.{◌+◌, ◌-◌, ◌<◌, arith}
use Rattle.row_store.specs.Table.{height_of}
use Rattle.simplex_frac.specs.dual_lift.Readings.{value_excess_by}
use Rattle.simplex_frac.proofs.dual_lift.Excesses.{place_found, place_well}
use Rattle.simplex_frac.proofs.dual_lift.values.all_fit.Goals as goal

pub loop-past-preserved : goal.loop-past-preserved
loop-past-preserved g c = place_well (λ k. value_excess_by (g.R.RowStore.content c.args.table.now) c.args.reading.now (c.args.first + k)) c.loop-past.past c.loop-past.invariant c.in-Ok.ensures.0

pub returns-in-Err : goal.returns-in-Err
returns-in-Err g c =
    let table = g.R.RowStore.content c.args.table.now in
    let below : c.loop-past.past < height_of table - c.args.first = omega arith in
    place_found (λ k. value_excess_by table c.args.reading.now (c.args.first + k)) c.loop-past.past (height_of table - c.args.first) _ c.loop-past.invariant below c.in-Err.ensures
