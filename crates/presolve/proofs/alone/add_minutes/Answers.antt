use Rattle.std.proofs.Common.{◌<◌, arith}
use Rattle.fleet_model.specs.Schedule.{period_of}
use Rattle.presolve.proofs.MinuteCounts.{all_minutes, is_old, none_busy, one_minute_more, within}
use Rattle.presolve.proofs.alone.add_minutes.Goals as goal

pub loop-minute-init : goal.loop-minute-init
loop-minute-init c = none_busy c.args.tables.now c.args.pair c.args.fleet c.args.cells.now.items

pub index_mut-requires : goal.index_mut-requires
index_mut-requires c =
    let inside = within c.args.tables.now c.args.pair c.args.fleet c.loop-minute.minute c.args.cells.now.items c.loop-minute.cells.items c.requires.width c.requires.fleet (omega (arith, c.period-minute-end.ensures.value)) c.loop-minute.invariant in
    omega (arith, inside, c.loop-minute.cells.ok.0)

pub overflow_add-index_mut : goal.overflow_add-index_mut
overflow_add-index_mut c =
    let early : c.loop-minute.minute < period_of c.args.tables.now = omega (arith, c.period-minute-end.ensures.value) in
    let old = is_old c.args.tables.now c.args.pair c.args.fleet c.loop-minute.minute c.args.cells.now.items c.loop-minute.cells.items c.requires.width c.requires.fleet early c.loop-minute.invariant _ c.index_mut.ensures.value in
    omega (arith, old, c.busy_at.ensures.few, c.requires.small c.loop-minute.minute early)

pub loop-minute-preserved : goal.loop-minute-preserved
loop-minute-preserved c =
    one_minute_more c.args.tables.now c.args.pair c.args.fleet c.loop-minute.minute c.args.cells.now.items c.loop-minute.cells.items c.requires.width c.requires.fleet (omega (arith, c.period-minute-end.ensures.value)) c.loop-minute.invariant
    c.index_mut.result.now c.busy_at.result c.index_mut.ensures.value c.busy_at.ensures.value

pub returns : goal.returns
returns c = all_minutes c.args.tables.now c.args.pair c.args.fleet c.loop-minute.minute _ _ (omega (arith, c.period-minute-end.ensures.value)) c.loop-minute.invariant
