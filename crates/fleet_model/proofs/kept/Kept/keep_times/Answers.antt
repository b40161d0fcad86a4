use Rattle.std.proofs.Common.{arith}
use Rattle.fleet_model.proofs.KeptTimes.{times_kept, times_more}
use Rattle.fleet_model.proofs.kept.Kept.keep_times.Goals as goal

pub loop-slot-preserved : goal.loop-slot-preserved
loop-slot-preserved c p =
    times_more c.args.tables.now c.args.entry.now c.loop-slot.slot c.shift_count-times.result p _ _ _ c.shift_count-times.ensures.value c.loop-slot-test.true (c.keep.ensures p) (c.loop-slot.invariant p)

pub returns : goal.returns
returns c p =
    times_kept c.args.tables.now c.args.entry.now c.loop-slot.slot p _ _ (omega (arith, c.loop-slot-test.false, c.loop-slot.auto.slot-end, c.shift_count-times.ensures.value)) (c.loop-slot.invariant p)
