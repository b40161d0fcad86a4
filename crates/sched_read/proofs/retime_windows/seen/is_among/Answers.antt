use Rattle.std.proofs.Common.{sym, ◌∙◌, w16}
use Rattle.std.proofs.lemmas.Int.{to_z-of_z}
use Rattle.sched_read.proofs.retime_windows.Among.{found_among}
use Rattle.sched_read.proofs.retime_windows.seen.is_among.Goals as goal

pub returns-then-is_of : goal.returns-then-is_of
returns-then-is_of c =
    let same = rw (to_z-of_z w16 c.args.minutes c.ranges.minutes) at c.is_of.ensures in
    sym (found_among c.args.windows.now c.loop-window.window-index _ c.args.leg c.args.minutes c.loop-window-test.true (sym same ∙ c.if-is_of.true))
