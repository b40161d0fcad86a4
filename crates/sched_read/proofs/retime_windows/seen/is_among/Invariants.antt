use Rattle.std.proofs.Common.{◌≡◌, false, map, take}
use Rattle.sched_read.specs.retime_windows.Keys.{key_with, window_key}
use Rattle.table_rows.specs.Names.{is_among}
use Rattle.sched_read.proofs.retime_windows.seen.is_among.Given as goal

abbrev pub invariant-loop-window : goal.invariant-loop-window
invariant-loop-window l = is_among (key_with l.leg l.minutes) (map window_key (take l.window-index l.windows)) ≡ false
