use Rattle.std.proofs.Common.{◌≡◌, map, take}
use Rattle.lp_rows.specs.Meeting.{touched_by}
use Rattle.lp_rows.proofs.meeting.all_touched.Given as goal

abbrev pub invariant-loop-column : goal.invariant-loop-column
invariant-loop-column l = l.touched.items ≡ map (touched_by l.tables) (take l.column-index l.columns)
