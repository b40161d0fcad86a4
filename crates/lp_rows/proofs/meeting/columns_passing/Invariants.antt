use Rattle.std.proofs.Common.{◌≡◌}
use Rattle.lp_rows.specs.Meeting.{meets_at}
use Rattle.lp_rows.specs.Staying.{passing_below}
use Rattle.lp_rows.proofs.meeting.columns_passing.Given as goal

abbrev pub invariant-loop-column : goal.invariant-loop-column
invariant-loop-column l = l.columns.items ≡ passing_below (meets_at l.touched l.line) l.column
