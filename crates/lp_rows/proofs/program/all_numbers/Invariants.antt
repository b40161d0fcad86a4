use Rattle.std.proofs.Common.{◌≡◌, map, take}
use Rattle.lp_rows.specs.Layout.{starts_in}
use Rattle.lp_rows.specs.Meeting.{IsMet}
use Rattle.lp_rows.specs.Program.{line_numbers}
use Rattle.lp_rows.proofs.program.all_numbers.Given as goal

abbrev pub invariant-loop-line : goal.invariant-loop-line
invariant-loop-line l = (l.rows.items ≡ map (line_numbers l.tables (starts_in l.network) l.columns) (take l.line-index l.lines)) × IsMet l.touched l.met
