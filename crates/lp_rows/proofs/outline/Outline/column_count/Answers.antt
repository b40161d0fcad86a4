use Rattle.std.proofs.Common.{arith}
use Rattle.lp_rows.proofs.Outlines.{all_columns}
use Rattle.lp_rows.proofs.outline.Outline.column_count.Goals as goal

pub returns-clause-all : goal.returns-clause-all
returns-clause-all c = omega (arith, c.len.ensures, c.len-2.ensures, c.len-3.ensures, all_columns c.args.self.now)
