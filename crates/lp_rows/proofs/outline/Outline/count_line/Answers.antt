use Rattle.std.proofs.Common.{arith}
use Rattle.lp_rows.proofs.Outlines.{count_stands}
use Rattle.lp_rows.proofs.outline.Outline.count_line.Goals as goal

pub returns-clause-stands : goal.returns-clause-stands
returns-clause-stands c = count_stands c.args.self.now c.args.fleet _ (omega (arith, c.len.ensures)) c.requires
