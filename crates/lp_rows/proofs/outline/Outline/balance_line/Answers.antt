use Rattle.std.proofs.Common.{arith}
use Rattle.lp_rows.proofs.Outlines.{balance_stands}
use Rattle.lp_rows.proofs.outline.Outline.balance_line.Goals as goal

pub returns-clause-stands : goal.returns-clause-stands
returns-clause-stands c = balance_stands c.args.self.now c.args.number _ (omega arith) c.requires
