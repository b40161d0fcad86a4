use Rattle.std.proofs.Common.{arith}
use Rattle.lp_rows.proofs.Outlines.{slack_stands}
use Rattle.lp_rows.proofs.outline.Outline.slack_column.Goals as goal

pub returns-clause-stands : goal.returns-clause-stands
returns-clause-stands c = slack_stands c.args.self.now c.args.fleet _ (omega (arith, c.len.ensures, c.len-2.ensures)) c.requires
