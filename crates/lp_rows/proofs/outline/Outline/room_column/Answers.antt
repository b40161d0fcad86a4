use Rattle.std.proofs.Common.{arith}
use Rattle.lp_rows.proofs.Outlines.{room_stands}
use Rattle.lp_rows.proofs.outline.Outline.room_column.Goals as goal

pub returns-clause-stands : goal.returns-clause-stands
returns-clause-stands c = room_stands c.args.self.now c.args.number _ (omega (arith, c.len.ensures, c.len-2.ensures)) c.requires
