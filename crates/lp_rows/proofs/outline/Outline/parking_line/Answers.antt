use Rattle.std.proofs.Common.{arith}
use Rattle.lp_rows.proofs.Outlines.{parking_stands}
use Rattle.lp_rows.proofs.outline.Outline.parking_line.Goals as goal

pub returns-clause-stands : goal.returns-clause-stands
returns-clause-stands c = parking_stands c.args.self.now c.args.number _ (omega (arith, c.len.ensures)) c.requires
