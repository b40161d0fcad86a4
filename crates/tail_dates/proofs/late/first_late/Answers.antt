use Rattle.std.proofs.Common.{arith}
use Rattle.tail_dates.proofs.Lates.{never_late}
use Rattle.tail_dates.proofs.late.first_late.Goals as goal

pub returns : goal.returns
returns c = never_late c.args.lefts.now c.args.reaches.now c.requires.each (λ nights below. c.loop-within.invariant nights (omega (arith, below, c.loop-within-test.false)))
