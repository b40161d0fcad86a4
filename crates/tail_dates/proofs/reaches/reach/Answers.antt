use Rattle.std.proofs.Common.{arith}
use Rattle.tail_dates.proofs.Rounds.{some_comes}
use Rattle.tail_dates.proofs.reaches.reach.Goals as goal

pub unreachable-requires : goal.unreachable-requires
unreachable-requires c = some_comes c.args.nights.now c.args.first c.requires.some (λ k below. c.loop-after.invariant k (omega (arith, below, c.loop-after-test.false)))
