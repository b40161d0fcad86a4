use Rattle.std.proofs.Common.{arith}
use Rattle.node_bounding.proofs.wholes.flown_part.Goals as goal

pub unreachable-requires : goal.unreachable-requires
unreachable-requires c = c.requires.some.each c.args.leg c.requires.leg (λ f below. c.loop-choice.invariant f (omega (arith, below)))
