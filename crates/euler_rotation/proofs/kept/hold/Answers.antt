use Rattle.std.proofs.Common.{arith}
use Rattle.euler_rotation.proofs.Told.{fails, passes, refuted}
use Rattle.euler_rotation.proofs.kept.hold.Goals as goal

pub returns-then-not-has_turn : goal.returns-then-not-has_turn
returns-then-not-has_turn c = fails (λ holds. refuted c.if-not-has_turn.ensures (holds.each c.loop-pair.pair-index c.loop-pair-test.true))

pub returns : goal.returns
returns c = passes (record { each = λ k lt. c.loop-pair.invariant k (omega (arith, lt, c.loop-pair-test.false)) })
