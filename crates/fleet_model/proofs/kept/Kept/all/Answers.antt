use mathlib.Core.Path.{fun_ext}
use Rattle.std.proofs.Common.{arith}
use Rattle.fleet_model.proofs.KeptTimes.{at_end}
use Rattle.fleet_model.proofs.kept.Kept.all.Goals as goal

pub returns : goal.returns
returns c = fun_ext (λ p. at_end c.args.tables.now c.loop-leg.leg p _ (omega (arith, c.loop-leg-test.false, c.loop-leg.auto.leg-end, c.leg_count-leg-end.ensures)) (c.loop-leg.invariant p))
