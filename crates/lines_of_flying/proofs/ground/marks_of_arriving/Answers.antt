use Rattle.std.proofs.Common.{◌==◌, ap}
use Rattle.lines_of_flying.specs.ground_turns.Maps.{arrivals_of}
use Rattle.lines_of_flying.proofs.Pushed.{mark_more}
use Rattle.lines_of_flying.proofs.ground.marks_of_arriving.Goals as goal

pub loop-leg-preserved : goal.loop-leg-preserved
loop-leg-preserved c = mark_more (arrivals_of c.args.pairs.now) c.loop-leg.leg c.loop-leg.marks.items c.push.new.self.items _ c.in_ok-push.ensures.items c.loop-leg.invariant (ap (λ n. n == 0) c.arrivals.ensures)
