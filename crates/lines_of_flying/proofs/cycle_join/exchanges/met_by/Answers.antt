use Rattle.std.proofs.Common.{sym, ◌∙◌, below_more}
use Rattle.lines_of_flying.proofs.cycle_join.exchanges.met_by.Goals as goal

pub loop-other-preserved : goal.loop-other-preserved
loop-other-preserved c = below_more _ _ c.loop-other.invariant (sym c.meet.ensures ∙ c.if-meet.false)
