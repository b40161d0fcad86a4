use Rattle.std.proofs.Common.{◌≡◌}
use Rattle.lines_of_flying.specs.cycle_join.Labels.{label_of, legs_labelled}
use Rattle.lines_of_flying.proofs.cycle_join.parts.legs_of.Given as goal

abbrev pub invariant-loop-leg : goal.invariant-loop-leg
invariant-loop-leg l = l.legs.items ≡ legs_labelled l.cycles.labels.items (label_of l.cycles.labels.items l.first) l.leg
