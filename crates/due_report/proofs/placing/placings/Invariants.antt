use Rattle.due_report.specs.Placings.{ArePlacedBelow}
use Rattle.due_report.proofs.placing.placings.Given as goal

abbrev pub invariant-loop-fleet : goal.invariant-loop-fleet
invariant-loop-fleet l = ArePlacedBelow l.tables l.plan l.rotations l.day l.tails l.placings.items l.fleet
