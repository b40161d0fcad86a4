use Rattle.plan_rotations.specs.Rotations.{AreMadeBelow}
use Rattle.plan_rotations.proofs.making.of_fleets.Given as goal

abbrev pub invariant-loop-fleet : goal.invariant-loop-fleet
invariant-loop-fleet l = AreMadeBelow l.tables l.plan l.days l.visits l.all.items l.fleet
