use Rattle.euler_rotation.specs.Starts.{LeastOrNone}
use Rattle.euler_rotation.proofs.starting.least_place.Given as goal

abbrev pub invariant-loop-place : goal.invariant-loop-place
invariant-loop-place l = LeastOrNone l.asked.tables.now l.asked.fleet l.tour l.place l.least
