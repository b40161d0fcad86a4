use Rattle.euler_rotation.specs.Asked.{AreMet}
use Rattle.euler_rotation.proofs.kept.are_met.Given as goal

abbrev pub invariant-loop-place : goal.invariant-loop-place
invariant-loop-place l = AreMet l.clean.asked.now.tables.now l.clean.asked.now.plan.now l.clean.asked.now.fleet l.legs l.place
