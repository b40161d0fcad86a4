use Rattle.euler_rotation.proofs.TourGone.{GoneTo}
use Rattle.euler_rotation.proofs.kept.go_round.Given as goal

abbrev pub invariant-loop-place : goal.invariant-loop-place
invariant-loop-place l = GoneTo l.asked.tables.now l.asked.days l.before l.asked.fleet l.legs l.place l.since
