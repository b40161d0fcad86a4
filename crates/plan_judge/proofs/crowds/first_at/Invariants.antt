use Rattle.plan_judge.specs.Crowds.{HasRoomUntil}
use Rattle.plan_judge.proofs.crowds.first_at.Given as goal

abbrev pub invariant-loop-before : goal.invariant-loop-before
invariant-loop-before l = HasRoomUntil l.tables l.plan l.station l.cap l.before
