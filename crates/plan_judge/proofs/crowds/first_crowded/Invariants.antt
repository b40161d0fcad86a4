use Rattle.std.proofs.Common.{ℕ, ◌<◌, ◌≤◌}
use Rattle.fleet_model.specs.Schedule.{days_in}
use Rattle.plan_judge.specs.Verdicts.{HasRoomOn}
use Rattle.plan_judge.proofs.crowds.first_crowded.Given as goal

abbrev pub invariant-loop-station : goal.invariant-loop-station
invariant-loop-station l = (s d : ℕ) → s < l.station → 0 < d → d ≤ days_in l.tables → HasRoomOn l.tables l.plan s d
