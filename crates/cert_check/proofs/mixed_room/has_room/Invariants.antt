use Rattle.std.proofs.Common.{ℕ, ◌<◌, ◌≤◌}
use Rattle.fleet_model.specs.Schedule.{days_in}
use Rattle.cert_check.specs.MixedRules.{HasMixedRoomOn}
use Rattle.cert_check.proofs.mixed_room.has_room.Given as goal

abbrev pub invariant-loop-station : goal.invariant-loop-station
invariant-loop-station l = (s d : ℕ) → s < l.station → 0 < d → d ≤ days_in l.tables → HasMixedRoomOn l.tables l.mixed s d
