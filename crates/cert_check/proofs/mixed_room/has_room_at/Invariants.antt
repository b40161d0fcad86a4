use Rattle.cert_check.specs.MixedRules.{HasMixedRoomUntil}
use Rattle.cert_check.proofs.mixed_room.has_room_at.Given as goal

abbrev pub invariant-loop-before : goal.invariant-loop-before
invariant-loop-before l = HasMixedRoomUntil l.tables l.mixed l.station l.most l.before
