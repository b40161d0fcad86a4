use Rattle.cert_check.proofs.SplitsAbove.{sound_but_priced}
use Rattle.cert_check.proofs.checking.SoundVisit.enter.Goals as goal

pub own_bound-requires-clause-sound : goal.own_bound-requires-clause-sound
own_bound-requires-clause-sound c = sound_but_priced _ _ _ c.in_default.ensures
