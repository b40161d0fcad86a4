use Rattle.node_bounding.proofs.Examined.{whole_offered}
use Rattle.node_bounding.proofs.WholePlans.{has_fleets}
use Rattle.node_bounding.proofs.examining.offer_whole.Goals as goal

pub flown_parts-flown-requires : goal.flown_parts-flown-requires
flown_parts-flown-requires c = has_fleets _ _ _ c.requires.best.mixed_at

pub returns : goal.returns
returns c = whole_offered _ _ _ _ _ _ c.requires.allowed c.requires.best c.requires.whole c.flown_parts-flown.ensures c.offer.ensures
