use Rattle.node_bounding.proofs.Examined.{whole_leaf}
use Rattle.node_bounding.proofs.examining.bounded.Goals as goal

pub returns-in-None : goal.returns-in-None
returns-in-None c = λ pivots above. whole_leaf _ pivots _ _ _ above _ c.requires.searched c.requires.best.good c.offer_whole.ensures
