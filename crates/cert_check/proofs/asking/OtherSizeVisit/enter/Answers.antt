use Rattle.cert_check.proofs.Sized.{sized_fallen, sized_passed}
use Rattle.cert_check.proofs.asking.OtherSizeVisit.enter.Goals as goal

pub returns-then-has_fallen : goal.returns-then-has_fallen
returns-then-has_fallen c = sized_fallen _ _ _ _ c.if-has_fallen.ensures

pub returns : goal.returns
returns c = sized_passed _ _ _ _ _ _ c.if-has_fallen.ensures c.own_bound.ensures c.pass.ensures.number c.pass.ensures.bound
