use Rattle.std.proofs.Common.{refl}
use Rattle.price_lift.proofs.LiftResults.{fails_by, fails_so, fits_by, well_fits, well_lifted}
use Rattle.price_lift.proofs.end_lifts.lift_refusing_end.Goals as goal

pub returns-clause-lifted : goal.returns-clause-lifted
returns-clause-lifted c = well_lifted _ _ c.lifted_refusing.result c.lifted_refusing.ensures.lifted _ (λ lifted is. is.refutes)

pub returns-clause-prices : goal.returns-clause-prices
returns-clause-prices c = well_lifted _ _ c.lifted_refusing.result c.lifted_refusing.ensures.lifted _ (λ lifted is. is.lifted)

pub returns-clause-fits : goal.returns-clause-fits
returns-clause-fits c = fits_by _ _ _ _ c.requires.outline.network c.lifted_refusing.result (well_fits _ _ c.lifted_refusing.result c.lifted_refusing.ensures.lifted _ refl)

pub returns-clause-too_large : goal.returns-clause-too_large
returns-clause-too_large c = fails_by _ _ _ _ c.requires.outline.network c.lifted_refusing.result (fails_so _ _ c.lifted_refusing.result c.lifted_refusing.ensures.lifted _ refl)
