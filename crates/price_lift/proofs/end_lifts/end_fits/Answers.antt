use Rattle.std.proofs.Common.{◌∙◌, ap, length}
use Rattle.price_lift.proofs.end_lifts.end_fits.Goals as goal

pub prices_fit-requires-clause-long : goal.prices_fit-requires-clause-long
prices_fit-requires-clause-long c = ap length c.as_slice.ensures ∙ c.requires.long
