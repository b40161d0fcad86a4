use Rattle.std.proofs.Common.{rules, subst}
use Rattle.dual_bound.specs.Rising.{AreOfOthers}
use Rattle.dual_bound.proofs.RisingSteps.{idle}
use Rattle.dual_bound.proofs.price_finder.is_idle.Goals as goal

pub returns : goal.returns
returns c lacking =
    idle c.args.prices.now c.args.fleet (search rules) (subst (λ steps. AreOfOthers steps c.args.fleet) c.as_slice.ensures (c.lack.ensures lacking))
