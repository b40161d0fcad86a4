use Rattle.std.proofs.Common.{◌∙◌, sym, subst, ap, length}
use Rattle.island_prices.specs.Rises.{AreRises}
use Rattle.island_prices.proofs.LeastMinutes.{least_long}
use Rattle.price_lift.proofs.PaidResults.{rises_known}
use Rattle.price_lift.proofs.paying.paid_back.Goals as goal

pub pay_back-requires-clause-rises : goal.pay_back-requires-clause-rises
pay_back-requires-clause-rises c =
    subst (AreRises c.args.tables.now) (sym (c.deref.ensures.value ∙ c.in_ok-rises.ensures))
    (rises_known c.args.tables.now c.requires.outline.0 c.args.outline.now c.requires.outline.1 c.args.prices c.requires.within)

pub pay_back-requires-clause-least : goal.pay_back-requires-clause-least
pay_back-requires-clause-least c = ap length c.in_ok-least.ensures ∙ least_long c.args.tables.now
