use Rattle.std.proofs.Common.{◌≤◌, ◌+◌, length, sym, ◌∙◌, arith}
use Rattle.island_prices.proofs.ArcSteps.{rise_at_last}
use Rattle.island_prices.proofs.Numbers.{three_taken}
use Rattle.island_prices.proofs.rising.rise_over.Goals as goal

pub returns : goal.returns
returns c =
    let last : length c.args.arc.now.starts.now ≤ c.args.arc.now.place + 1 = omega arith in
    three_taken _ _ _ _ _ _ c.price.ensures.size c.price-2.ensures.size c.rent.ensures.size c.price.ensures.value c.price-2.ensures.value c.rent.ensures.value
    ∙ sym (rise_at_last c.args.prices.now c.args.arc.now.starts.now c.args.arc.now.fleet c.args.arc.now.station c.args.arc.now.place last)
