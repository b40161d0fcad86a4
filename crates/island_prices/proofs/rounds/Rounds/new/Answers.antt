use Rattle.island_prices.proofs.TakenMoments.{rounds_from}
use Rattle.island_prices.proofs.rounds.Rounds.new.Goals as goal

pub returns : goal.returns
returns c = rounds_from c.args.tables.now c.args.rises.now c.args.least c.in_ok-moments.moments c.as_slice.result.now c.in_ok-numbers.numbers c.in_ok-moments.ensures c.as_slice.ensures c.in_ok-numbers.ensures
