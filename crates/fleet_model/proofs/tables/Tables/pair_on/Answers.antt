use Rattle.std.proofs.Common.{arith}
use Rattle.fleet_model.proofs.Departures.{block_flown}
use Rattle.fleet_model.proofs.tables.Tables.pair_on.Goals as goal

pub returns-clause-flown : goal.returns-clause-flown
returns-clause-flown c =
    rw c.shift_count.ensures.value (block_flown c.args.self.now c.departure_at-leg.result.leg c.args.fleet c.departure_at-leg.result.slot c.departure_at-leg.ensures.leg c.requires.fleet c.departure_at-leg.ensures.slot)
