use Rattle.std.proofs.Common.{length}
use Rattle.fleet_model.specs.Schedule.{leg_of}
use Rattle.fleet_model.proofs.Departures.{block_flown}
use Rattle.fleet_model.proofs.OwnPairs.{has_own}
use Rattle.fleet_model.proofs.tables.Tables.own_pair.Goals as goal

pub returns-clause-flown : goal.returns-clause-flown
returns-clause-flown c =
    rw (c.shift_count.ensures.value, c.own_slot.ensures.value, c.leg.ensures.value) (block_flown c.args.self.now c.args.leg c.args.fleet _ c.requires.leg c.requires.fleet (has_own c.args.self.now c.args.leg))
