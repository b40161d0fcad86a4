use Rattle.fleet_model.proofs.Departures.{among}
use Rattle.fleet_model.proofs.tables.Tables.departure_at.Goals as goal

pub returns-clause-leg : goal.returns-clause-leg
returns-clause-leg c = rw c.as_slice.ensures (among c.args.self.now c.args.departure c.requires).leg

pub returns-clause-slot : goal.returns-clause-slot
returns-clause-slot c = rw c.as_slice.ensures (among c.args.self.now c.args.departure c.requires).slot
