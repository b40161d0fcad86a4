use Rattle.fleet_model.proofs.PlainTables.{fleet_pair}
use Rattle.lines_of_flying.proofs.ground_turns.turns.flight.Goals as goal

pub returns-clause-pair : goal.returns-clause-pair
returns-clause-pair c = fleet_pair c.args.tables.now c.args.leg c.args.fleet c.requires.leg c.requires.fleet
