use Rattle.lines_of_flying.proofs.ground_turns.FleetTurns as proofs
use Rattle.lines_of_flying.proofs.ground_turns.laws.next_is_map.Goals as goal

pub returns : goal.returns
returns c = proofs.next_is_map
