use Rattle.lines_of_flying.proofs.ground_turns.Exchanges as proofs
use Rattle.lines_of_flying.proofs.ground_turns.laws.exchanged_holds.Goals as goal

pub returns : goal.returns
returns c = proofs.exchanged_holds
