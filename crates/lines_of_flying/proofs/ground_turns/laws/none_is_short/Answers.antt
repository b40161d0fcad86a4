use Rattle.lines_of_flying.proofs.ground_turns.Stays as proofs
use Rattle.lines_of_flying.proofs.ground_turns.laws.none_is_short.Goals as goal

pub returns-clause-short : goal.returns-clause-short
returns-clause-short c = proofs.none_is_short

pub returns-clause-all : goal.returns-clause-all
returns-clause-all c = proofs.all_are_maintained
