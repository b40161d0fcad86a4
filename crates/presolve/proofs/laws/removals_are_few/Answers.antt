use Rattle.presolve.proofs.StepsLeft as laws
use Rattle.presolve.proofs.laws.removals_are_few.Goals as goal

pub returns : goal.returns
returns c = laws.removals_are_few
