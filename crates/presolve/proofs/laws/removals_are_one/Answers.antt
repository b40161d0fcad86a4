use Rattle.presolve.proofs.OneList as laws
use Rattle.presolve.proofs.laws.removals_are_one.Goals as goal

pub returns : goal.returns
returns c = laws.removals_are_one
