use Rattle.presolve.proofs.UnderWay as laws
use Rattle.presolve.proofs.laws.busy_is_under_way.Goals as goal

pub returns : goal.returns
returns c = laws.busy_is_under_way
