use Rattle.row_store.proofs.Points.{keeps_surplus}
use Rattle.row_store.proofs.laws.pivot_keeps_surplus.Goals as goal

pub returns : goal.returns
returns c = keeps_surplus
