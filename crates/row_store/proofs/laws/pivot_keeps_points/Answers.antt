use Rattle.row_store.proofs.Points.{keeps_points}
use Rattle.row_store.proofs.laws.pivot_keeps_points.Goals as goal

pub returns : goal.returns
returns c = keeps_points
