use Rattle.lp_rows.proofs.Counted as laws
use Rattle.lp_rows.proofs.laws.rows_are_counted.Goals as goal

pub returns : goal.returns
returns c = laws.rows_are_counted
