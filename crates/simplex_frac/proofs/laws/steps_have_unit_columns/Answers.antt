use Rattle.simplex_frac.proofs.ReachedUnitColumns.{has_unit_columns}
use Rattle.simplex_frac.proofs.laws.steps_have_unit_columns.Goals as goal

pub returns : goal.returns
returns c = has_unit_columns
