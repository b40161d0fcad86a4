use Rattle.simplex_frac.proofs.UnitColumns.{run_has_unit_columns}
use Rattle.simplex_frac.proofs.laws.run_has_unit_columns.Goals as goal

pub returns : goal.returns
returns c = run_has_unit_columns
