-- The basic columns of each table of the run are unit columns.
use Rattle.simplex_frac.proofs.ReachedUnitColumns.{has_unit_columns}
use Rattle.simplex_frac.specs.Duality.{RunHasUnitColumns}
use Rattle.simplex_frac.proofs.RunPoints.{run_is_reached}

pub run_has_unit_columns : RunHasUnitColumns
run_has_unit_columns rows made table basis h = has_unit_columns rows table basis (run_is_reached rows made table basis h)
