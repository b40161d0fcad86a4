-- The cost row with so many of the phase row.
use Rattle.std.specs.Prelude.{◌≡◌, ℕ, ◌<◌, List, pos, ◌<ℤ◌}
use Rattle.frac_row.specs.declared.row.FracRow.{FracRow}
use Rattle.simplex_frac.specs.dual_lift.Duals.{cost_number, cost_part, phase_number, phase_part, phases_added, real_columns}
use Rattle.simplex_frac.specs.declared.dual_lift.mixture.Mixture.{Mixture}

-- where the cost row is negative, the phase row is above 0
pub record HasPhases (table : List FracRow) : Type 0 where
  pub each : (column : ℕ) → column < real_columns table → cost_number table column <ℤ pos 0 → pos 0 <ℤ phase_number table column

-- the numbers by which the two rows are added up
pub record IsMixture (table : List FracRow) (mixture : Mixture) : Type 0 where
  pub phases : mixture.phases ≡ pos (phases_added table)
  pub phase_part : mixture.phase_part ≡ phase_part table
  pub cost_part : mixture.cost_part ≡ cost_part table
