-- The dual values of the lines with a price, over their scale: the balance lines, the count lines and the parking lines, which
-- come after the cover lines, one of each leg.
use Rattle.std.specs.Prelude.{ℕ, ◌+◌, ◌-◌, List, ℤ}
use Rattle.sums.specs.Places.{list_below}
use Rattle.frac_row.specs.Row.{number_of}
use Rattle.frac_row.specs.declared.row.FracRow.{FracRow}
use Rattle.fleet_model.specs.Schedule.{legs_in}
use Rattle.fleet_model.specs.declared.tables.Tables.{Tables}
use Rattle.row_store.specs.Table.{height_of}
use Rattle.simplex_frac.specs.dual_lift.Duals.{best_scale, best_value, phase_den, phase_value}

abbrev pub priced_lines : Tables → List FracRow → ℕ
priced_lines t table = height_of table - legs_in t

-- at a cheapest point of the proved run, and where it found that no point meets the lines
unfoldable pub best_duals : Tables → List FracRow → FracRow
best_duals t table = record {
  numbers = list_below (λ k. best_value table (legs_in t + k)) (priced_lines t table);
  den = best_scale table;
}

unfoldable pub refusal_duals : Tables → List FracRow → FracRow
refusal_duals t table = record {
  numbers = list_below (λ k. phase_value table (legs_in t + k)) (priced_lines t table);
  den = phase_den table;
}

-- the dual value that they have of a line
abbrev pub dual_value_in : Tables → FracRow → ℕ → ℤ
dual_value_in t duals line = number_of duals (line - legs_in t)
