-- Dual values of the lines, read off the identity block of the last table of a run.
use Rattle.std.specs.Prelude.{ℕ, ◌+◌, ◌-◌, ◌/◌, if◌then◌else◌, List, ℤ, pos, ◌-ℤ◌, ◌*ℤ◌, unsigned_abs, int_div}
use Rattle.sums.specs.Below.{max_below}
use Rattle.sums.specs.Divisors.{gcd}
use Rattle.frac_row.specs.declared.row.FracRow.{FracRow}
use Rattle.row_store.specs.Choice.{is_negative}
use Rattle.row_store.specs.Table.{columns_of, cost_row, height_of, number_at, phase_row, row_at}

-- the column of a line in the identity block, which stands after the real columns
abbrev pub real_columns : List FracRow → ℕ
real_columns table = columns_of table - height_of table - 1

abbrev pub identity_column : List FracRow → ℕ → ℕ
identity_column table line = real_columns table + line

-- the phase row and the cost row, each over its denominator
abbrev pub phase_number : List FracRow → ℕ → ℤ
phase_number table column = number_at table (phase_row table) column

abbrev pub phase_den : List FracRow → ℤ
phase_den table = (row_at table (phase_row table)).den

abbrev pub cost_number : List FracRow → ℕ → ℤ
cost_number table column = number_at table (cost_row table) column

abbrev pub cost_den : List FracRow → ℤ
cost_den table = (row_at table (cost_row table)).den

-- n / d rounded up
abbrev pub ceiling : ℕ → ℕ → ℕ
ceiling n d = (n + (d - 1)) / d

-- how often p / P has to be added to c / C before it is not negative
abbrev pub phases_for : ℤ → ℤ → ℤ → ℤ → ℕ
phases_for c C p P = if is_negative c then ceiling (unsigned_abs (c *ℤ P)) (unsigned_abs (p *ℤ C)) else 0

-- how often the phase row has to be added to the cost row before a column is not negative
abbrev pub phases_wanted : List FracRow → ℕ → ℕ
phases_wanted table column = phases_for (cost_number table column) (cost_den table) (phase_number table column) (phase_den table)

-- .. and before no real column is
unfoldable pub phases_added : List FracRow → ℕ
phases_added table = max_below (phases_wanted table) (real_columns table)

-- the two denominators, each over their greatest common divisor
abbrev pub den_divisor : List FracRow → ℤ
den_divisor table = pos (gcd (unsigned_abs (phase_den table)) (unsigned_abs (cost_den table)))

unfoldable pub phase_part : List FracRow → ℤ
phase_part table = int_div (phase_den table) (den_divisor table)

unfoldable pub cost_part : List FracRow → ℤ
cost_part table = int_div (cost_den table) (den_divisor table)

-- the least common multiple of the denominators
abbrev pub best_scale : List FracRow → ℤ
best_scale table = phase_part table *ℤ cost_den table

-- what the phase row says of a line: how far its number there is below the denominator
abbrev pub phase_value : List FracRow → ℕ → ℤ
phase_value table line = phase_den table -ℤ phase_number table (identity_column table line)

-- what the phases that were added say of a line, and what the cost row says, both over that scale
abbrev pub phases_value : List FracRow → ℕ → ℤ
phases_value table line = pos (phases_added table) *ℤ phase_value table line *ℤ cost_part table

abbrev pub cost_value : List FracRow → ℕ → ℤ
cost_value table line = cost_number table (identity_column table line) *ℤ phase_part table

-- the dual value of a line at a cheapest point
abbrev pub best_value : List FracRow → ℕ → ℤ
best_value table line = phases_value table line -ℤ cost_value table line
