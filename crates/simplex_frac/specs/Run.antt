-- The run of the simplex method from a first table.
use Rattle.std.specs.Prelude.{ℕ, zero, suc, ◌==◌, List, slice_set, unsigned_abs, Option, Some, None, option_and_then, if◌then◌else◌}
use Rattle.frac_row.specs.declared.row.FracRow.{FracRow}
use Rattle.row_store.specs.declared.error.Place.{Place}
use Rattle.row_store.specs.Table.{phase_row, right_side}
use Rattle.row_store.specs.Pivot.{pivoted, pivot_growth}
use Rattle.row_store.specs.Choice.{entering, leaving}
use Rattle.simplex_frac.specs.Tableaux.{Tableau, first_tableau}
use Rattle.simplex_frac.specs.declared.turn.Turn.{Turn}
use Rattle.simplex_frac.specs.declared.turn.Turn.TheVariants.{Best, NoPoint, Ray, Pivot}

-- where a column enters: a ray, or the place of the pivot
abbrev pub turn_at : ℕ → Option ℕ → Turn
turn_at column None = Ray column
turn_at column (Some row) = Pivot row column

abbrev pub turn_by : Tableau → Option ℕ → Turn
turn_by now None = if unsigned_abs (right_side now.table (phase_row now.table)) == 0 then Best else NoPoint
turn_by now (Some column) = turn_at column (leaving now.table now.basis column)

-- what the run does at a tableau: it ends, or it pivots
unfoldable pub turn : Tableau → ℕ → Turn
turn now columns = turn_by now (entering now.table columns)

-- the tableau after a pivot that is not outgrown
abbrev pub unless_outgrown : Tableau → ℕ → ℕ → Option Place → Option Tableau
unless_outgrown now row column None = Some (record { table = pivoted now.table row column; basis = slice_set now.basis row column })
unless_outgrown now row column (Some place) = None

abbrev pub after_turn : Tableau → Turn → Option Tableau
after_turn now (Pivot row column) = unless_outgrown now row column (pivot_growth now.table row column)
after_turn now Best = None
after_turn now NoPoint = None
after_turn now (Ray column) = None

abbrev pub next_tableau : ℕ → Tableau → Option Tableau
next_tableau columns now = after_turn now (turn now columns)

-- the tableau after so many pivots, where the run comes so far
abbrev pub stage : List FracRow → ℕ → ℕ → Option Tableau
stage table columns zero = Some (first_tableau table columns)
stage table columns (suc pivots) = option_and_then (next_tableau columns) (stage table columns pivots)
