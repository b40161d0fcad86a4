-- The lines of a subproblem, as a list of numbers each.
use Rattle.std.specs.Prelude.{◌≡◌, List, [], ◌∷◌, ◌++◌, map, length, ℤ}
use Rattle.fleet_model.specs.declared.tables.Tables.{Tables}
use Rattle.fleet_model.specs.Kept.{Domains}
use Rattle.row_store.specs.declared.problem.Rows.{Rows}
use Rattle.lp_rows.specs.declared.kinds.Column.{Column}
use Rattle.lp_rows.specs.declared.kinds.Line.{Line}
use Rattle.lp_rows.specs.Entries.{column_cost, entry_of, right_side_of}
use Rattle.lp_rows.specs.declared.outline.Outline.{Outline}
use Rattle.lp_rows.specs.Layout.{IsNetwork, Starts, program_columns, program_lines, starts_in}
use Rattle.lp_rows.specs.Outline.{columns_in, lines_in}

-- a line's numbers, and then its right side
abbrev pub line_numbers : Tables → Starts → List Column → Line → List ℤ
line_numbers t starts columns line = map (entry_of t starts line) columns ++ right_side_of t line ∷ []

-- the lines and costs of a subproblem over its network
pub record AreRows (t : Tables) (keeps : Domains) (starts : Starts) (rows : Rows) : Type 0 where
  pub network : IsNetwork t keeps starts
  pub columns : rows.columns ≡ length (program_columns t keeps starts)
  pub lines : rows.lines ≡ map (line_numbers t starts (program_columns t keeps starts)) (program_lines t starts)
  pub costs : rows.costs ≡ map (column_cost t) (program_columns t keeps starts)

-- .. by the outline of the subproblem
pub record AreOutlinedRows (t : Tables) (outline : Outline) (rows : Rows) : Type 0 where
  pub columns : rows.columns ≡ length (columns_in outline)
  pub lines : rows.lines ≡ map (line_numbers t (starts_in outline.network) (columns_in outline)) (lines_in outline)
  pub costs : rows.costs ≡ map (column_cost t) (columns_in outline)
