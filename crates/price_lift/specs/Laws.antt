-- The law of runs over the lines of a subproblem.
use Rattle.std.specs.Prelude.{ℕ, List}
use Rattle.frac_row.specs.declared.row.FracRow.{FracRow}
use Rattle.fleet_model.specs.Kept.{Domains}
use Rattle.fleet_model.specs.declared.tables.Tables.{Tables}
use Rattle.simplex_frac.specs.declared.turn.Turn.TheVariants as turns
use Rattle.price_lift.specs.Ends.{Ends}

-- no table of the run is a ray: along it all pairs would weigh nothing and cost less than that
abbrev pub NoRays : Type 0
NoRays = (t : Tables) (keeps : Domains) (table : List FracRow) (basis : List ℕ) (column : ℕ) → ¬ (Ends t keeps (turns.Ray column) table basis)
