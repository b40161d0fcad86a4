-- What the last table of the run tells: at the best, where there is no point, and at a ray.
use Rattle.std.specs.Prelude.{ℕ, pos, ◌<◌, ◌≡◌, ◌<ℤ◌, ◌≤ℤ◌, List}
use Rattle.frac_row.specs.declared.row.FracRow.{FracRow}
use Rattle.row_store.specs.declared.problem.Rows.{Rows}
use Rattle.row_store.specs.Table.{number_at, phase_row, cost_row, right_side}
use Rattle.row_store.specs.Problem.{IsProblem, first_table, MeetsRows, point_cost}
use Rattle.simplex_frac.specs.Outcomes.{TurnsAt}
use Rattle.simplex_frac.specs.Duality.{AreRightSidesAtLeast0}
pub use Rattle.simplex_frac.specs.BasicPoints.{IsBasicPoint, MeetsAtCost}
use Rattle.simplex_frac.specs.declared.turn.Turn.{Turn}
use Rattle.simplex_frac.specs.declared.turn.Turn.TheVariants.{Best, NoPoint, Ray}

-- a problem, and what its run does after so many pivots
pub record IsTurn (rows : Rows) (made : ℕ) (table : List FracRow) (basis : List ℕ) (does : Turn) : Type 0 where
  pub problem : IsProblem rows
  pub turns : TurnsAt (first_table rows) rows.columns made table basis does

-- no real column improves: the phase row is below 0 in none, nor, where it is 0, is the cost row
pub record NoneImproves (rows : Rows) (table : List FracRow) : Type 0 where
  pub phase : (column : ℕ) → column < rows.columns → pos 0 ≤ℤ number_at table (phase_row table) column
  pub cost : (column : ℕ) → column < rows.columns → number_at table (phase_row table) column ≡ pos 0 → pos 0 ≤ℤ number_at table (cost_row table) column
  pub above : (column : ℕ) → column < rows.columns → number_at table (cost_row table) column <ℤ pos 0 → pos 0 <ℤ number_at table (phase_row table) column

-- the lines are met, and no real column improves
pub record IsBestTable (rows : Rows) (table : List FracRow) : Type 0 where
  pub none : NoneImproves rows table
  pub met : right_side table (phase_row table) ≡ pos 0

-- .. where the run ends at the best
abbrev pub BestTells : Type 0
BestTells = (rows : Rows) (made : ℕ) (table : List FracRow) (basis : List ℕ) → IsTurn rows made table basis Best → IsBestTable rows table

-- the phase row is below 0 in no real column, but at its right side
pub record IsNoPointTable (rows : Rows) (table : List FracRow) : Type 0 where
  pub phase : (column : ℕ) → column < rows.columns → pos 0 ≤ℤ number_at table (phase_row table) column
  pub unmet : right_side table (phase_row table) <ℤ pos 0

-- .. where the run ends at no point, from right sides of at least 0
abbrev pub NoPointTells : Type 0
NoPointTells = (rows : Rows) (made : ℕ) (table : List FracRow) (basis : List ℕ) → IsTurn rows made table basis NoPoint → AreRightSidesAtLeast0 rows → IsNoPointTable rows table

-- the basic point meets the lines, and costs what the right side of the cost row says with the other sign,
-- at the best, from right sides of at least 0
abbrev pub BasicPointMeets : Type 0
BasicPointMeets =
    (rows : Rows) (made : ℕ) (table : List FracRow) (basis : List ℕ) (scale : ℕ) (x : ℕ → ℕ) → IsTurn rows made table basis Best → AreRightSidesAtLeast0 rows → IsBasicPoint rows table basis scale x → MeetsAtCost rows table scale x

-- a direction in which a column rises, the lines stay met, and the cost falls
pub record IsDirection (rows : Rows) (column : ℕ) (x : ℕ → ℕ) : Type 0 where
  pub rises : 0 < x column
  pub meets : MeetsRows rows 0 x
  pub falls : point_cost rows x <ℤ pos 0

-- .. at a ray
abbrev pub RayIsDirection : Type 0
RayIsDirection = (rows : Rows) (made : ℕ) (table : List FracRow) (basis : List ℕ) (column : ℕ) → IsTurn rows made table basis (Ray column) → (x : ℕ → ℕ) × IsDirection rows column x
