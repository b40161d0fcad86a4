-- Points of the lines of a subproblem, and the mixed plans that they stand for.
use Rattle.std.specs.Prelude.{◌≡◌, ℕ, ◌+◌, Bool, false, ◌==◌, ◌&&◌, if◌then◌else◌, List, length, slice_index_or}
use Rattle.sums.specs.Below.{count_below, sum_below}
use Rattle.fleet_model.specs.declared.parts.Pair.{Pair}
use Rattle.fleet_model.specs.declared.tables.Tables.{Tables}
use Rattle.fleet_model.specs.Counts.{Weights}
use Rattle.fleet_model.specs.Kept.{Domains, pairs_kept}
use Rattle.fleet_model.specs.Mixed.{IsMixedPlan, mixed_cost}
use Rattle.fleet_model.specs.Schedule.{IsPair, fleets_in, legs_in, stations_in}
use Rattle.row_store.specs.Problem.{MeetsRows, point_cost}
use Rattle.row_store.specs.declared.problem.Rows.{Rows}
use Rattle.lp_rows.specs.declared.kinds.Column.{Column}
use Rattle.lp_rows.specs.declared.kinds.Column.TheVariants.{Flight, Ground, Room, Slack}
use Rattle.lp_rows.specs.Entries.{same_node, same_park}
use Rattle.lp_rows.specs.Layout.{Starts, arc_stays, node_of_place, parking_days, program_columns}
use Rattle.lp_rows.specs.Program.{AreRows}

abbrev pub same_column : Column → Column → Bool
same_column (Flight p) (Flight q) = (p.leg == q.leg) && (p.choice == q.choice)
same_column (Ground a) (Ground b) = same_node a b
same_column (Slack f) (Slack g) = f == g
same_column (Room p) (Room q) = same_park p q
same_column a b = false

-- the column at a place
abbrev pub column_at : List Column → ℕ → Column
column_at columns c = slice_index_or columns c (Slack 0)

-- what a point gives to a column: the number at its place, and 0 where it has none
abbrev pub value_of : List Column → (ℕ → ℕ) → Column → ℕ
value_of columns x column = sum_below (λ c. if same_column column (column_at columns c) then x c else 0) (length columns)

-- the pair part of a point
abbrev pub pair_part : List Column → (ℕ → ℕ) → Weights
pair_part columns x p = value_of columns x (Flight p)

-- the pair part of each point is a mixed plan of its scale
abbrev pub PointsArePlans : Type 0
PointsArePlans = (t : Tables) (keeps : Domains) (starts : Starts) (rows : Rows) (scale : ℕ) (x : ℕ → ℕ) → AreRows t keeps starts rows
    → MeetsRows rows scale x → IsMixedPlan t keeps scale (pair_part (program_columns t keeps starts) x)

-- a point whose pair part is a mixed plan
pub record IsPointOf (t : Tables) (columns : List Column) (rows : Rows) (scale : ℕ) (w : Weights) (x : ℕ → ℕ) : Type 0 where
  pub meets : MeetsRows rows scale x
  pub pairs : (p : Pair) → IsPair t p → pair_part columns x p ≡ w p

-- each mixed plan is the pair part of a point
abbrev pub PlansArePoints : Type 0
PlansArePoints = (t : Tables) (keeps : Domains) (starts : Starts) (rows : Rows) (scale : ℕ) (w : Weights) → AreRows t keeps starts rows
    → IsMixedPlan t keeps scale w → (x : ℕ → ℕ) × IsPointOf t (program_columns t keeps starts) rows scale w x

-- a point costs what its pair part does
abbrev pub PointsCostAsPlans : Type 0
PointsCostAsPlans = (t : Tables) (keeps : Domains) (starts : Starts) (rows : Rows) (x : ℕ → ℕ) → AreRows t keeps starts rows
    → point_cost rows x ≡ mixed_cost t (pair_part (program_columns t keeps starts) x)

-- how many nodes there are
abbrev pub node_count : Tables → Starts → ℕ
node_count t starts = sum_below (λ f. sum_below (λ s. length (starts f s)) (stations_in t)) (fleets_in t)

-- how many of their arcs stay
abbrev pub arcs_at : Tables → Domains → Starts → ℕ → ℕ → ℕ
arcs_at t keeps starts f s = count_below (λ k. arc_stays t keeps starts (node_of_place f s k)) (length (starts f s))

abbrev pub arcs_in : Tables → Domains → Starts → ℕ
arcs_in t keeps starts = sum_below (λ f. sum_below (arcs_at t keeps starts f) (stations_in t)) (fleets_in t)

-- how many days of stations have a limit
abbrev pub park_count : Tables → ℕ
park_count t = sum_below (parking_days t) (stations_in t)

-- how many lines have a price: the balance lines, the count lines and the parking lines
abbrev pub priced_count : Tables → Starts → ℕ
priced_count t starts = node_count t starts + (fleets_in t + park_count t)

-- as many columns and lines as there are of each kind
pub record AreCounted (t : Tables) (keeps : Domains) (starts : Starts) (rows : Rows) : Type 0 where
  pub columns : rows.columns ≡ pairs_kept t keeps + arcs_in t keeps starts + fleets_in t + park_count t
  pub lines : length rows.lines ≡ legs_in t + node_count t starts + fleets_in t + park_count t

abbrev pub RowsAreCounted : Type 0
RowsAreCounted = (t : Tables) (keeps : Domains) (starts : Starts) (rows : Rows) → AreRows t keeps starts rows → AreCounted t keeps starts rows

-- The lines of a subproblem over its network, counted, and what their points are: the mixed plans, both ways, at the
-- same cost.
pub record AreLinesOf (t : Tables) (keeps : Domains) (rows : Rows) : Type 0 where
  pub starts : Starts
  pub lines : AreRows t keeps starts rows
  pub counted : AreCounted t keeps starts rows
  pub points_are_plans : (scale : ℕ) (x : ℕ → ℕ) → MeetsRows rows scale x → IsMixedPlan t keeps scale (pair_part (program_columns t keeps starts) x)
  pub plans_are_points : (scale : ℕ) (w : Weights) → IsMixedPlan t keeps scale w → (x : ℕ → ℕ) × IsPointOf t (program_columns t keeps starts) rows scale w x
  pub costs_are_same : (x : ℕ → ℕ) → point_cost rows x ≡ mixed_cost t (pair_part (program_columns t keeps starts) x)
