-- The law of arcs over islands, as a statement.
use Rattle.std.specs.Prelude.{◌≡◌, ℕ, ◌<◌, Some, List, length}
use Rattle.fleet_model.specs.declared.tables.Tables.{Tables}
use Rattle.fleet_model.specs.Counts.{Weights}
use Rattle.fleet_model.specs.Kept.{Domains}
use Rattle.fleet_model.specs.Mixed.{IsMixedPlan}
use Rattle.fleet_model.specs.Schedule.{fleets_in, stations_in}
use Rattle.fleet_model.specs.Use.{stand_of}
use Rattle.node_aggregate.specs.Nodes.{AreNodesAt, end_in}
use Rattle.node_aggregate.specs.Moments.{moment_of}

-- in each mixed plan of the subproblem an arc that has a moment carries no aircraft
abbrev pub GoneIsEmpty : Type 0
GoneIsEmpty = (t : Tables) (keeps : Domains) (scale : ℕ) (w : Weights) → IsMixedPlan t keeps scale w
    → (f s : ℕ) (starts : List ℕ) → f < fleets_in t → s < stations_in t → AreNodesAt t keeps f s starts
    → (k m : ℕ) → k < length starts → moment_of t keeps f s starts k ≡ Some m → stand_of t w f s (end_in t starts k) ≡ 0
