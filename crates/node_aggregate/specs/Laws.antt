-- The laws of nodes, as statements.
use Rattle.std.specs.Prelude.{◌≡◌, ℕ, ◌<◌, false, List, length}
use Rattle.sums.specs.Below.{max_below}
use Rattle.fleet_model.specs.declared.parts.Pair.{Pair}
use Rattle.fleet_model.specs.declared.tables.Tables.{Tables}
use Rattle.fleet_model.specs.Counts.{Weights}
use Rattle.fleet_model.specs.Kept.{Domains}
use Rattle.fleet_model.specs.Schedule.{IsPair, fleets_in}
use Rattle.fleet_model.specs.Use.{excess, need_of}
use Rattle.node_aggregate.specs.declared.timeline_net.timeline.Event.{Event}
use Rattle.node_aggregate.specs.Nodes.{AreNodes, AreNodesAt, end_in}

-- pairs that aren't kept weigh 0
pub record WeighKept (t : Tables) (keeps : Domains) (w : Weights) : Type 0 where
  pub each : (p : Pair) → IsPair t p → keeps p ≡ false → w p ≡ 0

-- by how much departures pass arrivals at the end of a node
abbrev pub excess_at_end : Tables → Weights → ℕ → ℕ → List ℕ → ℕ → ℕ
excess_at_end t w f s starts k = excess t w f s (end_in t starts k)

-- need is the greatest excess at the ends of nodes, and 0 where there is no node
abbrev pub NeedIsAtNodeEnds : Type 0
NeedIsAtNodeEnds = (t : Tables) (keeps : Domains) (w : Weights) (f s : ℕ) (starts : List ℕ) → f < fleets_in t
    → WeighKept t keeps w → AreNodesAt t keeps f s starts → need_of t w f s ≡ max_below (excess_at_end t w f s starts) (length starts)

-- events have one list of nodes
abbrev pub NodesAreOne : Type 0
NodesAreOne = (events : List Event) (days : ℕ) (one other : List ℕ) → AreNodes events days one → AreNodes events days other → one ≡ other
