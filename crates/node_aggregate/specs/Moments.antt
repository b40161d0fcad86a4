-- The moment of a ground arc: the first idle minute of its wait. There the station is empty, so the arc carries no aircraft.
use Rattle.std.specs.Prelude.{ℕ, ◌&&◌, Bool, if◌then◌else◌, Option, Some, None, List, length}
use Rattle.sums.specs.Places.{first_below, list_below, or_else}
use Rattle.fleet_model.specs.declared.tables.Tables.{Tables}
use Rattle.fleet_model.specs.Kept.{Domains}
use Rattle.fleet_model.specs.Schedule.{period_of}
use Rattle.node_aggregate.specs.KeptIdles.{idle_in}
use Rattle.node_aggregate.specs.Waits.{waits_in_node, waits_round}

-- the first minute of the period that passes
abbrev pub first_minute : ℕ → (ℕ → Bool) → Option ℕ
first_minute period p = first_below (λ m. if p m then Some m else None) period

-- the first idle minute in the node's part of the wait, and in the part from the day start on
unfoldable pub moment_in_node : Tables → Domains → ℕ → ℕ → List ℕ → ℕ → Option ℕ
moment_in_node t keeps f s starts k = first_minute (period_of t) (λ m. waits_in_node t keeps f s starts k m && idle_in t keeps s m)

unfoldable pub moment_round : Tables → Domains → ℕ → ℕ → List ℕ → ℕ → Option ℕ
moment_round t keeps f s starts k = first_minute (period_of t) (λ m. waits_round t keeps f s starts k m && idle_in t keeps s m)

-- the moment of the node's arc: the first idle minute of its wait; where there is none, the arc stays
unfoldable pub moment_of : Tables → Domains → ℕ → ℕ → List ℕ → ℕ → Option ℕ
moment_of t keeps f s starts k = or_else (moment_in_node t keeps f s starts k) (moment_round t keeps f s starts k)

-- those of all nodes of a fleet at a station
abbrev pub moments_of : Tables → Domains → ℕ → ℕ → List ℕ → List (Option ℕ)
moments_of t keeps f s starts = list_below (moment_of t keeps f s starts) (length starts)
