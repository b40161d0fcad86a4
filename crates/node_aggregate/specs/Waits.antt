-- The wait of a ground arc: the minutes from the last event of its node on, up to the next event of the fleet at the
-- station. The arc of the last node waits round the day start.
use Rattle.std.specs.Prelude.{ℕ, ◌+◌, ◌==◌, ◌&&◌, ◌||◌, nat_le, Bool, List, length, slice_index}
use Rattle.sums.specs.Below.{count_below}
use Rattle.fleet_model.specs.declared.parts.Pair.{Pair}
use Rattle.fleet_model.specs.declared.tables.Tables.{Tables}
use Rattle.fleet_model.specs.Kept.{Domains}
use Rattle.fleet_model.specs.Schedule.{departures_in, leg_of, pair_on}
use Rattle.fleet_model.specs.Times.{departure, ready_minute}
use Rattle.node_aggregate.specs.Nodes.{end_in}

-- a minute lies among these, both ends included
abbrev pub lies_between : ℕ → ℕ → ℕ → Bool
lies_between low high m = nat_le low m && nat_le m high

-- the pair departs from the station in these minutes, or its aircraft is ready there
abbrev pub happens_among : Tables → ℕ → ℕ → ℕ → Pair → Bool
happens_among t s low high p =
    (((leg_of t p.leg).from == s) && lies_between low high (departure t p)) || (((leg_of t p.leg).to == s) && lies_between low high (ready_minute t p))

-- no kept pair of the fleet departs from the station in these minutes, and none is ready there
unfoldable pub is_quiet : Tables → Domains → ℕ → ℕ → ℕ → ℕ → Bool
is_quiet t keeps f s low high = count_below (λ d. keeps (pair_on t d f) && happens_among t s low high (pair_on t d f)) (departures_in t) == 0

-- the minute lies in the node, and no event comes after it there
abbrev pub waits_in_node : Tables → Domains → ℕ → ℕ → List ℕ → ℕ → ℕ → Bool
waits_in_node t keeps f s starts k m = lies_between (slice_index starts k) (end_in t starts k) m && is_quiet t keeps f s (m + 1) (end_in t starts k)

-- the node is the last, and no event comes from the day start up to and with the minute
abbrev pub waits_round : Tables → Domains → ℕ → ℕ → List ℕ → ℕ → ℕ → Bool
waits_round t keeps f s starts k m = (k + 1 == length starts) && is_quiet t keeps f s 0 m

-- the minute lies in the wait of the node's arc
abbrev pub in_wait : Tables → Domains → ℕ → ℕ → List ℕ → ℕ → ℕ → Bool
in_wait t keeps f s starts k m = waits_in_node t keeps f s starts k m || waits_round t keeps f s starts k m
