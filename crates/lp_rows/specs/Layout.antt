-- The order of columns and of lines: the one place that says where each stands.
use Rattle.std.specs.Prelude.{◌≡◌, ℕ, zero, suc, ◌+◌, ◌<◌, ◌≤◌, Bool, if◌then◌else◌, List, [], ◌∷◌, ◌++◌, filter, map, length, slice_index_or, Option, is_none, is_some}
use Rattle.sums.specs.Places.{list_below}
use Rattle.fleet_model.specs.declared.parts.Pair.{Pair}
use Rattle.fleet_model.specs.declared.tables.Tables.{Tables}
use Rattle.fleet_model.specs.Kept.{Domains}
use Rattle.fleet_model.specs.Schedule.{choices_in, days_in, fleets_in, leg_on, legs_in, parking_of, period_of, stations_in}
use Rattle.node_aggregate.specs.Nodes.{AreNodesAt}
use Rattle.node_aggregate.specs.Moments.{moment_of}
use Rattle.lp_rows.specs.declared.kinds.Node.{Node}
use Rattle.lp_rows.specs.declared.kinds.Park.{Park}
use Rattle.lp_rows.specs.declared.kinds.Column.{Column}
use Rattle.lp_rows.specs.declared.kinds.Column.TheVariants.{Flight, Ground, Room, Slack}
use Rattle.lp_rows.specs.declared.kinds.Line.{Line}
use Rattle.lp_rows.specs.declared.kinds.Line.TheVariants.{Cover, Balance, Count, Parking}

-- the starts of the nodes, by fleet and station
abbrev pub Starts : Type 0
Starts = ℕ → ℕ → List ℕ

-- those that lists of lists have
abbrev pub starts_in : List (List (List ℕ)) → Starts
starts_in lists f s = slice_index_or (slice_index_or lists f []) s []

-- the network of a subproblem: the nodes of each fleet at each station
pub record IsNetwork (t : Tables) (keeps : Domains) (starts : Starts) : Type 0 where
  pub each : (f s : ℕ) → f < fleets_in t → s < stations_in t → AreNodesAt t keeps f s (starts f s)

-- the nodes of one fleet, station by station
pub record HaveNodes (t : Tables) (keeps : Domains) (f : ℕ) (stations : List (List ℕ)) : Type 0 where
  pub all : length stations ≡ stations_in t
  pub each : (s : ℕ) → s < stations_in t → AreNodesAt t keeps f s (slice_index_or stations s [])

-- a list for each fleet, and in it one for each station, of no more starts than there are minutes
pub record AreByStation (t : Tables) (lists : List (List (List ℕ))) : Type 0 where
  pub fleets : length lists ≡ fleets_in t
  pub stations : (f : ℕ) → f < fleets_in t → length (slice_index_or lists f []) ≡ stations_in t
  pub few : (f s : ℕ) → f < fleets_in t → s < stations_in t → length (starts_in lists f s) ≤ period_of t

-- g 0, g 1, .. up to and without g n, one behind another
abbrev pub concat_below : {X : Type 0} → (ℕ → List X) → ℕ → List X
concat_below g zero = []
concat_below g (suc n) = concat_below g n ++ g n

abbrev pub node_of_place : ℕ → ℕ → ℕ → Node
node_of_place f s k = record { fleet = f; station = s; place = k }

-- the nodes of a fleet at a station
abbrev pub nodes_at : Starts → ℕ → ℕ → List Node
nodes_at starts f s = list_below (node_of_place f s) (length (starts f s))

-- the nodes of a fleet, by station
abbrev pub nodes_of_fleet : Tables → Starts → ℕ → List Node
nodes_of_fleet t starts f = concat_below (nodes_at starts f) (stations_in t)

-- all nodes, by fleet
abbrev pub all_nodes : Tables → Starts → List Node
all_nodes t starts = concat_below (nodes_of_fleet t starts) (fleets_in t)

-- the moment of the arc from a node: the first minute of its wait at which its station is idle
abbrev pub moment_at : Tables → Domains → Starts → Node → Option ℕ
moment_at t keeps starts n = moment_of t keeps n.fleet n.station (starts n.fleet n.station) n.place

-- an arc that has none stays among the columns
unfoldable pub arc_stays : Tables → Domains → Starts → Node → Bool
arc_stays t keeps starts n = is_none (moment_at t keeps starts n)

-- the nodes whose arcs stay, in the order of all nodes
abbrev pub all_arcs : Tables → Domains → Starts → List Node
all_arcs t keeps starts = filter (arc_stays t keeps starts) (all_nodes t starts)

-- the pair of a leg and a choice, where it is kept
abbrev pub pair_if_kept : Domains → ℕ → ℕ → List Pair
pair_if_kept keeps l c = if keeps (leg_on l c) then leg_on l c ∷ [] else []

-- the kept pairs of a leg, by choice
abbrev pub pairs_of_leg : Tables → Domains → ℕ → List Pair
pairs_of_leg t keeps l = concat_below (pair_if_kept keeps l) (choices_in t l)

-- all kept pairs, by leg
abbrev pub all_kept : Tables → Domains → List Pair
all_kept t keeps = concat_below (pairs_of_leg t keeps) (legs_in t)

-- how many days of a station have a limit: all, or none
abbrev pub parking_days : Tables → ℕ → ℕ
parking_days t s = if is_some (parking_of t s) then days_in t else 0

-- the days of a station by their numbers, which begin with 0
abbrev pub park_at : ℕ → ℕ → Park
park_at s k = record { station = s; day = k + 1 }

-- the days of a station that have a limit
abbrev pub parks_at : Tables → ℕ → List Park
parks_at t s = list_below (park_at s) (parking_days t s)

-- .. of all stations
abbrev pub all_parks : Tables → List Park
all_parks t = concat_below (parks_at t) (stations_in t)

-- the kept pairs, the ground arcs that stay, the slacks, the rooms
abbrev pub program_columns : Tables → Domains → Starts → List Column
program_columns t keeps starts = map Flight (all_kept t keeps) ++ map Ground (all_arcs t keeps starts) ++ list_below Slack (fleets_in t) ++ map Room (all_parks t)

-- the cover lines, the balance lines, the count lines, the parking lines
abbrev pub program_lines : Tables → Starts → List Line
program_lines t starts = list_below Cover (legs_in t) ++ map Balance (all_nodes t starts) ++ list_below Count (fleets_in t) ++ map Parking (all_parks t)

-- by their numbers: the pair of a column, the node in the order of the balance lines, the day in that of the parking lines, the
-- line
abbrev pub pair_at_column : Tables → Domains → ℕ → Pair
pair_at_column t keeps column = slice_index_or (all_kept t keeps) column (leg_on 0 0)

abbrev pub node_of_number : Tables → Starts → ℕ → Node
node_of_number t starts k = slice_index_or (all_nodes t starts) k (node_of_place 0 0 0)

abbrev pub park_of_number : Tables → ℕ → Park
park_of_number t k = slice_index_or (all_parks t) k (park_at 0 0)

abbrev pub line_at : Tables → Starts → ℕ → Line
line_at t starts line = slice_index_or (program_lines t starts) line (Cover 0)
