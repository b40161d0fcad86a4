-- What a line has in a column, by their kinds.
use Rattle.std.specs.Prelude.{ℕ, ◌+◌, ◌<◌, ◌≤◌, Bool, ◌==◌, ◌&&◌, nat_lt, nat_le, if◌then◌else◌, List, length, slice_index, unwrap_or, ℤ, pos, ◌-ℤ◌}
use Rattle.fleet_model.specs.declared.parts.Pair.{Pair}
use Rattle.fleet_model.specs.declared.tables.Tables.{Tables}
use Rattle.fleet_model.specs.Legal.{cost_of}
use Rattle.fleet_model.specs.Schedule.{IsPair, day_end, fleet_by, fleet_of, fleets_in, leg_of, legs_in, parking_limit, stations_in}
use Rattle.fleet_model.specs.Times.{departure, laps_of, ready_minute}
use Rattle.node_aggregate.specs.Nodes.{end_in}
use Rattle.lp_rows.specs.declared.kinds.Node.{Node}
use Rattle.lp_rows.specs.declared.kinds.Park.{Park}
use Rattle.lp_rows.specs.declared.kinds.Column.{Column}
use Rattle.lp_rows.specs.declared.kinds.Column.TheVariants.{Flight, Ground, Room, Slack}
use Rattle.lp_rows.specs.declared.kinds.Line.{Line}
use Rattle.lp_rows.specs.declared.kinds.Line.TheVariants.{Cover, Balance, Count, Parking}
use Rattle.lp_rows.specs.Layout.{Starts, parking_days}

-- a node of the network
pub record IsNode (t : Tables) (starts : Starts) (n : Node) : Type 0 where
  pub fleet : n.fleet < fleets_in t
  pub station : n.station < stations_in t
  pub place : n.place < length (starts n.fleet n.station)

-- a day of a station with a limit
pub record IsPark (t : Tables) (p : Park) : Type 0 where
  pub station : p.station < stations_in t
  pub some : 0 < p.day
  pub day : p.day ≤ parking_days t p.station

-- a column of the tables and their network
abbrev pub IsColumn : Tables → Starts → Column → Type 0
IsColumn t starts (Flight p) = IsPair t p
IsColumn t starts (Ground a) = IsNode t starts a
IsColumn t starts (Slack f) = f < fleets_in t
IsColumn t starts (Room p) = IsPark t p

-- a line of the tables and their network
abbrev pub IsLine : Tables → Starts → Line → Type 0
IsLine t starts (Cover l) = l < legs_in t
IsLine t starts (Balance n) = IsNode t starts n
IsLine t starts (Count f) = f < fleets_in t
IsLine t starts (Parking p) = IsPark t p

-- 1 where a test passes, else 0
abbrev pub one_if : Bool → ℤ
one_if b = if b then pos 1 else pos 0

-- a minute lies in a node
abbrev pub is_in_node : Tables → List ℕ → ℕ → ℕ → Bool
is_in_node t starts place minute = nat_le (slice_index starts place) minute && nat_le minute (end_in t starts place)

-- a pair departs in a node
abbrev pub leaves_node : Tables → Starts → Node → Pair → Bool
leaves_node t starts n p = (n.fleet == fleet_by t p) && (((leg_of t p.leg).from == n.station) && is_in_node t (starts n.fleet n.station) n.place (departure t p))

-- the aircraft of a pair is ready in a node
abbrev pub comes_to_node : Tables → Starts → Node → Pair → Bool
comes_to_node t starts n p = (n.fleet == fleet_by t p) && (((leg_of t p.leg).to == n.station) && is_in_node t (starts n.fleet n.station) n.place (ready_minute t p))

abbrev pub same_node : Node → Node → Bool
same_node n a = (n.fleet == a.fleet) && ((n.station == a.station) && (n.place == a.place))

abbrev pub same_park : Park → Park → Bool
same_park p q = (p.station == q.station) && (p.day == q.day)

-- of so many nodes the one after a node: after the last comes the first
abbrev pub place_after : ℕ → ℕ → ℕ
place_after nodes place = if nat_lt (place + 1) nodes then place + 1 else 0

-- the arc from a node leads to this one
abbrev pub gets_arc : Starts → Node → Node → Bool
gets_arc starts n a = (n.fleet == a.fleet) && ((n.station == a.station) && (n.place == place_after (length (starts n.fleet n.station)) a.place))

-- the arc from a node passes the start of the period: the node is the fleet's last at the station
abbrev pub passes_start : Starts → ℕ → Node → Bool
passes_start starts f a = (f == a.fleet) && (length (starts f a.station) == a.place + 1)

-- the arc from a node passes the end of a day at a station: the node ends with the day
abbrev pub passes_day_end : Tables → Starts → Park → Node → Bool
passes_day_end t starts p a = (p.station == a.station) && (end_in t (starts a.fleet a.station) a.place == day_end p.day)

abbrev pub cover_entry : ℕ → Column → ℤ
cover_entry l (Flight p) = one_if (l == p.leg)
cover_entry l (Ground a) = pos 0
cover_entry l (Slack f) = pos 0
cover_entry l (Room p) = pos 0

-- what comes to a node counts 1, and what leaves it -1
abbrev pub balance_entry : Tables → Starts → Node → Column → ℤ
balance_entry t starts n (Flight p) = one_if (comes_to_node t starts n p) -ℤ one_if (leaves_node t starts n p)
balance_entry t starts n (Ground a) = one_if (gets_arc starts n a) -ℤ one_if (same_node n a)
balance_entry t starts n (Slack f) = pos 0
balance_entry t starts n (Room p) = pos 0

-- the aircraft aloft and on the ground at the start of the period, and those that are not used
abbrev pub count_entry : Tables → Starts → ℕ → Column → ℤ
count_entry t starts f (Flight p) = if f == fleet_by t p then pos (laps_of t p) else pos 0
count_entry t starts f (Ground a) = one_if (passes_start starts f a)
count_entry t starts f (Slack g) = one_if (f == g)
count_entry t starts f (Room p) = pos 0

-- the aircraft of all fleets on the ground at the end of a day, and how many more may be
abbrev pub parking_entry : Tables → Starts → Park → Column → ℤ
parking_entry t starts p (Flight q) = pos 0
parking_entry t starts p (Ground a) = one_if (passes_day_end t starts p a)
parking_entry t starts p (Slack f) = pos 0
parking_entry t starts p (Room q) = one_if (same_park p q)

-- the number of a line in a column
abbrev pub entry_of : Tables → Starts → Line → Column → ℤ
entry_of t starts (Cover l) column = cover_entry l column
entry_of t starts (Balance n) column = balance_entry t starts n column
entry_of t starts (Count f) column = count_entry t starts f column
entry_of t starts (Parking p) column = parking_entry t starts p column

-- what a line is to come to
abbrev pub right_side_of : Tables → Line → ℤ
right_side_of t (Cover l) = pos 1
right_side_of t (Balance n) = pos 0
right_side_of t (Count f) = pos (fleet_of t f).aircraft
right_side_of t (Parking p) = pos (parking_limit t p.station)

-- what a column costs: the pair's cost, and 0 on the ground
abbrev pub column_cost : Tables → Column → ℤ
column_cost t (Flight p) = unwrap_or (cost_of t p) (pos 0)
column_cost t (Ground a) = pos 0
column_cost t (Slack f) = pos 0
column_cost t (Room p) = pos 0
