-- Where columns and lines stand, by their kinds.
use Rattle.std.specs.Prelude.{◌≡◌, ℕ, ◌+◌, ◌<◌, if◌then◌else◌, List, ◌++◌, length, map, slice_index_or, Option, Some, None}
use Rattle.sums.specs.Below.{count_below}
use Rattle.sums.specs.Places.{list_below}
use Rattle.fleet_model.specs.declared.parts.Pair.{Pair}
use Rattle.fleet_model.specs.declared.tables.Tables.{Tables}
use Rattle.fleet_model.specs.Kept.{Domains}
use Rattle.fleet_model.specs.Schedule.{fleets_in, leg_on, legs_in}
use Rattle.lp_rows.specs.declared.kinds.Node.{Node}
use Rattle.lp_rows.specs.declared.kinds.Park.{Park}
use Rattle.lp_rows.specs.declared.kinds.Column.{Column}
use Rattle.lp_rows.specs.declared.kinds.Column.TheVariants.{Flight, Ground, Room, Slack}
use Rattle.lp_rows.specs.declared.kinds.Line.{Line}
use Rattle.lp_rows.specs.declared.kinds.Line.TheVariants.{Cover, Balance, Count, Parking}
use Rattle.lp_rows.specs.declared.outline.Outline.{Outline}
use Rattle.lp_rows.specs.Layout.{AreByStation, IsNetwork, all_kept, all_nodes, all_parks, moment_at, node_of_place, park_at, starts_in}
use Rattle.lp_rows.specs.Staying.{stays_at}

-- an outline has the nodes of its network, and the legs, fleets and limits of the tables
pub record IsOutlineOver (t : Tables) (outline : Outline) : Type 0 where
  pub shape : AreByStation t outline.network
  pub nodes : outline.nodes ≡ all_nodes t (starts_in outline.network)
  pub legs : outline.legs ≡ legs_in t
  pub fleets : outline.fleets ≡ fleets_in t
  pub parks : outline.parks ≡ all_parks t

-- the outline of a subproblem: its network is that of the kept pairs, and each arc has its moment there
pub record IsOutline (t : Tables) (keeps : Domains) (outline : Outline) : Type 0 where
  pub over : IsOutlineOver t outline
  pub network : IsNetwork t keeps (starts_in outline.network)
  pub pairs : outline.pairs ≡ all_kept t keeps
  pub moments : outline.moments ≡ map (moment_at t keeps (starts_in outline.network)) outline.nodes

-- pairs, nodes with their arcs, days with a limit and the moments of arcs, by their numbers
abbrev pub outline_pair : Outline → ℕ → Pair
outline_pair o number = slice_index_or o.pairs number (leg_on 0 0)

abbrev pub node_in : Outline → ℕ → Node
node_in o number = slice_index_or o.nodes number (node_of_place 0 0 0)

abbrev pub arc_in : Outline → ℕ → Column
arc_in o number = Ground (node_in o number)

abbrev pub park_in : Outline → ℕ → Park
park_in o number = slice_index_or o.parks number (park_at 0 0)

abbrev pub moment_in : Outline → ℕ → Option ℕ
moment_in o number = slice_index_or o.moments number None

-- its columns, and its lines
abbrev pub columns_in : Outline → List Column
columns_in o = map Flight o.pairs ++ map (arc_in o) o.arcs ++ list_below Slack o.fleets ++ map Room o.parks

abbrev pub lines_in : Outline → List Line
lines_in o = list_below Cover o.legs ++ map Balance o.nodes ++ list_below Count o.fleets ++ map Parking o.parks

-- where the columns stand: the pairs, by number; the arcs that stay, by the numbers of their nodes; the slacks, by fleet;
-- the rooms, by the numbers of their days
abbrev pub flight_column : Outline → ℕ → ℕ
flight_column o number = number

abbrev pub ground_column : Outline → ℕ → Option ℕ
ground_column o number = if stays_at o.moments number then Some (length o.pairs + count_below (stays_at o.moments) number) else None

abbrev pub slack_column : Outline → ℕ → ℕ
slack_column o f = length o.pairs + length o.arcs + f

abbrev pub room_column : Outline → ℕ → ℕ
room_column o number = length o.pairs + length o.arcs + o.fleets + number

-- where the lines stand behind the cover lines, which are by leg: the balance lines, by the numbers of their nodes; the count
-- lines, by fleet; the parking lines, by the numbers of their days
abbrev pub balance_line : Outline → ℕ → ℕ
balance_line o number = o.legs + number

abbrev pub count_line : Outline → ℕ → ℕ
count_line o f = o.legs + length o.nodes + f

abbrev pub parking_line : Outline → ℕ → ℕ
parking_line o number = o.legs + length o.nodes + o.fleets + number

-- the first line with a price
abbrev pub first_priced_line : Outline → ℕ
first_priced_line o = o.legs

-- how many columns there are
abbrev pub column_count : Outline → ℕ
column_count o = length o.pairs + length o.arcs + o.fleets + length o.parks

-- an entry stands at a place of a list
pub record StandsAt {X : Type 0} (list : List X) (place : ℕ) (entry : X) : Type 0 where
  pub within : place < length list
  pub there : (default : X) → slice_index_or list place default ≡ entry
