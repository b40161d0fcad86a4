-- The rises of prices over the ground arcs that went: what they are, by the prices of the nodes.
use Rattle.std.specs.Prelude.{◌≡◌, ◌≢◌, ℕ, ◌+◌, ◌<◌, ◌≤◌, nat_le, nat_lt, Bool, true, false, if◌then◌else◌, List, [], ◌∷◌, length, slice_index, ℤ, pos, int_lt, ◌-ℤ◌, ◌<ℤ◌, ◌≤ℤ◌, Option, Some, None, unwrap_or}
use Rattle.fleet_model.specs.Kept.{Domains}
use Rattle.fleet_model.specs.Schedule.{departures_in, fleets_in, leg_at, leg_of, pair_on, period_of, stations_in}
use Rattle.fleet_model.specs.Times.{departure, ready_minute}
use Rattle.fleet_model.specs.declared.tables.Tables.{Tables}
use Rattle.node_aggregate.specs.Nodes.{AreNodesAt, days_at, end_in}
use Rattle.dual_bound.specs.Prices.{price_of, rent_of}
use Rattle.dual_bound.specs.declared.prices.Prices.{Prices}
use Rattle.island_prices.specs.Rises.{rise_in}
use Rattle.island_prices.specs.declared.rises.Rise.{Rise}
use Rattle.island_prices.specs.declared.rises.Shift.{Shift}
use Rattle.island_prices.specs.declared.rises.Shift.TheVariants.{Lowered, Raised}
use Rattle.island_prices.specs.declared.rises.TheConstants.{MAX_RISES}

-- the starts of nodes by fleet and station, and the moment of the arc of each node, where that went
abbrev pub NodeStarts : Type 0
NodeStarts = ℕ → ℕ → List ℕ

abbrev pub ArcMoments : Type 0
ArcMoments = ℕ → ℕ → ℕ → Option ℕ

-- by how much the price rises over the arc of a node: to the next node, or from the last one to the first beyond the rent
abbrev pub rise_over : Prices → List ℕ → ℕ → ℕ → ℕ → ℤ
rise_over prices starts f s k =
    if nat_lt (k + 1) (length starts) then price_of prices f s (slice_index starts (k + 1)) -ℤ price_of prices f s (slice_index starts k)
    else price_of prices f s 0 -ℤ price_of prices f s (slice_index starts k) -ℤ rent_of prices f

-- the minutes that take another price: those of the node behind the moment, or where the moment comes behind the day
-- start those up to it
abbrev pub shift_over : Tables → List ℕ → ℕ → ℕ → Shift
shift_over t starts k m = if nat_le (slice_index starts k) m then Raised (end_in t starts k) else Lowered

-- a rise over the arc of a node that went
pub record IsOfArc (t : Tables) (prices : Prices) (starts : NodeStarts) (moment : ArcMoments) (rise : Rise) : Type 0 where
  pub fleet : rise.fleet < fleets_in t
  pub station : rise.station < stations_in t
  pub place : ℕ
  pub within : place < length (starts rise.fleet rise.station)
  pub went : moment rise.fleet rise.station place ≡ Some rise.moment
  pub shift : rise.shift ≡ shift_over t (starts rise.fleet rise.station) place rise.moment
  pub amount : rise.amount ≡ rise_over prices (starts rise.fleet rise.station) rise.fleet rise.station place
  pub some : pos 0 <ℤ rise.amount

-- the place of the rise over an arc among rises
pub record HasRise (t : Tables) (prices : Prices) (starts : List ℕ) (f s k m : ℕ) (rises : List Rise) : Type 0 where
  pub at : ℕ
  pub within : at < length rises
  pub fleet : (rise_in rises at).fleet ≡ f
  pub station : (rise_in rises at).station ≡ s
  pub shift : (rise_in rises at).shift ≡ shift_over t starts k m
  pub amount : (rise_in rises at).amount ≡ rise_over prices starts f s k

-- all rises over arcs that went, each once
pub record AreArcRises (t : Tables) (prices : Prices) (starts : NodeStarts) (moment : ArcMoments) (rises : List Rise) : Type 0 where
  pub few : length rises ≤ MAX_RISES
  pub each : (i : ℕ) → i < length rises → IsOfArc t prices starts moment (rise_in rises i)
  pub all : (f s k m : ℕ) → f < fleets_in t → s < stations_in t → k < length (starts f s) → moment f s k ≡ Some m → pos 0 <ℤ rise_over prices (starts f s) f s k
      → HasRise t prices (starts f s) f s k m rises
  pub once : (i j : ℕ) (before : i < length rises) (below : j < length rises) → i < j → (rise_in rises i).fleet ≡ (rise_in rises j).fleet → (rise_in rises i).station ≡ (rise_in rises j).station
      → (each i before).place ≢ (each j below).place

-- no kept pair of the fleet departs from the station in these minutes, and none is ready there
pub record IsQuiet (t : Tables) (keeps : Domains) (f s low high : ℕ) : Type 0 where
  pub departs : (d : ℕ) → d < departures_in t → keeps (pair_on t d f) ≡ true → (leg_of t (leg_at t d)).from ≡ s → low ≤ departure t (pair_on t d f) → departure t (pair_on t d f) ≤ high → ⊥
  pub lands : (d : ℕ) → d < departures_in t → keeps (pair_on t d f) ≡ true → (leg_of t (leg_at t d)).to ≡ s → low ≤ ready_minute t (pair_on t d f) → ready_minute t (pair_on t d f) ≤ high → ⊥

-- moments of arcs between several nodes, which one day alone cuts: each lies in its node with no event behind it there, or the
-- node is the last and it lies behind the day start with no event up to it
pub record AreMoments (t : Tables) (keeps : Domains) (starts : NodeStarts) (moment : ArcMoments) : Type 0 where
  pub one_day : (f s k m : ℕ) → f < fleets_in t → s < stations_in t → k < length (starts f s) → moment f s k ≡ Some m → days_at t s ≡ 1
  pub in_period : (f s k m : ℕ) → f < fleets_in t → s < stations_in t → k < length (starts f s) → moment f s k ≡ Some m → m < period_of t
  pub in_node : (f s k m : ℕ) → f < fleets_in t → s < stations_in t → k < length (starts f s) → 1 < length (starts f s) → moment f s k ≡ Some m → slice_index (starts f s) k ≤ m
      → (m ≤ end_in t (starts f s) k) × IsQuiet t keeps f s (m + 1) (end_in t (starts f s) k)
  pub round : (f s k m : ℕ) → f < fleets_in t → s < stations_in t → k < length (starts f s) → 1 < length (starts f s) → moment f s k ≡ Some m → m < slice_index (starts f s) k
      → (k + 1 ≡ length (starts f s)) × IsQuiet t keeps f s 0 m

-- one price through each node, and 0 where a fleet has no node at a station
pub record AreByNodes (t : Tables) (prices : Prices) (starts : NodeStarts) : Type 0 where
  pub through : (f s k m : ℕ) → f < fleets_in t → s < stations_in t → k < length (starts f s) → slice_index (starts f s) k ≤ m → m ≤ end_in t (starts f s) k
      → price_of prices f s m ≡ price_of prices f s (slice_index (starts f s) k)
  pub nowhere : (f s m : ℕ) → f < fleets_in t → s < stations_in t → length (starts f s) ≡ 0 → price_of prices f s m ≡ pos 0

-- over arcs that stay no price rises
pub record DoStayLow (t : Tables) (prices : Prices) (starts : NodeStarts) (moment : ArcMoments) : Type 0 where
  pub each : (f s k : ℕ) → f < fleets_in t → s < stations_in t → k < length (starts f s) → moment f s k ≡ None → rise_over prices (starts f s) f s k ≤ℤ pos 0

-- the nodes of each fleet at each station
pub record AreAllNodes (t : Tables) (keeps : Domains) (starts : NodeStarts) : Type 0 where
  pub each : (f s : ℕ) → f < fleets_in t → s < stations_in t → AreNodesAt t keeps f s (starts f s)

-- the rise over the arc of a node, where the arc went and the price rises
abbrev pub goes_up : Prices → List ℕ → ℕ → ℕ → ℕ → Option ℕ → Bool
goes_up prices starts f s k None = false
goes_up prices starts f s k (Some m) = int_lt (pos 0) (rise_over prices starts f s k)

abbrev pub arc_rise : Tables → Prices → List ℕ → ℕ → ℕ → ℕ → ℕ → Rise
arc_rise t prices starts f s k m = record { fleet = f; station = s; moment = m; shift = shift_over t starts k m; amount = rise_over prices starts f s k }

abbrev pub rise_where : Tables → Prices → List ℕ → ℕ → ℕ → ℕ → Option ℕ → List Rise
rise_where t prices starts f s k moment = if goes_up prices starts f s k moment then arc_rise t prices starts f s k (unwrap_or moment 0) ∷ [] else []

-- an arc of the tables: from a node at a place among starts, all of them minutes of the period
pub record IsArc (t : Tables) (starts : List ℕ) (f s k : ℕ) : Type 0 where
  pub fleet : f < fleets_in t
  pub station : s < stations_in t
  pub place : k < length starts
  pub early : (j : ℕ) → j < length starts → slice_index starts j < period_of t
