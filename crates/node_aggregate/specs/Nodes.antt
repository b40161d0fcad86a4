-- Nodes: the minutes of a period, cut where the aircraft on the ground at a station have to be counted, and where a day starts
-- at a station with a limit.
use Rattle.std.specs.Prelude.{◌≡◌, ◌≢◌, ℕ, ◌+◌, ◌-◌, ◌<◌, ◌≤◌, ◌⊎◌, Bool, true, false, nat_lt, nat_le, if◌then◌else◌, List, [], Option, Some, None, is_some, length, slice_index, Contains}
use Rattle.fleet_model.specs.Period.{minutes_of}
use Rattle.fleet_model.specs.declared.tables.Tables.{Tables}
use Rattle.fleet_model.specs.Kept.{Domains}
use Rattle.fleet_model.specs.Schedule.{days_in, last_of, parking_of}
use Rattle.node_aggregate.specs.declared.timeline_net.timeline.Event.{Event}
use Rattle.node_aggregate.specs.timeline_net.Events.{AreEvents}

-- in this minute an aircraft is ready, or one departs
pub record HappensAt (events : List Event) (ready : Bool) (minute : ℕ) : Type 0 where
  pub by : ℕ
  pub among : Contains events (record { minute = minute; ready = ready; departure = by })

-- the first minute from one on in which it happens
pub record IsFirstMinute (events : List Event) (ready : Bool) (from minute : ℕ) : Type 0 where
  pub no_earlier : from ≤ minute
  pub happens : HappensAt events ready minute
  pub first : (m : ℕ) → from ≤ m → HappensAt events ready m → minute ≤ m

-- the sooner of a minute, where there is one, and another
abbrev pub sooner : Option ℕ → ℕ → ℕ
sooner (Some minute) other = if nat_le minute other then minute else other
sooner None other = other

-- in this minute an aircraft is ready, later than a departure at or after the start of a node
pub record MayStart (events : List Event) (start minute : ℕ) : Type 0 where
  pub departure : ℕ
  pub since : start ≤ departure
  pub departs : HappensAt events false departure
  pub later : departure < minute
  pub ready : HappensAt events true minute

-- with this minute another of the first days starts, later than a node
pub record IsDayStart (days start minute : ℕ) : Type 0 where
  pub day : ℕ
  pub within : day < days
  pub at : minute ≡ minutes_of day
  pub later : start < minute

-- the next node may start with this minute
abbrev pub MayFollow : List Event → ℕ → ℕ → ℕ → Type 0
MayFollow events days start minute = MayStart events start minute ⊎ IsDayStart days start minute

-- the first of the minutes of which something is said
pub record IsFirst (said : ℕ → Type 0) (minute : ℕ) : Type 0 where
  pub is : said minute
  pub first : (m : ℕ) → said m → minute ≤ m

-- the start of the node after one: the first minute with which it may start
abbrev pub IsNextStart : List Event → ℕ → ℕ → ℕ → Type 0
IsNextStart events days start minute = IsFirst (MayFollow events days start) minute

-- the starts of the nodes of events, where so many days cut them
pub record AreNodes (events : List Event) (days : ℕ) (starts : List ℕ) : Type 0 where
  pub none : events ≡ [] → starts ≡ []
  pub some : events ≢ [] → 0 < length starts
  pub first : slice_index starts 0 ≡ 0
  pub next : (k : ℕ) → k + 1 < length starts → IsNextStart events days (slice_index starts k) (slice_index starts (k + 1))
  pub last : 0 < length starts → (m : ℕ) → ¬ (MayFollow events days (slice_index starts (length starts - 1)) m)

-- how many days cut the nodes of a station: all of the period where only so many aircraft may stand at a day's end
abbrev pub days_at : Tables → ℕ → ℕ
days_at t s = if is_some (parking_of t s) then days_in t else 1

-- the starts of the nodes of a fleet at a station
pub record AreNodesAt (t : Tables) (keeps : Domains) (f s : ℕ) (starts : List ℕ) : Type 0 where
  pub events : List Event
  pub happen : AreEvents t keeps f s events
  pub nodes : AreNodes events (days_at t s) starts

-- one start or more, of which the first is 0 and each is later than those before
pub record RiseFromZero (starts : List ℕ) : Type 0 where
  pub some : 0 < length starts
  pub first : slice_index starts 0 ≡ 0
  pub rise : (i j : ℕ) → i < j → j < length starts → slice_index starts i < slice_index starts j

-- the place of the last start that is at most the minute
pub record IsNodeOf (starts : List ℕ) (minute place : ℕ) : Type 0 where
  pub within : place < length starts
  pub started : slice_index starts place ≤ minute
  pub last : (k : ℕ) → place < k → k < length starts → minute < slice_index starts k

-- the last minute of a node: the one before the next start, and of the last node the last of the period
abbrev pub end_in : Tables → List ℕ → ℕ → ℕ
end_in t starts k = if nat_lt (k + 1) (length starts) then slice_index starts (k + 1) - 1 else last_of t
