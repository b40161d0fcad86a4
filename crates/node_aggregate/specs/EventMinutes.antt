-- Minutes of events, and first minutes among those that pass a test.
use Rattle.std.specs.Prelude.{◌≡◌, ℕ, ◌<◌, ◌≤◌, ◌&&◌, nat_le, nat_lt, Bool, true, false, List, slice_index_or, Contains}
use Rattle.node_aggregate.specs.declared.island_cut.idle_minutes.Idle.{Idle}
use Rattle.node_aggregate.specs.island_cut.Islands.{idle_at}
use Rattle.node_aggregate.specs.declared.timeline_net.timeline.Event.{Event}

abbrev pub no_event : Event
no_event = record { minute = 0; ready = false; departure = 0 }

abbrev pub minute_at : List Event → ℕ → ℕ
minute_at events k = (slice_index_or events k no_event).minute

-- of the first n events before a minute the last one's minute, or the start where none of them is later
pub record IsLastAmong (events : List Event) (start until n last : ℕ) : Type 0 where
  pub no_earlier : start ≤ last
  pub covers : (k : ℕ) → k < n → minute_at events k < until → minute_at events k ≤ last
  pub least : (m : ℕ) → start ≤ m → ((k : ℕ) → k < n → minute_at events k < until → minute_at events k ≤ m) → last ≤ m

-- the first minute of the first n events, or the end of the period where there is none
pub record IsFirstAmong (period : ℕ) (events : List Event) (n first : ℕ) : Type 0 where
  pub within : first ≤ period
  pub covers : (k : ℕ) → k < n → first ≤ minute_at events k
  pub greatest : (m : ℕ) → m ≤ period → ((k : ℕ) → k < n → m ≤ minute_at events k) → m ≤ first

-- the later of two minutes, the second only where it is before an end
pub record IsLater (last minute until result : ℕ) : Type 0 where
  pub no_earlier : last ≤ result
  pub covers : minute < until → minute ≤ result
  pub least : (m : ℕ) → last ≤ m → (minute < until → minute ≤ m) → result ≤ m

-- the sooner of two minutes
pub record IsSooner (first minute result : ℕ) : Type 0 where
  pub no_later : result ≤ first
  pub covers : result ≤ minute
  pub greatest : (m : ℕ) → m ≤ first → m ≤ minute → m ≤ result

-- a minute from one on and before another
abbrev pub is_within : ℕ → ℕ → ℕ → Bool
is_within from until m = nat_le from m && nat_lt m until

-- the entries of a station are the minutes of the period that pass
pub record ListsAt (period : ℕ) (idle : List Idle) (s : ℕ) (test : ℕ → Bool) : Type 0 where
  pub passes : (m : ℕ) → Contains idle (idle_at s m) → test m ≡ true
  pub has : (m : ℕ) → m < period → test m ≡ true → Contains idle (idle_at s m)
