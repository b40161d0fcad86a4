-- The first entry of a station, from a minute on, in a list of idle minutes.
use Rattle.std.specs.Prelude.{◌≡◌, ℕ, ◌<◌, ◌≤◌, ◌==◌, ◌&&◌, ◌||◌, nat_lt, Bool, true, false, IsTrue, List, length, slice_index_or, Contains}
use Rattle.node_aggregate.specs.declared.island_cut.idle_minutes.Idle.{Idle}
use Rattle.node_aggregate.specs.island_cut.Islands.{idle_at}

-- an entry comes before a minute of a station
abbrev pub idle_before : Idle → ℕ → ℕ → Bool
idle_before entry s m = nat_lt entry.station s || ((entry.station == s) && nat_lt entry.minute m)

-- each entry comes before those after it
pub record IdlesRise (idles : List Idle) : Type 0 where
  pub each : (i j : ℕ) → i < j → j < length idles
      → IsTrue (idle_before (slice_index_or idles i (idle_at 0 0)) (slice_index_or idles j (idle_at 0 0)).station (slice_index_or idles j (idle_at 0 0)).minute)

-- the first minute of a station among the entries, from one minute on
pub record IsFirstIdle (idles : List Idle) (s from minute : ℕ) : Type 0 where
  pub no_earlier : from ≤ minute
  pub among : Contains idles (idle_at s minute)
  pub first : (m : ℕ) → from ≤ m → Contains idles (idle_at s m) → minute ≤ m

-- so many entries come before a minute of a station
pub record IsPartingIdles (idles : List Idle) (s m place : ℕ) : Type 0 where
  pub within : place ≤ length idles
  pub before : (k : ℕ) → k < place → idle_before (slice_index_or idles k (idle_at 0 0)) s m ≡ true
  pub after : (k : ℕ) → place ≤ k → k < length idles → idle_before (slice_index_or idles k (idle_at 0 0)) s m ≡ false
