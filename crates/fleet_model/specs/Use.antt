-- How many aircraft a fleet uses, and whether its legs balance.
use Rattle.std.specs.Prelude.{◌≡◌, ℕ, ◌+◌, ◌-◌, ◌*◌, ◌<◌}
use Rattle.sums.specs.Below.{sum_below, max_below}
use Rattle.fleet_model.specs.declared.tables.Tables.{Tables}
use Rattle.fleet_model.specs.Schedule.{day_end, departures_in, fleets_in, last_of, pair_on, period_of, stations_in}
use Rattle.fleet_model.specs.Times.{laps_of}
use Rattle.fleet_model.specs.Counts.{Weights, departed, arrived}

-- by how much departures from a station pass arrivals by the end of a minute
unfoldable pub excess : Tables → Weights → ℕ → ℕ → ℕ → ℕ
excess t w f s m = departed t w f s m - arrived t w f s m

-- the aircraft of a fleet that must be at a station at the day start: the greatest excess of any minute
unfoldable pub need_of : Tables → Weights → ℕ → ℕ → ℕ
need_of t w f s = max_below (excess t w f s) (period_of t)

-- the aircraft of a fleet on the ground at a station at the end of a minute
unfoldable pub stand_of : Tables → Weights → ℕ → ℕ → ℕ → ℕ
stand_of t w f s m = need_of t w f s + arrived t w f s m - departed t w f s m

-- the aircraft of all fleets on the ground at a station at the end of a day, days counted from 1
unfoldable pub parked : Tables → Weights → ℕ → ℕ → ℕ
parked t w s d = sum_below (λ f. stand_of t w f s (day_end d)) (fleets_in t)

-- what a departure adds to a fleet's laps: the period starts between it and readiness
abbrev pub laps_at : Tables → Weights → ℕ → ℕ → ℕ
laps_at t w f d = w (pair_on t d f) * laps_of t (pair_on t d f)

unfoldable pub laps_flown : Tables → Weights → ℕ → ℕ
laps_flown t w f = sum_below (laps_at t w f) (departures_in t)

-- the aircraft that a fleet uses: those on the ground at the day start, and those aloft or in their turn then
unfoldable pub used_of : Tables → Weights → ℕ → ℕ
used_of t w f = sum_below (need_of t w f) (stations_in t) + laps_flown t w f

-- at each station as many aircraft of each fleet come as leave
pub record IsBalanced (t : Tables) (w : Weights) : Type 0 where
  pub each : (f s : ℕ) → f < fleets_in t → s < stations_in t → arrived t w f s (last_of t) ≡ departed t w f s (last_of t)
