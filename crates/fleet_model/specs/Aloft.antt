-- Flights under way at a minute.
use Rattle.std.specs.Prelude.{ℕ, ◌+◌, ◌*◌, ◌&&◌, nat_lt, nat_le}
use Rattle.sums.specs.Below.{sum_below, count_below}
use Rattle.fleet_model.specs.declared.parts.Pair.{Pair}
use Rattle.fleet_model.specs.declared.tables.Tables.{Tables}
use Rattle.fleet_model.specs.Schedule.{departures_in, pair_on, period_of, stations_in}
use Rattle.fleet_model.specs.Times.{departure, busy_minutes}
use Rattle.fleet_model.specs.Counts.{Weights}
use Rattle.fleet_model.specs.Use.{stand_of}

-- how many aircraft a pair that is flown every period keeps busy at a minute: one for each k such that the
-- flight of k periods ago has left by then and isn't ready yet. k is less than the minutes from the period's
-- start to readiness, since each period has a minute.
abbrev pub aloft : Tables → Pair → ℕ → ℕ
aloft t p m = count_below (λ k. nat_le (departure t p) (m + period_of t * k) && nat_lt (m + period_of t * k) (departure t p + busy_minutes t p)) (departure t p + busy_minutes t p)

-- a fleet's flights under way at a minute
abbrev pub under_way : Tables → Weights → ℕ → ℕ → ℕ
under_way t w f m = sum_below (λ d. w (pair_on t d f) * aloft t (pair_on t d f) m) (departures_in t)

-- a fleet's aircraft on the ground at all stations at the end of a minute
abbrev pub on_the_ground : Tables → Weights → ℕ → ℕ → ℕ
on_the_ground t w f m = sum_below (λ s. stand_of t w f s m) (stations_in t)
