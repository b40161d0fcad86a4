-- What makes prices proper once they are paid back, and worth no less.
use Rattle.std.specs.Prelude.{◌≡◌, ℕ, ◌+◌, ◌<◌, ◌==◌, ◌&&◌, true, if◌then◌else◌, List, length, ℤ, pos, ◌+ℤ◌, ◌≤ℤ◌}
use Rattle.sums.specs.Below.{sum_below_ℤ}
use Rattle.fleet_model.specs.Kept.{Domains}
use Rattle.fleet_model.specs.Schedule.{IsFlown, fleet_by, fleets_in, last_of, leg_of, period_of, stations_in}
use Rattle.fleet_model.specs.Times.{departure, ready_minute}
use Rattle.fleet_model.specs.declared.parts.Pair.{Pair}
use Rattle.fleet_model.specs.declared.tables.Tables.{Tables}
use Rattle.dual_bound.specs.Prices.{price_of, rent_of}
use Rattle.dual_bound.specs.declared.prices.Prices.{Prices}
use Rattle.node_aggregate.specs.island_cut.IslandLaws.{AreChoicesFor, IsPaidBack}
use Rattle.island_prices.specs.Rises.{is_rise_of, rise_in, rise_shift_by}
use Rattle.island_prices.specs.declared.rises.Rise.{Rise}
use Rattle.island_prices.specs.declared.rises.Shift.{Shift}
use Rattle.island_prices.specs.declared.rises.Shift.TheVariants.{Lowered, Raised}

-- the minute at whose end a price rose before its rise went to a moment
abbrev pub rise_end : Tables → Shift → ℕ
rise_end t (Raised last) = last
rise_end t Lowered = last_of t

-- by how much the prices of a fleet at a station rose at the end of a minute, by their rises
abbrev pub rises_end_at : Tables → List Rise → ℕ → ℕ → ℕ → ℕ → ℤ
rises_end_at t rises f s m i = if is_rise_of (rise_in rises i) f s && (rise_end t (rise_in rises i).shift == m) then (rise_in rises i).amount else pos 0

unfoldable pub ends_by : Tables → List Rise → ℕ → ℕ → ℕ → ℤ
ends_by t rises f s m = sum_below_ℤ (rises_end_at t rises f s m) (length rises)

-- from one minute to the next prices rise by their rises at most, and over the end of the period by the rent besides
pub record AreCovered (t : Tables) (prices : Prices) (rises : List Rise) : Type 0 where
  pub within_period : (f s m : ℕ) → f < fleets_in t → s < stations_in t → m + 1 < period_of t
      → price_of prices f s (m + 1) ≤ℤ (price_of prices f s m +ℤ ends_by t rises f s m)
  pub over_end : (f s : ℕ) → f < fleets_in t → s < stations_in t
      → price_of prices f s 0 ≤ℤ (price_of prices f s (last_of t) +ℤ rent_of prices f +ℤ ends_by t rises f s (last_of t))

-- no two rises of a fleet at a station have the same moment
pub record SameMoment (a b : Rise) : Type 0 where
  pub fleet : a.fleet ≡ b.fleet
  pub station : a.station ≡ b.station
  pub moment : a.moment ≡ b.moment

pub record AreRisesApart (rises : List Rise) : Type 0 where
  pub each : (i j : ℕ) → i < j → j < length rises → ¬ (SameMoment (rise_in rises i) (rise_in rises j))

-- no rise changes the price where and when a kept pair departs or is ready
pub record AreQuiet (t : Tables) (keeps : Domains) (rises : List Rise) : Type 0 where
  pub departs : (p : Pair) → IsFlown t p → keeps p ≡ true → rise_shift_by rises (fleet_by t p) (leg_of t p.leg).from (departure t p) ≡ pos 0
  pub lands : (p : Pair) → IsFlown t p → keeps p ≡ true → rise_shift_by rises (fleet_by t p) (leg_of t p.leg).to (ready_minute t p) ≡ pos 0

-- a minute of each station such that a rent and prices up to and with it may grow by the same: whichever fleets fly the
-- legs, the laps and the legs that have left come to all aircraft and the legs that are ready at least
pub record PaysBack (t : Tables) (at : ℕ → ℕ) : Type 0 where
  pub each : (choices : ℕ → ℕ) → AreChoicesFor t choices → IsPaidBack t at choices
