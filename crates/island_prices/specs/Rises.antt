-- Rises of prices that go to the end of another minute, and the prices after they went.
use Rattle.std.specs.Prelude.{ℕ, ◌<◌, ◌≤◌, ◌*◌, ◌==◌, ◌&&◌, nat_le, nat_lt, Bool, if◌then◌else◌, List, length, slice_index_or, ℤ, pos, neg_ℤ, ◌+ℤ◌, ◌≤ℤ◌, ◌<ℤ◌, ⊤}
use Rattle.sums.specs.Below.{sum_below_ℤ}
use Rattle.fleet_model.specs.Schedule.{fleets_in, period_of, stations_in}
use Rattle.fleet_model.specs.declared.tables.Tables.{Tables}
use Rattle.dual_bound.specs.Prices.{max_price, price_of}
use Rattle.dual_bound.specs.declared.prices.Prices.{Prices}
use Rattle.island_prices.specs.declared.rises.Rise.{Rise}
use Rattle.island_prices.specs.declared.rises.Shift.{Shift}
use Rattle.island_prices.specs.declared.rises.Shift.TheVariants.{Lowered, Raised}
use Rattle.island_prices.specs.declared.rises.TheConstants.{MAX_RISES}

-- what stands where there is no rise
abbrev pub no_rise : Rise
no_rise = record { fleet = 0; station = 0; moment = 0; shift = Lowered; amount = pos 0 }

abbrev pub rise_in : List Rise → ℕ → Rise
rise_in rises i = slice_index_or rises i no_rise

-- the rise is one of the fleet at the station
abbrev pub is_rise_of : Rise → ℕ → ℕ → Bool
is_rise_of rise f s = (rise.fleet == f) && (rise.station == s)

-- by how much a price changes where a rise goes to its moment: the minutes after the moment take the price that comes,
-- or those up to it keep the price that was
abbrev pub shifted : Shift → ℕ → ℤ → ℕ → ℤ
shifted (Raised last) moment amount m = if nat_lt moment m && nat_le m last then amount else pos 0
shifted Lowered moment amount m = if nat_le m moment then neg_ℤ amount else pos 0

abbrev pub rise_shift : Rise → ℕ → ℤ
rise_shift rise m = shifted rise.shift rise.moment rise.amount m

-- what one of the rises does to the price of a fleet at a station at a minute, and what all do
abbrev pub shift_at : List Rise → ℕ → ℕ → ℕ → ℕ → ℤ
shift_at rises f s m i = if is_rise_of (rise_in rises i) f s then rise_shift (rise_in rises i) m else pos 0

unfoldable pub rise_shift_by : List Rise → ℕ → ℕ → ℕ → ℤ
rise_shift_by rises f s m = sum_below_ℤ (shift_at rises f s m) (length rises)

-- the price of a minute after the rises went to their moments
abbrev pub moved_price : Prices → List Rise → ℕ → ℕ → ℕ → ℤ
moved_price prices rises f s m = price_of prices f s m +ℤ rise_shift_by rises f s m

-- the amount of a rise: above 0, and no more than two prices and a rent come to
pub record IsAmount (amount : ℤ) : Type 0 where
  pub some : pos 0 <ℤ amount
  pub small : amount ≤ℤ pos (3 * max_price)

-- the minutes of a rise: its moment, and behind it the last one that is raised
abbrev pub IsRiseShift : ℕ → Shift → ℕ → Type 0
IsRiseShift minutes (Raised last) moment = (moment ≤ last) × (last < minutes)
IsRiseShift minutes Lowered moment = ⊤

-- a rise of a fleet at a station of the tables
pub record IsRise (t : Tables) (rise : Rise) : Type 0 where
  pub fleet : rise.fleet < fleets_in t
  pub station : rise.station < stations_in t
  pub moment : rise.moment < period_of t
  pub shift : IsRiseShift (period_of t) rise.shift rise.moment
  pub amount : IsAmount rise.amount

-- .. and all are
pub record AreRises (t : Tables) (rises : List Rise) : Type 0 where
  pub few : length rises ≤ MAX_RISES
  pub each : (i : ℕ) → i < length rises → IsRise t (rise_in rises i)
