-- Prices after rises went to their moments and all rounds are over.
use Rattle.std.specs.Prelude.{◌≡◌, ℕ, zero, suc, Bool, true, false, ◌||◌, nat_lt, if◌then◌else◌, List, [], length, ℤ, ◌+ℤ◌, unsigned_abs, Option, Some, None}
use Rattle.sums.specs.Places.{first_below, list_below}
use Rattle.fleet_model.specs.Schedule.{fleets_in, period_of, stations_in}
use Rattle.fleet_model.specs.declared.tables.Tables.{Tables}
use Rattle.dual_bound.specs.Prices.{max_price, rent_of}
use Rattle.dual_bound.specs.declared.prices.Prices.{Prices}
use Rattle.island_prices.specs.Rises.{moved_price}
use Rattle.island_prices.specs.Rounds.{price_grown, rent_grown}
use Rattle.island_prices.specs.Steps.{steps_of}
use Rattle.island_prices.specs.declared.paying.PaybackError.{PaybackError}
use Rattle.island_prices.specs.declared.paying.PaybackError.TheVariants.{Beyond, NoMemory}
use Rattle.island_prices.specs.declared.rises.Rise.{Rise}
use Rattle.island_prices.specs.declared.rounds.Rounds.{Rounds}

unfoldable pub paid_price : Prices → List Rise → Rounds → ℕ → ℕ → ℕ → ℤ
paid_price prices rises rounds f s m = moved_price prices rises f s m +ℤ price_grown rounds s m (length rounds.numbers)

unfoldable pub paid_rent : Prices → Rounds → ℕ → ℤ
paid_rent prices rounds f = rent_of prices f +ℤ rent_grown rounds (length rounds.numbers)

-- the prices as a list of steps
unfoldable pub paid_prices : Tables → Prices → List Rise → Rounds → Prices
paid_prices t prices rises rounds = record {
  scale = prices.scale;
  rents = list_below (paid_rent prices rounds) (fleets_in t);
  steps = steps_of t (paid_price prices rises rounds);
  charges = [];
}

-- a number is greater in size than a price may be
abbrev pub is_beyond : ℤ → Bool
is_beyond z = nat_lt max_price (unsigned_abs z)

-- one of f 0, f 1, .. up to and without f n is
abbrev pub any_below : (ℕ → Bool) → ℕ → Bool
any_below p zero = false
any_below p (suc n) = any_below p n || p n

-- .. of a fleet's prices at a station, of all its prices, and of its rent and prices
unfoldable pub beyond_at : (ℕ → ℤ) → ℕ → Bool
beyond_at price n = any_below (λ m. is_beyond (price m)) n

unfoldable pub beyond_of : ℕ → (ℕ → ℕ → ℤ) → ℕ → Bool
beyond_of minutes price n = any_below (λ s. beyond_at (price s) minutes) n

unfoldable pub has_beyond : Tables → (ℕ → ℤ) → (ℕ → ℕ → ℕ → ℤ) → ℕ → Bool
has_beyond t rent price f = is_beyond (rent f) || beyond_of (period_of t) (price f) (stations_in t)

-- the first fleet that has
abbrev pub fleet_if : Bool → ℕ → Option ℕ
fleet_if beyond f = if beyond then Some f else None

unfoldable pub first_beyond : Tables → (ℕ → ℤ) → (ℕ → ℕ → ℕ → ℤ) → ℕ → Option ℕ
first_beyond t rent price n = first_below (λ f. fleet_if (has_beyond t rent price f) f) n

-- why prices are not paid back: the first fleet that has; want of memory is free
abbrev pub IsPaybackError : Option ℕ → PaybackError → Type 0
IsPaybackError first (Beyond fleet) = first ≡ Some fleet
IsPaybackError first NoMemory = Unit {0}

-- .. of one fleet: it has a rent or a price beyond the limit
abbrev pub HasBeyond : Bool → ℕ → PaybackError → Type 0
HasBeyond has f (Beyond fleet) = (has ≡ true) × (fleet ≡ f)
HasBeyond has f NoMemory = Unit {0}

-- memory is wanting only where what is looked at before isn't beyond the limit
abbrev pub IsWantedBehindLimit : Bool → PaybackError → Type 0
IsWantedBehindLimit beyond (Beyond fleet) = Unit {0}
IsWantedBehindLimit beyond NoMemory = beyond ≡ false
