-- Whether more tails than starts come to maintenance within some nights.
use Rattle.std.specs.Prelude.{ℕ, ◌<◌, nat_le, List, length, slice_index}
use Rattle.sums.specs.Below.{count_below}

-- each number of a list is below a bound
pub record AreLessThan (bound : ℕ) (numbers : List ℕ) : Type 0 where
  pub each : (k : ℕ) → k < length numbers → slice_index numbers k < bound

-- how many of some numbers are at most a number
abbrev pub at_most : List ℕ → ℕ → ℕ
at_most numbers most = count_below (λ k. nat_le (slice_index numbers k) most) (length numbers)

-- more tails have to come to maintenance within so many nights than starts do
abbrev pub IsLateAt : List ℕ → List ℕ → ℕ → Type 0
IsLateAt lefts reaches nights = at_most reaches nights < at_most lefts nights

-- the least such number, where there is one
pub record IsFirstLate (lefts reaches : List ℕ) (within : ℕ) : Type 0 where
  pub late : IsLateAt lefts reaches within
  pub least : (nights : ℕ) → nights < within → ¬ (IsLateAt lefts reaches nights)

pub record IsNeverLate (lefts reaches : List ℕ) : Type 0 where
  pub each : (nights : ℕ) → ¬ (IsLateAt lefts reaches nights)
