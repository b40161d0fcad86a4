-- Counts of 64 bits, which stay at their last value once there.
use Rattle.std.specs.Prelude.{◌≡◌, ◌⊎◌, ℕ, zero, suc, ◌+◌, ◌-◌, ◌^◌, ◌≤◌, min, Option, option_map}

-- a count after n more
abbrev pub counted : ℕ → ℕ → ℕ
counted before n = min (before + n) (2 ^ 64 - 1)

-- the count rose by n or more, or stands at its last value
abbrev pub RoseBy : ℕ → ℕ → ℕ → Type 0
RoseBy n before now = counted before n ≤ now

-- the count is as it was, or after one more
abbrev pub IsOneMoreAtMost : ℕ → ℕ → Type 0
IsOneMoreAtMost before now = (now ≡ before) ⊎ (now ≡ counted before 1)

-- one more than before, where it is counted
abbrev pub once_more : Option ℕ → Option ℕ
once_more count = option_map (λ n. counted n 1) count

-- the same so many times
abbrev pub more_times : ℕ → Option ℕ → Option ℕ
more_times zero count = count
more_times (suc n) count = once_more (more_times n count)

-- so many calls were made at most, where they are counted
pub record CallsAtMost (most : ℕ) (before now : Option ℕ) : Type 0 where
  pub calls : ℕ
  pub within : calls ≤ most
  pub made : now ≡ more_times calls before
