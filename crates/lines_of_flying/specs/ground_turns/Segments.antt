-- Segments of a period: each reaches to a minute at whose end none stands at the station.
use Rattle.std.specs.Prelude.{◌≡◌, ℕ, suc, ◌-◌, ◌<◌, ◌≤◌, ◌^◌, Bool, IsTrue, false, not, ◌==◌, nat_lt, List, length, slice_index, slice_index_or}
use Rattle.std.specs.List.{list_any}
use Rattle.sums.specs.Below.{count_below}
use Rattle.lines_of_flying.specs.ground_turns.Turns.{minutes_round}

-- the number of the segment of each minute, and last the number of that which the next period begins with, counted on
abbrev pub span_of : List ℕ → ℕ
span_of numbers = length numbers - 1

-- a segment ends with the minute
abbrev pub ends_at : List ℕ → ℕ → Bool
ends_at numbers m = not (slice_index numbers m == slice_index numbers (suc m))

pub record AreNumbers (numbers : List ℕ) : Type 0 where
  pub some : 1 < length numbers
  pub few : length numbers ≤ 2 ^ 16
  pub rise : (m : ℕ) → m < span_of numbers → slice_index numbers m ≤ slice_index numbers (suc m)

-- the minute is one of the list
abbrev pub is_minute_among : List ℕ → ℕ → Bool
is_minute_among minutes m = list_any (λ minute. minute == m) minutes

-- segments end with the minutes of the list, and no others
pub record EndAt (minutes numbers : List ℕ) : Type 0 where
  pub each : (m : ℕ) → m < span_of numbers → ends_at numbers m ≡ is_minute_among minutes m

-- no segment ends from one minute on and before another
pub record NoneBetween (numbers : List ℕ) (from to : ℕ) : Type 0 where
  pub each : (m : ℕ) → from ≤ m → m < to → ends_at numbers m ≡ false

-- no segment ends while an aircraft waits that is ready in one minute and departs in another
pub record NoneEnds (numbers : List ℕ) (ready departure : ℕ) : Type 0 where
  pub each : (m : ℕ) → m < span_of numbers
      → IsTrue (nat_lt (minutes_round (span_of numbers) ready m) (minutes_round (span_of numbers) ready departure))
      → ends_at numbers m ≡ false

-- how many of the marks stand before a place
abbrev pub is_marked : List Bool → ℕ → Bool
is_marked marks m = slice_index_or marks m false

abbrev pub marked_before : List Bool → ℕ → ℕ
marked_before marks m = count_below (is_marked marks) m
