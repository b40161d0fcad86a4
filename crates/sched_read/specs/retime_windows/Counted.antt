-- What a reader of windows counts beside them.
use Rattle.std.specs.Prelude.{◌≡◌, ℕ, ◌<◌, ◌≤◌, List, length, slice_index, ℤ, neg_ℤ, ◌≤ℤ◌}
use Rattle.fleet_model.specs.declared.limits.TheConstants.{MAX_FLEETS, MAX_SHIFT}
use Rattle.sched_read.specs.retime_windows.Keys.{windows_on}

-- of each of so many legs how many windows it has, by their keys: no more than a leg may have
pub record AreWindowsCounted (keys : List (List ℕ)) (legs : ℕ) (counts : List ℕ) : Type 0 where
  pub each_leg : length counts ≡ legs
  pub value : (l : ℕ) → l < legs → slice_index counts l ≡ windows_on keys l
  pub few : (l : ℕ) → l < legs → slice_index counts l ≤ 8

-- of each leg so many fleets
pub record AreFleetCounts (legs : ℕ) (fleets : List ℕ) : Type 0 where
  pub each_leg : length fleets ≡ legs
  pub few : (l : ℕ) → l < legs → slice_index fleets l ≤ MAX_FLEETS

-- minutes by which a leg may depart later or earlier
pub record AreShiftMinutes (minutes : ℤ) : Type 0 where
  pub no_less : neg_ℤ MAX_SHIFT ≤ℤ minutes
  pub no_more : minutes ≤ℤ MAX_SHIFT
