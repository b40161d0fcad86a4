-- Windows by their legs and minutes, and how many choices they make.
use Rattle.std.specs.Prelude.{ℕ, ◌+◌, ◌*◌, ◌==◌, Bool, List, [], ◌∷◌, length, count_by, slice_index, is_some, ℤ, pos, negsuc, unsigned_abs}
use Rattle.sums.specs.Below.{count_below, sum_below}
use Rattle.sums.specs.Places.{list_below}
use Rattle.fleet_model.specs.Costs.{cost_in}
use Rattle.fleet_model.specs.Schedule.{fleets_in, legs_in}
use Rattle.fleet_model.specs.declared.tables.Tables.{Tables}
use Rattle.sched_read.specs.declared.retime_windows.window.Window.{Window}

-- 1 where minutes are below 0
abbrev pub is_earlier : ℤ → ℕ
is_earlier (pos minutes) = 0
is_earlier (negsuc minutes) = 1

-- a leg and minutes, by their sign and size: no two windows share both
abbrev pub key_with : ℕ → ℤ → List ℕ
key_with leg minutes = leg ∷ is_earlier minutes ∷ unsigned_abs minutes ∷ []

abbrev pub window_key : Window → List ℕ
window_key window = key_with window.leg window.minutes

-- how many windows with these keys are of a leg
abbrev pub is_on : ℕ → List ℕ → Bool
is_on leg key = slice_index key 0 == leg

abbrev pub windows_on : List (List ℕ) → ℕ → ℕ
windows_on keys leg = count_by (is_on leg) keys

-- of each leg how many fleets have a cost on it
abbrev pub fleets_on : Tables → ℕ → ℕ
fleets_on t l = count_below (λ f. is_some (cost_in t.costs l f)) (fleets_in t)

abbrev pub fleet_counts : Tables → List ℕ
fleet_counts t = list_below (fleets_on t) (legs_in t)

-- by how many pairs legs may be flown, where so many fleets have a cost on each: each at its own time, and at that of each of
-- its windows
abbrev pub triples_of : List ℕ → List (List ℕ) → ℕ → ℕ
triples_of fleets keys leg = slice_index fleets leg * (1 + windows_on keys leg)

unfoldable pub triples_by : List ℕ → List (List ℕ) → ℕ
triples_by fleets keys = sum_below (triples_of fleets keys) (length fleets)
