-- How many nights pass until an aircraft that begins with a line of a tour has come to maintenance.
use Rattle.std.specs.Prelude.{◌≡◌, ℕ, ◌+◌, ◌-◌, ◌*◌, ◌%◌, ◌<◌, Bool, true, false, List, length, map, slice_index, slice_index_or}
use Rattle.fleet_model.specs.declared.tables.Tables.{Tables}
use Rattle.fleet_model.specs.Schedule.{days_in}
use Rattle.lines_of_flying.specs.ground_turns.Nights.{can_maintain, nights_of_tour}
use Rattle.lines_of_flying.specs.Lines.{first_day}

-- of each night of a tour, going round from its first leg, whether it is for maintenance
abbrev pub maintenance_nights : Tables → ℕ → List ℕ → List Bool
maintenance_nights t f tour = map (can_maintain t) (nights_of_tour t f tour)

-- the night so many after the first is for maintenance, going round
abbrev pub is_maintained : List Bool → ℕ → Bool
is_maintained nights k = slice_index_or nights (k % length nights) false

-- The night that ends a line. The first line is of the period's first day, and the first night ends the day of the first
-- leg: nights before it are those at the tour's end.
abbrev pub night_ending : Tables → ℕ → List ℕ → ℕ → ℕ
night_ending t f tour line = length (maintenance_nights t f tour) - first_day t f tour + line

-- The line of a day of the period in one of the tour's periods, the day counted from 0 and the period too. These are the starts
-- of that day: with each of them an aircraft can begin then.
abbrev pub start_line : Tables → ℕ → ℕ → ℕ
start_line t day period = period * days_in t + day

-- of the nights from one on, the last of so many is the first for maintenance
pub record IsReach (nights : List Bool) (first reach : ℕ) : Type 0 where
  pub some : 0 < reach
  pub comes : is_maintained nights (first + (reach - 1)) ≡ true
  pub first_such : (k : ℕ) → k < reach - 1 → is_maintained nights (first + k) ≡ false

-- the reach of a line of a tour
abbrev pub HasReach : Tables → ℕ → List ℕ → ℕ → ℕ → Type 0
HasReach t f tour line reach = IsReach (maintenance_nights t f tour) (night_ending t f tour line) reach

-- the reaches of a tour's first starts on a day of the period
pub record AreReaches (t : Tables) (f : ℕ) (tour : List ℕ) (day starts : ℕ) (reaches : List ℕ) : Type 0 where
  pub each_start : length reaches ≡ starts
  pub each : (i : ℕ) → i < starts → HasReach t f tour (start_line t day i) (slice_index reaches i)
