-- The idle minutes of a subproblem: those of the tables, where each kept pair may be flown, and else none.
use Rattle.std.specs.Prelude.{◌≡◌, ℕ, ◌==◌, ◌&&◌, not, Bool, if◌then◌else◌, List, []}
use Rattle.sums.specs.Below.{count_below, sum_below}
use Rattle.fleet_model.specs.declared.tables.Tables.{Tables}
use Rattle.fleet_model.specs.Kept.{Domains, all_pairs}
use Rattle.fleet_model.specs.Schedule.{choices_in, leg_on, legs_in}
use Rattle.node_aggregate.specs.declared.island_cut.idle_minutes.Idle.{Idle}
use Rattle.node_aggregate.specs.island_cut.Islands.{idles_of, is_idle}

-- the pair is kept and may not be flown
abbrev pub is_strange : Tables → Domains → ℕ → ℕ → Bool
is_strange t keeps l c = keeps (leg_on l c) && not (all_pairs t (leg_on l c))

-- how many such pairs the leg has
abbrev pub strange_on : Tables → Domains → ℕ → ℕ
strange_on t keeps l = count_below (is_strange t keeps l) (choices_in t l)

-- each kept pair may be flown
unfoldable pub keeps_allowed : Tables → Domains → Bool
keeps_allowed t keeps = sum_below (strange_on t keeps) (legs_in t) == 0

-- the station is empty at the end of the minute, whatever the subproblem's mixed plan
abbrev pub idle_in : Tables → Domains → ℕ → ℕ → Bool
idle_in t keeps s m = keeps_allowed t keeps && is_idle t s m

-- these minutes, by station, then minute
abbrev pub idles_in : Tables → Domains → List Idle
idles_in t keeps = if keeps_allowed t keeps then idles_of t else []

-- a list has these minutes
pub record AreIdleIn (t : Tables) (keeps : Domains) (idle : List Idle) : Type 0 where
  pub are : idle ≡ idles_in t keeps
