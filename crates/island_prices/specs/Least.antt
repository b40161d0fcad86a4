-- The least idle minute of each station.
use Rattle.std.specs.Prelude.{ℕ, ◌==◌, if◌then◌else◌, List, [], ◌∷◌}
use Rattle.sums.specs.Places.{list_below}
use Rattle.fleet_model.specs.Schedule.{stations_in}
use Rattle.fleet_model.specs.declared.tables.Tables.{Tables}
use Rattle.node_aggregate.specs.island_cut.Islands.{idles_of}
use Rattle.node_aggregate.specs.declared.island_cut.idle_minutes.Idle.{Idle}

-- the minute of a station's first entry, and 0 where there is none; entries rise by station, then minute
unfoldable pub least_in : List Idle → ℕ → ℕ
least_in [] s = 0
least_in (entry ∷ entries) s = if entry.station == s then entry.minute else least_in entries s

-- those of all stations
unfoldable pub least_idle : Tables → List ℕ
least_idle t = list_below (least_in (idles_of t)) (stations_in t)
