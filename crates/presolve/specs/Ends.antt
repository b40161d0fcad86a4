-- Kept pairs of a fleet at a station, by an end of their legs.
use Rattle.std.specs.Prelude.{ℕ}
use Rattle.fleet_model.specs.Kept.{Domains}
use Rattle.fleet_model.specs.Schedule.{leg_of}
use Rattle.fleet_model.specs.declared.tables.Tables.{Tables}
use Rattle.presolve.specs.Rules.{departures, landings}
use Rattle.presolve.specs.declared.counting.End.{End}
use Rattle.presolve.specs.declared.counting.End.TheVariants as end

-- the station at an end of a leg
abbrev pub end_station : Tables → End → ℕ → ℕ
end_station t end.From l = (leg_of t l).from
end_station t end.To l = (leg_of t l).to

-- how many kept pairs of a fleet have this end at a station
abbrev pub kept_at : Tables → Domains → End → ℕ → ℕ → ℕ
kept_at t keeps end.From = departures t keeps
kept_at t keeps end.To = landings t keeps
