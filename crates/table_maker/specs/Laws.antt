-- What holds of the tables that are made: they read, and the first fleet may fly all their legs.
use Rattle.std.specs.Prelude.{◌≡◌, ℕ, ◌≤◌, List, length, replicate}
use Rattle.fleet_model.specs.Legal.{IsLegal}
use Rattle.fleet_model.specs.Limits.{AreSettings}
use Rattle.fleet_model.specs.declared.parts.Settings.{Settings}
use Rattle.fleet_model.specs.declared.tables.Tables.{Tables}
use Rattle.sched_read.specs.Reading.{Reads, TableBytes}
use Rattle.table_maker.specs.Made.{CanBeMade, made_tables}
use Rattle.table_maker.specs.declared.made.MadeTables.{MadeTables}

-- the bytes of the five texts
abbrev pub made_bytes : MadeTables → TableBytes
made_bytes made = record { stations = made.stations; fleets = made.fleets; legs = made.legs; costs = made.costs; throughs = made.throughs }

-- so many legs, all on the first fleet
abbrev pub all_on_first : ℕ → List ℕ
all_on_first legs = replicate legs 0

-- the texts read as tables, by these settings, and all legs on the first fleet are a legal assignment of them
pub record AreFlyable (made : MadeTables) (legs : ℕ) (settings : Settings) : Type 0 where
  pub tables : Tables
  pub reads : Reads (made_bytes made) settings tables
  pub legal : IsLegal tables (all_on_first legs)

-- by any settings of a period of one day
abbrev pub MadeRead : Type 0
MadeRead = (number legs : ℕ) (settings : Settings) → CanBeMade number legs → AreSettings settings → settings.period ≡ 1 → AreFlyable (made_tables number legs) legs settings

-- no text is longer than a file of tables may be
pub record AreShort (made : MadeTables) : Type 0 where
  pub stations_short : length made.stations ≤ 4194304
  pub fleets_short : length made.fleets ≤ 4194304
  pub legs_short : length made.legs ≤ 4194304
  pub costs_short : length made.costs ≤ 4194304
  pub throughs_short : length made.throughs ≤ 4194304

abbrev pub MadeShort : Type 0
MadeShort = (number legs : ℕ) → CanBeMade number legs → AreShort (made_tables number legs)
