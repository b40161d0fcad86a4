-- Of every five files one thing holds and no more: they read as one set of tables, or they have one first fault. And what
-- departures are in a period of one day.
use Rattle.std.specs.Prelude.{◌≡◌, ◌⊎◌, ℕ}
use Rattle.fleet_model.specs.Limits.{AreSettings}
use Rattle.fleet_model.specs.declared.parts.Settings.{Settings}
use Rattle.fleet_model.specs.declared.refusals.TableFile.{TableFile}
use Rattle.fleet_model.specs.declared.tables.Tables.{Tables}
use Rattle.sched_read.specs.Legs.{from_day_start, from_period_start}
use Rattle.sched_read.specs.Reading.{BadAt, Reads, TableBytes}

-- the files read as some tables
pub record ReadAsTables (bytes : TableBytes) (settings : Settings) : Type 0 where
  pub tables : Tables
  pub reads : Reads bytes settings tables

-- the files have a first fault
pub record HaveFirstFault (bytes : TableBytes) (settings : Settings) : Type 0 where
  pub file : TableFile
  pub row : ℕ
  pub kind : ℕ
  pub bad : BadAt bytes settings file row kind

-- the files read as tables, or they have a first fault
abbrev pub ReadOrFault : Type 0
ReadOrFault = (bytes : TableBytes) (settings : Settings) → AreSettings settings → ReadAsTables bytes settings ⊎ HaveFirstFault bytes settings

-- never both
abbrev pub ReadOrFaultNotBoth : Type 0
ReadOrFaultNotBoth = (bytes : TableBytes) (settings : Settings) → ReadAsTables bytes settings → ¬ (HaveFirstFault bytes settings)

-- files read as one set of tables at most
abbrev pub OneReading : Type 0
OneReading = (bytes : TableBytes) (settings : Settings) (a b : Tables) → Reads bytes settings a → Reads bytes settings b → a ≡ b

-- two faults are of one kind, at one record of one file
pub record SameFault (file other : TableFile) (row other_row kind other_kind : ℕ) : Type 0 where
  pub file_is : file ≡ other
  pub row_is : row ≡ other_row
  pub kind_is : kind ≡ other_kind

-- files have one first fault at most
abbrev pub OneFirstFault : Type 0
OneFirstFault = (bytes : TableBytes) (settings : Settings) (file other : TableFile) (row other_row kind other_kind : ℕ)
    → BadAt bytes settings file row kind → BadAt bytes settings other other_row other_kind → SameFault file other row other_row kind other_kind

-- where the period is one day, it starts with the day
abbrev pub OneDay : Type 0
OneDay = (settings : Settings) (minute : ℕ) → settings.period ≡ 1 → from_period_start settings 1 minute ≡ from_day_start settings minute
