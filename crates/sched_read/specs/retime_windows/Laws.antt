-- Of every file one thing holds beside tables and no more: it reads as windows, with which there is one set of tables, or it has
-- one first fault.
use Rattle.std.specs.Prelude.{◌≡◌, ◌⊎◌, ℕ, List}
use Rattle.csv_fields.specs.Record.{records_of}
use Rattle.fleet_model.specs.declared.tables.Tables.{Tables}
use Rattle.sched_read.specs.retime_windows.Times.{ReadsWindows}
use Rattle.sched_read.specs.retime_windows.Windows.{WindowsBad}

-- the file reads as windows of the tables
pub record ReadAsWindows (t : Tables) (bytes : List ℕ) : Type 0 where
  pub tables : Tables
  pub reads : ReadsWindows t bytes tables

-- the file has a first fault beside the tables
pub record HasFirstWindowsFault (t : Tables) (bytes : List ℕ) : Type 0 where
  pub row : ℕ
  pub kind : ℕ
  pub bad : WindowsBad t (records_of bytes) row kind

abbrev pub WindowsOrFault : Type 0
WindowsOrFault = (t : Tables) (bytes : List ℕ) → ReadAsWindows t bytes ⊎ HasFirstWindowsFault t bytes

abbrev pub WindowsOrFaultNotBoth : Type 0
WindowsOrFaultNotBoth = (t : Tables) (bytes : List ℕ) → ReadAsWindows t bytes → ¬ (HasFirstWindowsFault t bytes)

abbrev pub OneWindowsReading : Type 0
OneWindowsReading = (t u v : Tables) (bytes : List ℕ) → ReadsWindows t bytes u → ReadsWindows t bytes v → u ≡ v

abbrev pub OneFirstWindowsFault : Type 0
OneFirstWindowsFault = (t : Tables) (bytes : List ℕ) (row other kind other_kind : ℕ) → WindowsBad t (records_of bytes) row kind → WindowsBad t (records_of bytes) other other_kind
    → (row ≡ other) × (kind ≡ other_kind)
