-- Of the files of a folder one thing holds and no more: they read as one set of tables, or they have one first fault.
use Rattle.std.specs.Prelude.{◌≡◌, ◌⊎◌, ℕ}
use Rattle.fleet_model.specs.Limits.{AreSettings}
use Rattle.fleet_model.specs.declared.options.TableOptions.{TableOptions}
use Rattle.fleet_model.specs.declared.refusals.TableFile.{TableFile}
use Rattle.fleet_model.specs.declared.tables.Tables.{Tables}
use Rattle.sched_read.specs.retime_windows.Settled.{CanSettle}
use Rattle.sched_read.specs.Laws.{SameFault}
use Rattle.sched_read.specs.Files.{AllBytes, FilesBad, FilesRead}

-- the files read as some tables
pub record ReadAsTables (bytes : AllBytes) (options : TableOptions) : Type 0 where
  pub tables : Tables
  pub reads : FilesRead bytes options tables

-- the files have a first fault
pub record HaveFirstFault (bytes : AllBytes) (options : TableOptions) : Type 0 where
  pub file : TableFile
  pub row : ℕ
  pub kind : ℕ
  pub bad : FilesBad bytes options file row kind

-- the files read as tables, or they have a first fault
abbrev pub ReadOrFault : Type 0
ReadOrFault = (bytes : AllBytes) (options : TableOptions) → AreSettings options.settings → ReadAsTables bytes options ⊎ HaveFirstFault bytes options

-- never both
abbrev pub ReadOrFaultNotBoth : Type 0
ReadOrFaultNotBoth = (bytes : AllBytes) (options : TableOptions) → ReadAsTables bytes options → ¬ (HaveFirstFault bytes options)

-- files read as one set of tables at most
abbrev pub OneReading : Type 0
OneReading = (bytes : AllBytes) (options : TableOptions) (a b : Tables) → FilesRead bytes options a → FilesRead bytes options b → a ≡ b

-- files have one first fault at most
abbrev pub OneFirstFault : Type 0
OneFirstFault = (bytes : AllBytes) (options : TableOptions) (file other : TableFile) (row other_row kind other_kind : ℕ)
    → FilesBad bytes options file row kind → FilesBad bytes options other other_row other_kind → SameFault file other row other_row kind other_kind

-- plans can be settled on tables that read
abbrev pub PlansSettle : Type 0
PlansSettle = (bytes : AllBytes) (options : TableOptions) (t : Tables) → FilesRead bytes options t → CanSettle t
