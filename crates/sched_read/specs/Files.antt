-- Which tables the files of a folder read as, by how they are asked for, and their first fault.
use Rattle.std.specs.Prelude.{◌≡◌, ℕ, List, Bool, true, false, ⊤}
use Rattle.csv_fields.specs.Record.{records_of}
use Rattle.fleet_model.specs.declared.options.TableOptions.{TableOptions}
use Rattle.fleet_model.specs.declared.refusals.LoadError.{LoadError}
use Rattle.fleet_model.specs.declared.refusals.LoadError.TheVariants as load
use Rattle.fleet_model.specs.declared.refusals.TableFile.{TableFile}
use Rattle.fleet_model.specs.declared.refusals.TableFile.TheVariants as file
use Rattle.fleet_model.specs.declared.tables.Tables.{Tables}
use Rattle.sched_read.specs.optional_legs.Adding.{ReadsOptional}
use Rattle.sched_read.specs.optional_legs.Optional.{OptionalBad}
use Rattle.sched_read.specs.retime_windows.Times.{ReadsWindows}
use Rattle.sched_read.specs.retime_windows.Windows.{WindowsBad}
use Rattle.sched_read.specs.Reading.{BadAt, Reads, TableBytes}
use Rattle.sched_read.specs.declared.files.TableTexts.{TableTexts}

-- the bytes of all tables: the five, and those that are read where they are asked for
pub record AllBytes : Type 0 where
  pub five : TableBytes
  pub windows : List ℕ
  pub optional : List ℕ

-- tables with what a further file says where it is asked for, and else as they are
abbrev pub WhereAsked : Bool → (Tables → List ℕ → Tables → Type 0) → Tables → List ℕ → Tables → Type 0
WhereAsked true reads t bytes u = reads t bytes u
WhereAsked false reads t bytes u = u ≡ t

-- the five files read as tables, and with windows, where they are asked for, as these
pub record MovedRead (bytes : AllBytes) (options : TableOptions) (t : Tables) : Type 0 where
  pub first : Tables
  pub five : Reads bytes.five options.settings first
  pub windows : WhereAsked options.windows ReadsWindows first bytes.windows t

-- .. and with optional legs, where they are asked for, as these
pub record FilesRead (bytes : AllBytes) (options : TableOptions) (t : Tables) : Type 0 where
  pub moved : Tables
  pub before : MovedRead bytes options moved
  pub optional : WhereAsked options.optional ReadsOptional moved bytes.optional t

-- The first fault: the files before it read. A file that isn't asked for has none.
abbrev pub FilesBad : AllBytes → TableOptions → TableFile → ℕ → ℕ → Type 0
FilesBad bytes options file.Stations row kind = BadAt bytes.five options.settings file.Stations row kind
FilesBad bytes options file.Fleets row kind = BadAt bytes.five options.settings file.Fleets row kind
FilesBad bytes options file.Legs row kind = BadAt bytes.five options.settings file.Legs row kind
FilesBad bytes options file.Costs row kind = BadAt bytes.five options.settings file.Costs row kind
FilesBad bytes options file.Throughs row kind = BadAt bytes.five options.settings file.Throughs row kind
FilesBad bytes options file.Windows row kind =
    (options.windows ≡ true) × (first : Tables) × Reads bytes.five options.settings first × WindowsBad first (records_of bytes.windows) row kind
FilesBad bytes options file.Optional row kind = (options.optional ≡ true) × (moved : Tables) × MovedRead bytes options moved × OptionalBad moved (records_of bytes.optional) row kind
FilesBad bytes options file.Tails row kind = ⊥

-- the error is the first fault of the files, unless memory ran out
abbrev pub IsFirstBad : AllBytes → TableOptions → LoadError → Type 0
IsFirstBad bytes options (load.Bad bad) = FilesBad bytes options bad.file bad.row bad.kind
IsFirstBad bytes options load.NoMemory = ⊤

-- ---- as the code has them
abbrev pub all_bytes : TableTexts → AllBytes
all_bytes texts = record {
  five = record { stations = texts.stations; fleets = texts.fleets; legs = texts.legs; costs = texts.costs; throughs = texts.throughs };
  windows = texts.windows;
  optional = texts.optional;
}
