-- Of every file one thing holds beside tables and no more: it reads as optional legs, with which there is one set of tables, or
-- it has one first fault.
use Rattle.std.specs.Prelude.{◌≡◌, ◌⊎◌, ℕ, List}
use Rattle.csv_fields.specs.Record.{records_of}
use Rattle.fleet_model.specs.declared.tables.Tables.{Tables}
use Rattle.sched_read.specs.optional_legs.Adding.{ReadsOptional}
use Rattle.sched_read.specs.optional_legs.Optional.{OptionalBad}

-- the file reads as optional legs of the tables
pub record ReadAsOptional (t : Tables) (bytes : List ℕ) : Type 0 where
  pub tables : Tables
  pub reads : ReadsOptional t bytes tables

-- the file has a first fault beside the tables
pub record HasFirstOptionalFault (t : Tables) (bytes : List ℕ) : Type 0 where
  pub row : ℕ
  pub kind : ℕ
  pub bad : OptionalBad t (records_of bytes) row kind

abbrev pub OptionalOrFault : Type 0
OptionalOrFault = (t : Tables) (bytes : List ℕ) → ReadAsOptional t bytes ⊎ HasFirstOptionalFault t bytes

abbrev pub OptionalOrFaultNotBoth : Type 0
OptionalOrFaultNotBoth = (t : Tables) (bytes : List ℕ) → ReadAsOptional t bytes → ¬ (HasFirstOptionalFault t bytes)

abbrev pub OneOptionalReading : Type 0
OneOptionalReading = (t u v : Tables) (bytes : List ℕ) → ReadsOptional t bytes u → ReadsOptional t bytes v → u ≡ v

abbrev pub OneFirstOptionalFault : Type 0
OneFirstOptionalFault = (t : Tables) (bytes : List ℕ) (row other kind other_kind : ℕ) → OptionalBad t (records_of bytes) row kind → OptionalBad t (records_of bytes) other other_kind
    → (row ≡ other) × (kind ≡ other_kind)
