-- What the reader of a record answers.
use Rattle.std.specs.Prelude.{◌≡◌, ℕ, ◌+◌, ◌++◌, List, [], ◌∷◌, Result, Ok, Err, ⊤}
use Rattle.fleet_model.specs.declared.refusals.LoadError.{LoadError}
use Rattle.fleet_model.specs.declared.refusals.LoadError.TheVariants as load
use Rattle.fleet_model.specs.declared.refusals.TableFile.{TableFile}
use Rattle.fleet_model.specs.declared.refusals.TheConstants.{WRONG_HEADER}
use Rattle.table_rows.specs.declared.faults.RecordError.{RecordError}
use Rattle.table_rows.specs.declared.faults.RecordError.TheVariants as refused
use Rattle.table_rows.specs.Rows.{Fields}

-- an entry that a record was read as below others, and the keys of all of them with its own
pub record IsNewEntry {E : Type 0} (key : E → List ℕ) (read : List (List ℕ) → Fields → Result E ℕ) (old new : List (List ℕ)) (fields : Fields) (entry : E) : Type 0 where
  pub reads : read old fields ≡ Ok entry
  pub numbered : new ≡ old ++ key entry ∷ []

-- the error is that of the record, unless memory ran out
abbrev pub IsFaultOf : {E : Type 0} → Result E ℕ → RecordError → Type 0
IsFaultOf read (refused.Bad kind) = read ≡ Err kind
IsFaultOf read refused.NoMemory = ⊤

-- the error is the first fault of this file, by what its records show, unless memory ran out
abbrev pub IsFirstFault : TableFile → (ℕ → ℕ → Type 0) → LoadError → Type 0
IsFirstFault file bad (load.Bad found) = (found.file ≡ file) × bad found.row found.kind
IsFirstFault file bad load.NoMemory = ⊤

-- the fault of a table's record at a place below the header, counted from 0
abbrev pub refusal_at : TableFile → ℕ → RecordError → LoadError
refusal_at file place (refused.Bad kind) = load.Bad (record { file = file; row = place + 2; kind = kind })
refusal_at file place refused.NoMemory = load.NoMemory

-- a file whose first record isn't the header
abbrev pub headless : TableFile → LoadError
headless file = load.Bad (record { file = file; row = 1; kind = WRONG_HEADER })
