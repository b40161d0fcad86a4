-- The records of a table's file: its header and the records below it, which read as entries one after another.
use Rattle.std.specs.Prelude.{◌≡◌, ◌≢◌, ◌⊎◌, ◌+◌, ◌<◌, ℕ, List, [], ◌∷◌, length, take, map, slice_index_or, Vec, Result, Ok, Err}
use Rattle.std.specs.declared.alloc.Global.{Global}
use Rattle.fleet_model.specs.declared.refusals.TheConstants.{WRONG_HEADER}

-- a record, as the list of its fields
abbrev pub Fields : Type 0
Fields = List (List ℕ)

-- the fields that a vector holds
abbrev pub fields_in : List (Vec ℕ Global) → Fields
fields_in fields = map (λ field. field.items) fields

-- the records that a vector holds
abbrev pub rows_in : List (Vec (Vec ℕ Global) Global) → List Fields
rows_in rows = map (λ row. fields_in row.items) rows

-- the record at a place
abbrev pub record_at : List Fields → ℕ → Fields
record_at rows k = slice_index_or rows k []

-- the first record is the header, and the rest stands below it
abbrev pub IsUnder : Fields → List Fields → List Fields → Type 0
IsUnder header records rest = records ≡ header ∷ rest

-- there is no record, or the first one isn't the header
abbrev pub LacksHeader : Fields → List Fields → Type 0
LacksHeader header records = (rest : List Fields) → records ≢ header ∷ rest

-- What a table says of its records: the key of an entry, which is a list of numbers, as its name or the numbers of
-- two names, and what a record reads as below entries with such keys, or the least kind of its faults.
module _ {E : Type 0} (key : E → List ℕ) (read : List (List ℕ) → Fields → Result E ℕ) where
  -- the first records read as these entries, one each, below the keys of the entries before it
  pub record FrontReads (rows : List Fields) (entries : List E) : Type 0 where
    pub each : (k : ℕ) (d : E) → k < length entries → read (map key (take k entries)) (record_at rows k) ≡ Ok (slice_index_or entries k d)

  -- all records read as these entries
  pub record RowsRead (rows : List Fields) (entries : List E) : Type 0 where
    pub all : length rows ≡ length entries
    pub reads : FrontReads rows entries

  -- The first record that doesn't read, with its kind: those before it read as some entries. Its number counts
  -- the header as record 1.
  pub record RowsBad (rows : List Fields) (row kind : ℕ) : Type 0 where
    pub before : List E
    pub within : length before < length rows
    pub reads : FrontReads rows before
    pub fault : read (map key before) (record_at rows (length before)) ≡ Err kind
    pub number : row ≡ length before + 2

  -- the records of a file are its header and records that read as these entries
  pub record TableReads (header : Fields) (records : List Fields) (entries : List E) : Type 0 where
    pub rest : List Fields
    pub under : IsUnder header records rest
    pub rows : RowsRead rest entries

  -- below the header of a file a record doesn't read
  pub record BadBelowHeader (header : Fields) (records : List Fields) (row kind : ℕ) : Type 0 where
    pub rest : List Fields
    pub under : IsUnder header records rest
    pub rows : RowsBad rest row kind

  -- the first fault of a file, with the number of its record
  abbrev pub TableBad : Fields → List Fields → ℕ → ℕ → Type 0
  TableBad header records row kind = (LacksHeader header records × (row ≡ 1) × (kind ≡ WRONG_HEADER)) ⊎ BadBelowHeader header records row kind
