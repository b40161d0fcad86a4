-- The records of a file.
use Rattle.std.specs.Prelude.{ℕ, List, Vec, map}
use Rattle.std.specs.declared.alloc.Global.{Global}
use Rattle.csv.specs.Reading.{default_config, records, strip_bom}

-- the records of a file's bytes, as `csv` defines them, past one byte order mark
unfoldable pub records_of : List ℕ → List (List (List ℕ))
records_of bytes = records default_config (strip_bom bytes)

-- the rows of fields that vectors hold
abbrev pub rows_of : Vec (Vec (Vec ℕ Global) Global) Global → List (List (List ℕ))
rows_of rows = map (λ row. map (λ field. field.items) row.items) rows.items
