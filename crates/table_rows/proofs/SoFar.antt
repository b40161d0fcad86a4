-- The loop that reads the records of a table: what the first of them read as.
use Rattle.std.proofs.Common.{◌≡◌, ℕ, ◌+◌, ◌<◌, ◌≤◌, List, [], ◌∷◌, ◌++◌, length, map, slice_index_or, Vec, Global, Result, Err, refl, sym, ap, ◌∙◌, inl, arith}
use Rattle.std.proofs.lemmas.List.{get_or-map, length-append, length-map, map-append}
use Rattle.table_rows.specs.Rows.{Fields, FrontReads, LacksHeader, RowsBad, RowsRead, TableBad, fields_in, record_at, rows_in}
use Rattle.fleet_model.specs.declared.refusals.LoadError.{LoadError}
use Rattle.fleet_model.specs.declared.refusals.TableFile.{TableFile}
use Rattle.table_rows.specs.declared.faults.RecordError.{RecordError}
use Rattle.table_rows.specs.declared.faults.RecordError.TheVariants as refused
use Rattle.table_rows.specs.Outcome.{IsFaultOf, IsFirstFault, IsNewEntry, headless, refusal_at}
use Rattle.table_rows.proofs.FrontReading.{front_none, front_push}

-- the fields at a place of the rows that a vector holds
pub row_found : (rows : List (Vec (Vec ℕ Global) Global)) (place : ℕ) (row : Vec (Vec ℕ Global) Global) (fields : List (Vec ℕ Global))
    → place < length rows → row ≡ slice_index_or rows place row → fields ≡ row.items → fields_in fields ≡ record_at (rows_in rows) place
row_found rows place row fields within found is =
    rw (is, get_or-map (λ (r : Vec (Vec ℕ Global) Global). fields_in r.items) rows place row [] within) (ap (λ (r : Vec (Vec ℕ Global) Global). fields_in r.items) found)

-- all rows were read
pub rows_end : (rows : List (Vec (Vec ℕ Global) Global)) (place : ℕ) → place ≤ length rows → length rows ≤ place → place ≡ length (rows_in rows)
rows_end rows place below above = omega (arith, length-map rows (λ (r : Vec (Vec ℕ Global) Global). fields_in r.items))

pub rows_within : (rows : List (Vec (Vec ℕ Global) Global)) (place : ℕ) → place < length rows → place < length (rows_in rows)
rows_within rows place below = omega (arith, length-map rows (λ (r : Vec (Vec ℕ Global) Global). fields_in r.items))

module _ {E : Type 0} (key : E → List ℕ) (read : List (List ℕ) → Fields → Result E ℕ) where
  -- the records before a place read as these entries, with these keys
  pub record ReadSoFar (rows : List Fields) (place : ℕ) (keys : List (List ℕ)) (entries : List E) : Type 0 where
    pub count : place ≡ length entries
    pub numbered : keys ≡ map key entries
    pub reads : FrontReads key read rows entries

  pub so_far_none : (rows : List Fields) (keys : List (List ℕ)) (entries : List E) → keys ≡ [] → entries ≡ [] → ReadSoFar rows 0 keys entries
  so_far_none rows keys entries no_key none = rw (no_key, none) (record { count = refl; numbered = refl; reads = front_none key read rows })

  -- the reader reads as it did at the start
  pub so_far_push : (now : List (List ℕ) → Fields → Result E ℕ) (rows : List Fields) (place : ℕ) (keys new : List (List ℕ)) (entries grown : List E) (entry : E) (fields : Fields) → now ≡ read
      → ReadSoFar rows place keys entries → fields ≡ record_at rows place → IsNewEntry key now keys new fields entry → grown ≡ entries ++ entry ∷ [] → ReadSoFar rows (place + 1) new grown
  so_far_push now rows place keys new entries grown entry fields same so_far row more added = rw added (record {
    count = omega (arith, length-append {A = E}, so_far.count);
    numbered = more.numbered ∙ ap (λ ks. ks ++ key entry ∷ []) so_far.numbered ∙ sym (map-append key entries (entry ∷ []));
    reads = front_push key read rows entries entry so_far.reads (rw (← so_far.numbered, ← so_far.count, ← row, ← same) more.reads);
  })

  pub so_far_bad : (rows : List Fields) (place kind : ℕ) (keys : List (List ℕ)) (entries : List E) (fields : Fields) → ReadSoFar rows place keys entries
      → place < length rows → fields ≡ record_at rows place → read keys fields ≡ Err kind → RowsBad key read rows (place + 2) kind
  so_far_bad rows place kind keys entries fields so_far within row fault = record {
    before = entries;
    within = omega (arith, so_far.count);
    reads = so_far.reads;
    fault = rw (← so_far.numbered, ← so_far.count, ← row) fault;
    number = omega (arith, so_far.count);
  }

  pub so_far_all : (rows : List Fields) (place : ℕ) (keys : List (List ℕ)) (entries : List E) → ReadSoFar rows place keys entries → place ≡ length rows → RowsRead key read rows entries
  so_far_all rows place keys entries so_far end = record { all = omega (arith, so_far.count); reads = so_far.reads }

  -- the refusal of a record that doesn't read is the first fault of the rows
  pub so_far_refused : (now : List (List ℕ) → Fields → Result E ℕ) (file : TableFile) (rows : List Fields) (place : ℕ) (keys : List (List ℕ)) (entries : List E) (fields : Fields) (error : RecordError)
      → now ≡ read → ReadSoFar rows place keys entries → place < length rows → fields ≡ record_at rows place → IsFaultOf (now keys fields) error
      → IsFirstFault file (RowsBad key read rows) (refusal_at file place error)
  so_far_refused now file rows place keys entries fields (refused.Bad kind) same so_far within row fault =
      (refl, so_far_bad rows place kind keys entries fields so_far within row (rw (← same) fault))
  so_far_refused now file rows place keys entries fields refused.NoMemory same so_far within row fault = tt

  -- the refusal of a file that lacks its header is its first fault
  pub headless_refused : (file : TableFile) (header : Fields) (records : List Fields) (error : LoadError) → LacksHeader header records → error ≡ headless file
      → IsFirstFault file (TableBad key read header records) error
  headless_refused file header records error lacks is = rw is (refl, inl (lacks, refl, refl))
