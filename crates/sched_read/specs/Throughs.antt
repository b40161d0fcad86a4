-- What a file of through pairs reads as.
use Rattle.std.specs.Prelude.{◌≡◌, ◌≢◌, ◌⊎◌, ℕ, pos, not, ◌&&◌, nat_le, List, ◌∷◌, [], length, codes, Result, Ok}
use Rattle.std.specs.Str.{is_utf8}
use Rattle.csv_fields.specs.Name.{name_of}
use Rattle.csv_fields.specs.Number.{whole_of}
use Rattle.csv_fields.specs.Record.{records_of}
use Rattle.fleet_model.specs.declared.limits.TheConstants.{MAX_COST, MAX_THROUGHS}
use Rattle.fleet_model.specs.declared.parts.Through.{Through}
use Rattle.fleet_model.specs.declared.refusals.TheConstants.{DUPLICATE, NOT_TEXT, TOO_MANY, UNKNOWN_FLIGHT}
use Rattle.table_rows.specs.Fields.{known, of_width, refused_where, three_of, well_formed}
use Rattle.table_rows.specs.Names.{is_among, number_of_name}
use Rattle.table_rows.specs.Rows.{Fields, TableBad, TableReads}

-- in,out,value
abbrev pub through_header : Fields
through_header = codes "in" ∷ codes "out" ∷ codes "value" ∷ []

-- the two legs of a through pair, which no other has
abbrev pub connection_of : Through → List ℕ
connection_of entry = entry.arriving ∷ entry.departing ∷ []

-- A record read as a through pair, by the flights, below through pairs of these legs, or the least kind of its
-- faults. A pair of an earlier record has two known flights.
unfoldable pub through_read : List (List ℕ) → List (List ℕ) → Fields → Result Through ℕ
through_read flights earlier fields =
    of_width (three_of fields) (λ (arriving, departing, value).
    refused_where (not (is_utf8 arriving && is_utf8 departing && is_utf8 value)) NOT_TEXT
    (well_formed (name_of arriving) (λ _.
    well_formed (name_of departing) (λ _.
    well_formed (whole_of value (pos 0) MAX_COST) (λ units.
    known (number_of_name arriving flights) UNKNOWN_FLIGHT (λ l.
    known (number_of_name departing flights) UNKNOWN_FLIGHT (λ m.
    refused_where (is_among (l ∷ m ∷ []) earlier) DUPLICATE
    (refused_where (nat_le MAX_THROUGHS (length earlier)) TOO_MANY
    (Ok (record { arriving = l; departing = m; value = units }))))))))))

-- the records of a file are the header and these through pairs
abbrev pub ThroughTableReads : List (List ℕ) → List Fields → List Through → Type 0
ThroughTableReads flights = TableReads connection_of (through_read flights) through_header

abbrev pub ThroughTableBad : List (List ℕ) → List Fields → ℕ → ℕ → Type 0
ThroughTableBad flights = TableBad connection_of (through_read flights) through_header

-- the bytes of a file read as these through pairs: a file of zero bytes, which has no header, as none
abbrev pub ThroughsRead : List (List ℕ) → List ℕ → List Through → Type 0
ThroughsRead flights bytes throughs = ((bytes ≡ []) × (throughs ≡ [])) ⊎ ThroughTableReads flights (records_of bytes) throughs

-- the first fault of a file of through pairs
abbrev pub ThroughsBad : List (List ℕ) → List ℕ → ℕ → ℕ → Type 0
ThroughsBad flights bytes row kind = (bytes ≢ []) × ThroughTableBad flights (records_of bytes) row kind
