-- What a file of fleets reads as.
use Rattle.std.specs.Prelude.{ℕ, not, ◌&&◌, nat_le, List, ◌∷◌, [], length, codes, Result, Ok}
use Rattle.std.specs.Str.{is_utf8}
use Rattle.csv_fields.specs.Name.{name_of}
use Rattle.fleet_model.specs.declared.limits.TheConstants.{MAX_AIRCRAFT, MAX_FLEETS, MAX_GROUND_MINUTES}
use Rattle.fleet_model.specs.declared.parts.Fleet.{Fleet}
use Rattle.fleet_model.specs.declared.refusals.TheConstants.{DUPLICATE, NOT_TEXT, TOO_MANY}
use Rattle.table_rows.specs.Fields.{natural_of, of_width, refused_where, three_of, well_formed}
use Rattle.table_rows.specs.Names.{is_among}
use Rattle.table_rows.specs.Rows.{Fields, TableBad, TableReads}

-- fleet,aircraft,turn
abbrev pub fleet_header : Fields
fleet_header = codes "fleet" ∷ codes "aircraft" ∷ codes "turn" ∷ []

-- the name of a fleet, which no other has
abbrev pub fleet_name_of : Fleet → List ℕ
fleet_name_of fleet = fleet.name

-- a record read as a fleet, below fleets with these names, or the least kind of its faults
unfoldable pub fleet_read : List (List ℕ) → Fields → Result Fleet ℕ
fleet_read earlier fields =
    of_width (three_of fields) (λ (name, aircraft, turn).
    refused_where (not (is_utf8 name && is_utf8 aircraft && is_utf8 turn)) NOT_TEXT
    (well_formed (name_of name) (λ _.
    well_formed (natural_of aircraft MAX_AIRCRAFT) (λ count.
    well_formed (natural_of turn MAX_GROUND_MINUTES) (λ minutes.
    refused_where (is_among name earlier) DUPLICATE
    (refused_where (nat_le MAX_FLEETS (length earlier)) TOO_MANY
    (Ok (record { name = name; aircraft = count; turn = minutes }))))))))

-- the records of a file are the header and these fleets
abbrev pub FleetsRead : List Fields → List Fleet → Type 0
FleetsRead = TableReads fleet_name_of fleet_read fleet_header

-- the first fault of a file of fleets
abbrev pub FleetsBad : List Fields → ℕ → ℕ → Type 0
FleetsBad = TableBad fleet_name_of fleet_read fleet_header
