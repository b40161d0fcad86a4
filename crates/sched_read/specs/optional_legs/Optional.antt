-- What a file of optional legs reads as.
use Rattle.std.specs.Prelude.{ℕ, ◌<◌, neg_ℤ, not, ◌&&◌, nat_le, List, ◌∷◌, [], All, length, codes, map, Result, Ok}
use Rattle.std.specs.Str.{is_utf8}
use Rattle.csv_fields.specs.Name.{name_of}
use Rattle.csv_fields.specs.Number.{whole_of}
use Rattle.fleet_model.specs.Limits.{IsCostUpTo}
use Rattle.fleet_model.specs.Schedule.{legs_in}
use Rattle.fleet_model.specs.declared.limits.TheConstants.{MAX_COST}
use Rattle.fleet_model.specs.declared.refusals.TheConstants.{DUPLICATE, NOT_TEXT, TOO_MANY, UNKNOWN_FLIGHT}
use Rattle.fleet_model.specs.declared.tables.Tables.{Tables}
use Rattle.table_rows.specs.fleet_tables.Costs.{flight_of}
use Rattle.table_rows.specs.Fields.{known, of_width, refused_where, two_of, well_formed}
use Rattle.table_rows.specs.Names.{is_among, number_of_name}
use Rattle.table_rows.specs.Rows.{Fields, TableBad, TableReads}
use Rattle.sched_read.specs.declared.optional_legs.optional.TheConstants.{MAX_OPTIONAL}
use Rattle.sched_read.specs.declared.optional_legs.optional.OptionalLeg.{OptionalLeg}

-- flight,skip
abbrev pub optional_header : Fields
optional_header = codes "flight" ∷ codes "skip" ∷ []

-- the flight of an optional leg, which no other has
abbrev pub optional_key : OptionalLeg → List ℕ
optional_key optional = optional.flight

-- A record read as an optional leg, by the flights, below optional legs of these flights, or the least kind of its faults.
unfoldable pub optional_read : List (List ℕ) → List (List ℕ) → Fields → Result OptionalLeg ℕ
optional_read flights earlier fields =
    of_width (two_of fields) (λ (flight, skip).
    refused_where (not (is_utf8 flight && is_utf8 skip)) NOT_TEXT
    (well_formed (name_of flight) (λ _.
    well_formed (whole_of skip (neg_ℤ MAX_COST) MAX_COST) (λ units.
    refused_where (is_among flight earlier) DUPLICATE
    (known (number_of_name flight flights) UNKNOWN_FLIGHT (λ l.
    refused_where (nat_le MAX_OPTIONAL (length earlier)) TOO_MANY
    (Ok (record { flight = flight; leg = l; skip = units }))))))))

-- what a record reads as beside these tables
abbrev pub optional_beside : Tables → List (List ℕ) → Fields → Result OptionalLeg ℕ
optional_beside t = optional_read (map flight_of t.legs)

-- the records of a file are the header and these optional legs of the tables
abbrev pub OptionalRead : Tables → List Fields → List OptionalLeg → Type 0
OptionalRead t = TableReads optional_key (optional_beside t) optional_header

-- the first fault of a file of optional legs
abbrev pub OptionalBad : Tables → List Fields → ℕ → ℕ → Type 0
OptionalBad t = TableBad optional_key (optional_beside t) optional_header

-- what optional legs keep that are read
pub record IsOptional (legs : ℕ) (optional : OptionalLeg) : Type 0 where
  pub leg : optional.leg < legs
  pub skip : IsCostUpTo 1 optional.skip

abbrev pub AreOptional : Tables → List OptionalLeg → Type 0
AreOptional t = All (IsOptional (legs_in t))
