-- What a file of stations reads as.
use Rattle.std.specs.Prelude.{ℕ, true, not, ◌&&◌, if◌then◌else◌, nat_le, List, ◌∷◌, [], length, codes, bytes_eq, Option, Some, None, option_map, Result, Ok, Err}
use Rattle.std.specs.Str.{is_utf8}
use Rattle.csv_fields.specs.declared.fault.FieldFault.{FieldFault}
use Rattle.csv_fields.specs.Flag.{yes_no_of}
use Rattle.csv_fields.specs.Name.{station_code_of}
use Rattle.fleet_model.specs.declared.limits.TheConstants.{MAX_GROUND_MINUTES, MAX_PARKING, MAX_STATIONS}
use Rattle.fleet_model.specs.declared.parts.Station.{Station}
use Rattle.fleet_model.specs.declared.refusals.TheConstants.{DUPLICATE, NOT_TEXT, TOO_MANY}
use Rattle.table_rows.specs.Fields.{four_of, natural_of, of_width, refused_where, three_of, well_formed}
use Rattle.table_rows.specs.Forms.{FormBad, FormReads, header_in}
use Rattle.table_rows.specs.Names.{is_among}
use Rattle.table_rows.specs.Rows.{Fields}
use Rattle.table_rows.specs.declared.forms.Form.{Form}
use Rattle.table_rows.specs.declared.forms.Form.TheVariants as form

-- code,extra,maintenance
abbrev pub station_header : Fields
station_header = codes "code" ∷ codes "extra" ∷ codes "maintenance" ∷ []

-- code,extra,maintenance,parking
abbrev pub parking_header : Fields
parking_header = codes "code" ∷ codes "extra" ∷ codes "maintenance" ∷ codes "parking" ∷ []

-- the old header has no limits of parking, the new one has
abbrev pub station_headers : Form → Fields
station_headers = header_in station_header parking_header

-- the fields below either header, as code, extra, maintenance, parking: a record of the old form has no limit
abbrev pub station_fields : Form → Fields → Option (List ℕ × List ℕ × List ℕ × List ℕ)
station_fields form.Old fields = option_map (λ f. (f.0, f.1, f.2, codes "-")) (three_of fields)
station_fields form.New fields = four_of fields

-- a number that was read is a limit
abbrev pub as_limit : Result ℕ FieldFault → Result (Option ℕ) FieldFault
as_limit (Ok limit) = Ok (Some limit)
as_limit (Err fault) = Err fault

-- a field read as a limit of parking, or as none
abbrev pub limit_read : List ℕ → Result (Option ℕ) FieldFault
limit_read field = if bytes_eq field (codes "-") then Ok None else as_limit (natural_of field MAX_PARKING)

-- the code of a station, which no other has
abbrev pub code_of : Station → List ℕ
code_of station = station.code

-- a record of either form read as a station, below stations with these codes, or the least kind of its faults
unfoldable pub station_read : Form → List (List ℕ) → Fields → Result Station ℕ
station_read found earlier fields =
    of_width (station_fields found fields) (λ (code, extra, flag, parking).
    refused_where (not (is_utf8 code && is_utf8 extra && is_utf8 flag && is_utf8 parking)) NOT_TEXT
    (well_formed (station_code_of code) (λ _.
    well_formed (natural_of extra MAX_GROUND_MINUTES) (λ minutes.
    well_formed (yes_no_of flag) (λ maintenance.
    well_formed (limit_read parking) (λ limit.
    refused_where (is_among code earlier) DUPLICATE
    (refused_where (nat_le MAX_STATIONS (length earlier)) TOO_MANY
    (Ok (record { code = code; extra = minutes; maintenance = maintenance; parking = limit })))))))))

-- the records of a file are either header and these stations
abbrev pub StationsRead : List Fields → List Station → Type 0
StationsRead = FormReads code_of station_read station_headers true

-- the first fault of a file of stations
abbrev pub StationsBad : List Fields → ℕ → ℕ → Type 0
StationsBad = FormBad code_of station_read station_headers true
