-- What a file of tails reads as.
use Rattle.std.specs.Prelude.{◌≢◌, ◌<◌, ◌≤◌, ◌==◌, ℕ, pos, not, ◌&&◌, nat_le, true, if◌then◌else◌, List, ◌∷◌, [], length, map, codes, is_ok, All, AllPairs, Option, Some, None, option_map, Result, Ok, Err, ⊤}
use Rattle.std.specs.Str.{is_utf8}
use Rattle.csv_fields.specs.declared.fault.FieldFault.{FieldFault}
use Rattle.csv_fields.specs.Name.{name_of, station_code_of}
use Rattle.csv_fields.specs.Number.{whole_of}
use Rattle.entries.specs.Names.{IsName}
use Rattle.fleet_model.specs.Schedule.{fleets_in}
use Rattle.fleet_model.specs.declared.refusals.TheConstants.{DUPLICATE, NOT_TEXT, TOO_MANY, UNKNOWN_FLEET, UNKNOWN_FLIGHT, UNKNOWN_STATION}
use Rattle.fleet_model.specs.declared.tables.Tables.{Tables}
use Rattle.table_rows.specs.fleet_tables.Costs.{flight_of}
use Rattle.table_rows.specs.fleet_tables.Fleets.{fleet_name_of}
use Rattle.table_rows.specs.station_table.Stations.{code_of}
use Rattle.table_rows.specs.Fields.{as_natural, four_of, known, of_width, refused_where, three_of, well_formed}
use Rattle.table_rows.specs.Forms.{FormBad, FormReads, header_in}
use Rattle.table_rows.specs.Names.{is_among, number_of_name}
use Rattle.table_rows.specs.Rows.{Fields}
use Rattle.table_rows.specs.declared.forms.Form.{Form}
use Rattle.table_rows.specs.declared.forms.Form.TheVariants as form
use Rattle.tail_dates.specs.Places.{IsPlaceIfAny}
use Rattle.tail_dates.specs.declared.tail_table.TheConstants.{MAX_NIGHTS_LEFT, MAX_TAILS}
use Rattle.tail_dates.specs.declared.tails.Place.{Place}
use Rattle.tail_dates.specs.declared.tails.Place.TheVariants as place
use Rattle.tail_dates.specs.declared.tails.TailState.{TailState}

-- tail,fleet,left
abbrev pub tail_header : Fields
tail_header = codes "tail" ∷ codes "fleet" ∷ codes "left" ∷ []

-- tail,fleet,left,at
abbrev pub placed_header : Fields
placed_header = codes "tail" ∷ codes "fleet" ∷ codes "left" ∷ codes "at" ∷ []

-- the old header doesn't tell where tails are, the new one does
abbrev pub tail_headers : Form → Fields
tail_headers = header_in tail_header placed_header

-- the fields below either header, as tail, fleet, left, at: of a record of the old form the place is empty
abbrev pub tail_fields : Form → Fields → Option (List ℕ × List ℕ × List ℕ × List ℕ)
tail_fields form.Old fields = option_map (λ f. (f.0, f.1, f.2, [])) (three_of fields)
tail_fields form.New fields = four_of fields

-- the name of a tail, which no other has
abbrev pub tail_name_of : TailState → List ℕ
tail_name_of tail = tail.name

-- a field read as the nights that a tail has left
abbrev pub nights_left_of : List ℕ → Result ℕ FieldFault
nights_left_of field = as_natural (whole_of field (pos 1) (pos MAX_NIGHTS_LEFT))

-- a field that says where a tail is: it is empty, or has the form of a flight, which three letters have too
abbrev pub at_form_of : List ℕ → Result ⊤ FieldFault
at_form_of field = if length field == 0 then Ok tt else name_of field

-- Where a tail is by such a field, or the kind of a name that isn't known: nothing is told, or three letters A to Z are a station,
-- and any other name is a flight.
abbrev pub at_of : List (List ℕ) → List (List ℕ) → List ℕ → Result (Option Place) ℕ
at_of stations flights field =
    if length field == 0 then Ok None
    else if is_ok (station_code_of field) then known (number_of_name field stations) UNKNOWN_STATION (λ s. Ok (Some (place.Stands s)))
    else known (number_of_name field flights) UNKNOWN_FLIGHT (λ l. Ok (Some (place.Flies l)))

-- a value that is read goes on
abbrev pub read_on : {A B : Type 0} → Result A ℕ → (A → Result B ℕ) → Result B ℕ
read_on (Ok value) read = read value
read_on (Err kind) read = Err kind

-- A record of either form read as a tail, by the names of the fleets, the stations and the flights, below tails with these names, or
-- the least kind of its faults.
unfoldable pub tail_read : List (List ℕ) → List (List ℕ) → List (List ℕ) → Form → List (List ℕ) → Fields → Result TailState ℕ
tail_read fleets stations flights header earlier fields =
    of_width (tail_fields header fields) (λ (tail, fleet, left, at).
    refused_where (not (is_utf8 tail && is_utf8 fleet && is_utf8 left && is_utf8 at)) NOT_TEXT
    (well_formed (name_of tail) (λ _.
    well_formed (name_of fleet) (λ _.
    well_formed (nights_left_of left) (λ nights.
    well_formed (at_form_of at) (λ _.
    refused_where (is_among tail earlier) DUPLICATE
    (read_on (at_of stations flights at) (λ p.
    known (number_of_name fleet fleets) UNKNOWN_FLEET (λ f.
    refused_where (nat_le MAX_TAILS (length earlier)) TOO_MANY
    (Ok (record { name = tail; fleet = f; left = nights; at = p })))))))))))

-- beside tables
abbrev pub tail_beside : Tables → Form → List (List ℕ) → Fields → Result TailState ℕ
tail_beside t = tail_read (map fleet_name_of t.fleets) (map code_of t.stations) (map flight_of t.legs)

-- the records of a file are either header and these tails
abbrev pub TailsRead : Tables → List Fields → List TailState → Type 0
TailsRead t = FormReads tail_name_of (tail_beside t) tail_headers true

-- the first fault of a file of tails
abbrev pub TailsBad : Tables → List Fields → ℕ → ℕ → Type 0
TailsBad t = FormBad tail_name_of (tail_beside t) tail_headers true

-- what tails keep, beside tables
pub record IsTailState (t : Tables) (tail : TailState) : Type 0 where
  pub name : IsName tail.name
  pub fleet : tail.fleet < fleets_in t
  pub some_left : 1 ≤ tail.left
  pub few_left : tail.left ≤ MAX_NIGHTS_LEFT
  pub at : IsPlaceIfAny t tail.at

pub record AreTailStates (t : Tables) (tails : List TailState) : Type 0 where
  pub few : length tails ≤ MAX_TAILS
  pub each : All (IsTailState t) tails
  pub differ : AllPairs (λ a b. a.name ≢ b.name) tails
