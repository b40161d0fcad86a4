-- What a file of legs reads as.
use Rattle.std.specs.Prelude.{ℕ, pos, ◌+◌, ◌-◌, ◌*◌, ◌%◌, not, ◌==◌, nat_le, List, ◌∷◌, [], length, codes, Option, None, option_map, Result, Ok}
use Rattle.std.specs.List.{list_all}
use Rattle.std.specs.Str.{is_utf8}
use Rattle.table_rows.specs.fleet_tables.Costs.{flight_of}
use Rattle.csv_fields.specs.declared.fault.FieldFault.{FieldFault}
use Rattle.csv_fields.specs.Name.{name_of, station_code_of}
use Rattle.csv_fields.specs.Number.{whole_of}
use Rattle.csv_fields.specs.Time.{clock_time_of}
use Rattle.fleet_model.specs.declared.limits.TheConstants.{MAX_LEGS, MINUTES_PER_DAY}
use Rattle.fleet_model.specs.Limits.{FlyOnce, NoneLeftOut}
use Rattle.fleet_model.specs.Period.{minutes_of}
use Rattle.fleet_model.specs.Windows.{own_shift}
use Rattle.fleet_model.specs.declared.parts.Leg.{Leg}
use Rattle.fleet_model.specs.declared.parts.Settings.{Settings}
use Rattle.fleet_model.specs.declared.refusals.TheConstants.{DUPLICATE, NOT_TEXT, TOO_MANY, TO_ITSELF, UNKNOWN_STATION, ZERO_BLOCK}
use Rattle.table_rows.specs.Fields.{as_natural, five_of, known, of_width, refused_where, well_formed}
use Rattle.table_rows.specs.Forms.{FormBad, FormReads, header_in}
use Rattle.table_rows.specs.Names.{is_among, number_of_name}
use Rattle.table_rows.specs.Rows.{Fields}
use Rattle.table_rows.specs.declared.forms.Form.{Form}
use Rattle.table_rows.specs.declared.forms.Form.TheVariants as form

-- flight,from,dep,to,arr
abbrev pub leg_header : Fields
leg_header = codes "flight" ∷ codes "from" ∷ codes "dep" ∷ codes "to" ∷ codes "arr" ∷ []

-- flight,day,from,dep,to,arr
abbrev pub dated_header : Fields
dated_header = codes "flight" ∷ codes "day" ∷ codes "from" ∷ codes "dep" ∷ codes "to" ∷ codes "arr" ∷ []

-- the old header has no days, the new one has
abbrev pub leg_headers : Form → Fields
leg_headers = header_in leg_header dated_header

-- the fields below either header, as flight, day, from, dep, to, arr: a record without a day is one of day 1
abbrev pub leg_fields : Form → Fields → Option (List ℕ × List ℕ × List ℕ × List ℕ × List ℕ × List ℕ)
leg_fields form.Old fields = option_map (λ f. (f.0, codes "1", f.1, f.2, f.3, f.4)) (five_of fields)
leg_fields form.New [] = None
leg_fields form.New (flight ∷ rest) = option_map (λ f. (flight, f.0, f.1, f.2, f.3, f.4)) (five_of rest)

-- minutes from a clock minute to the next time that the clock shows another
abbrev pub block_between : ℕ → ℕ → ℕ
block_between dep arr = (arr + MINUTES_PER_DAY - dep) % MINUTES_PER_DAY

-- the minutes of the period
abbrev pub period_minutes : Settings → ℕ
period_minutes settings = minutes_of settings.period

-- a field read as a day of the period, counted from 1
abbrev pub day_read : Settings → List ℕ → Result ℕ FieldFault
day_read settings field = as_natural (whole_of field (pos 1) (pos settings.period))

-- A clock minute of a day, counted from the start of the period, which is the day start on day 1. Before it lies the
-- period's end.
abbrev pub from_period_start : Settings → ℕ → ℕ → ℕ
from_period_start settings day minute = ((day - 1) * MINUTES_PER_DAY + minute + period_minutes settings - settings.day_start) % period_minutes settings

-- a clock minute, counted from the day start
abbrev pub from_day_start : Settings → ℕ → ℕ
from_day_start settings minute = (minute + MINUTES_PER_DAY - settings.day_start) % MINUTES_PER_DAY

-- a leg that has its own time alone and must be flown, from one station to another
abbrev pub leg_between : List ℕ → ℕ → ℕ → ℕ → ℕ → Leg
leg_between flight from to dep block = record { flight = flight; from = from; dep = dep; to = to; block = block; shifts = own_shift dep ∷ []; skip = None }

-- A record of either form read as a leg, by the codes of the stations, below legs with these flights, or the least kind
-- of its faults.
unfoldable pub leg_read : List (List ℕ) → Settings → Form → List (List ℕ) → Fields → Result Leg ℕ
leg_read stations settings found earlier fields =
    of_width (leg_fields found fields) (λ (flight, day, from, dep, to, arr).
    refused_where (not (list_all is_utf8 fields)) NOT_TEXT
    (well_formed (name_of flight) (λ _.
    well_formed (day_read settings day) (λ on.
    well_formed (station_code_of from) (λ _.
    well_formed (clock_time_of dep) (λ leaves.
    well_formed (station_code_of to) (λ _.
    well_formed (clock_time_of arr) (λ lands.
    refused_where (is_among flight earlier) DUPLICATE
    (known (number_of_name from stations) UNKNOWN_STATION (λ a.
    known (number_of_name to stations) UNKNOWN_STATION (λ b.
    refused_where (block_between leaves lands == 0) ZERO_BLOCK
    (refused_where (a == b) TO_ITSELF
    (refused_where (nat_le MAX_LEGS (length earlier)) TOO_MANY
    (Ok (leg_between flight a b (from_period_start settings on leaves) (block_between leaves lands))))))))))))))))

-- the records of a file are a header, which may be the old one where the period has one day, and these legs
abbrev pub LegsRead : List (List ℕ) → Settings → List Fields → List Leg → Type 0
LegsRead stations settings = FormReads flight_of (leg_read stations settings) leg_headers (settings.period == 1)

-- the first fault of a file of legs
abbrev pub LegsBad : List (List ℕ) → Settings → List Fields → ℕ → ℕ → Type 0
LegsBad stations settings = FormBad flight_of (leg_read stations settings) leg_headers (settings.period == 1)

-- legs that have their own times alone, none of which may be left out
pub record ArePlain (legs : List Leg) : Type 0 where
  pub once : FlyOnce legs
  pub flown : NoneLeftOut legs
