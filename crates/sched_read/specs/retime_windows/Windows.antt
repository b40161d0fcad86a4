-- What a file of windows reads as.
use Rattle.std.specs.Prelude.{ℕ, ◌==◌, ℤ, neg_ℤ, unsigned_abs, not, ◌&&◌, nat_le, nat_lt, if◌then◌else◌, List, ◌∷◌, [], ◌++◌, length, codes, map, Option, Some, None, Result, Ok, Err}
use Rattle.std.specs.Str.{is_utf8}
use Rattle.csv_fields.specs.declared.fault.FieldFault.{FieldFault}
use Rattle.csv_fields.specs.Fault.{out_of_range}
use Rattle.csv_fields.specs.Name.{name_of}
use Rattle.csv_fields.specs.Number.{whole_of}
use Rattle.fleet_model.specs.declared.limits.TheConstants.{MAX_COST, MAX_SHIFT, MAX_TRIPLES}
use Rattle.fleet_model.specs.declared.refusals.TheConstants.{DUPLICATE, NOT_TEXT, TOO_MANY, TOO_MANY_CHOICES, TOO_MANY_OF_FLIGHT, UNKNOWN_FLIGHT}
use Rattle.fleet_model.specs.declared.tables.Tables.{Tables}
use Rattle.table_rows.specs.fleet_tables.Costs.{flight_of}
use Rattle.table_rows.specs.Fields.{known, of_width, refused_where, three_of, well_formed}
use Rattle.table_rows.specs.Names.{is_among, number_of_name}
use Rattle.table_rows.specs.Rows.{Fields, TableBad, TableReads}
use Rattle.sched_read.specs.declared.retime_windows.window.TheConstants.{MAX_WINDOWS, MAX_WINDOWS_OF_LEG}
use Rattle.sched_read.specs.declared.retime_windows.window.Window.{Window}
use Rattle.sched_read.specs.retime_windows.Keys.{fleet_counts, key_with, triples_by, window_key, windows_on}

-- flight,shift,extra
abbrev pub window_header : Fields
window_header = codes "flight" ∷ codes "shift" ∷ codes "extra" ∷ []

-- minutes that move a departure
abbrev pub but_none : Result ℤ FieldFault → Result ℤ FieldFault
but_none (Ok minutes) = if unsigned_abs minutes == 0 then Err out_of_range else Ok minutes
but_none (Err fault) = Err fault

-- a field read as minutes by which a leg departs later or earlier
abbrev pub shift_read : List ℕ → Result ℤ FieldFault
shift_read field = but_none (whole_of field (neg_ℤ MAX_SHIFT) MAX_SHIFT)

-- The kind of what stands in the way of one window more, below windows with these keys: it is there already, or there is one
-- too many in all, or of its leg, or with it there are too many pairs by which legs may be flown.
unfoldable pub window_refusal : List ℕ → List (List ℕ) → ℕ → ℤ → Option ℕ
window_refusal fleets earlier leg minutes =
    if is_among (key_with leg minutes) earlier then Some DUPLICATE
    else if nat_le MAX_WINDOWS (length earlier) then Some TOO_MANY
    else if nat_le MAX_WINDOWS_OF_LEG (windows_on earlier leg) then Some TOO_MANY_OF_FLIGHT
    else if nat_lt MAX_TRIPLES (triples_by fleets (earlier ++ key_with leg minutes ∷ [])) then Some TOO_MANY_CHOICES
    else None

-- a record that nothing stands in the way of goes on
abbrev pub unless_refused : {B : Type 0} → Option ℕ → Result B ℕ → Result B ℕ
unless_refused (Some kind) read = Err kind
unless_refused None read = read

-- A record read as a window, by the flights and by how many fleets have a cost on each leg, below windows with these keys, or
-- the least kind of its faults. A window of an earlier record has a known flight.
unfoldable pub window_read : List (List ℕ) → List ℕ → List (List ℕ) → Fields → Result Window ℕ
window_read flights fleets earlier fields =
    of_width (three_of fields) (λ (flight, shift, extra).
    refused_where (not (is_utf8 flight && is_utf8 shift && is_utf8 extra)) NOT_TEXT
    (well_formed (name_of flight) (λ _.
    well_formed (shift_read shift) (λ minutes.
    well_formed (whole_of extra (neg_ℤ MAX_COST) MAX_COST) (λ units.
    known (number_of_name flight flights) UNKNOWN_FLIGHT (λ l.
    unless_refused (window_refusal fleets earlier l minutes)
    (Ok (record { leg = l; minutes = minutes; extra = units }))))))))

-- what a record reads as beside these tables
abbrev pub window_beside : Tables → List (List ℕ) → Fields → Result Window ℕ
window_beside t = window_read (map flight_of t.legs) (fleet_counts t)

-- the records of a file are the header and these windows of the tables
abbrev pub WindowsRead : Tables → List Fields → List Window → Type 0
WindowsRead t = TableReads window_key (window_beside t) window_header

-- the first fault of a file of windows
abbrev pub WindowsBad : Tables → List Fields → ℕ → ℕ → Type 0
WindowsBad t = TableBad window_key (window_beside t) window_header
