-- The code of a station, and the names of flights and fleets.
use Rattle.std.specs.Prelude.{◌==◌, ℕ, not, nat_le, if◌then◌else◌, List, length, Result, Ok, Err, ⊤}
use Rattle.std.specs.Char.{is_ascii_uppercase}
use Rattle.std.specs.List.{list_all}
use Rattle.entries.specs.Names.{is_name_byte}
use Rattle.csv_fields.specs.declared.fault.FieldFault.{FieldFault}
use Rattle.csv_fields.specs.Fault.{empty, forbidden_byte, wrong_length}

-- a field read as a station's code, or its first fault
unfoldable pub station_code_of : List ℕ → Result ⊤ FieldFault
station_code_of field =
    if length field == 0 then Err empty
    else if not (length field == 3) then Err wrong_length
    else if not (list_all is_ascii_uppercase field) then Err forbidden_byte
    else Ok tt

-- a field read as the name of a flight or a fleet, or its first fault
unfoldable pub name_of : List ℕ → Result ⊤ FieldFault
name_of field =
    if length field == 0 then Err empty
    else if not (nat_le (length field) 8) then Err wrong_length
    else if not (list_all is_name_byte field) then Err forbidden_byte
    else Ok tt
