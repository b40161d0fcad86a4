-- A flag, as a field says it.
use Rattle.std.specs.Prelude.{ℕ, Bool, true, false, if◌then◌else◌, List, codes, bytes_eq, Result, Ok, Err}
use Rattle.csv_fields.specs.declared.fault.FieldFault.{FieldFault}
use Rattle.csv_fields.specs.Fault.{not_a_flag}

-- the word for a flag
abbrev pub flag_text : Bool → List ℕ
flag_text true = codes "yes"
flag_text false = codes "no"

-- a field read as a flag, or its fault
unfoldable pub yes_no_of : List ℕ → Result Bool FieldFault
yes_no_of field =
    if bytes_eq field (flag_text true) then Ok true
    else if bytes_eq field (flag_text false) then Ok false
    else Err not_a_flag
