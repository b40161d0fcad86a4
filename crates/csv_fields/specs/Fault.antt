-- The faults of a field, by their kinds.
use Rattle.csv_fields.specs.declared.fault.FieldFault.{FieldFault}

abbrev pub empty : FieldFault
empty = record { kind = 1 }

abbrev pub wrong_length : FieldFault
wrong_length = record { kind = 2 }

abbrev pub forbidden_byte : FieldFault
forbidden_byte = record { kind = 3 }

abbrev pub out_of_range : FieldFault
out_of_range = record { kind = 4 }

abbrev pub not_a_time : FieldFault
not_a_time = record { kind = 5 }

abbrev pub not_a_flag : FieldFault
not_a_flag = record { kind = 6 }
