-- A record by its fields, and what stands in the way of reading it.
use Rattle.std.specs.Prelude.{ℕ, ℤ, pos, unsigned_abs, Bool, true, false, List, [], ◌∷◌, Option, Some, None, option_map, Result, Ok, Err}
use Rattle.csv_fields.specs.declared.fault.FieldFault.{FieldFault}
use Rattle.csv_fields.specs.Number.{whole_of}
use Rattle.fleet_model.specs.declared.refusals.TheConstants.{BAD_FIELD, WRONG_WIDTH}
use Rattle.table_rows.specs.Rows.{Fields}

-- the fields of a record that has two, three, four or five of them
abbrev pub two_of : Fields → Option (List ℕ × List ℕ)
two_of (a ∷ b ∷ []) = Some (a, b)
two_of _ = None

abbrev pub three_of : Fields → Option (List ℕ × List ℕ × List ℕ)
three_of [] = None
three_of (a ∷ rest) = option_map (λ f. (a, f.0, f.1)) (two_of rest)

abbrev pub four_of : Fields → Option (List ℕ × List ℕ × List ℕ × List ℕ)
four_of [] = None
four_of (a ∷ rest) = option_map (λ f. (a, f.0, f.1, f.2)) (three_of rest)

abbrev pub five_of : Fields → Option (List ℕ × List ℕ × List ℕ × List ℕ × List ℕ)
five_of [] = None
five_of (a ∷ rest) = option_map (λ f. (a, f.0, f.1, f.2, f.3)) (four_of rest)

-- the size of a number that was read
abbrev pub as_natural : Result ℤ FieldFault → Result ℕ FieldFault
as_natural (Ok n) = Ok (unsigned_abs n)
as_natural (Err fault) = Err fault

-- a field read as a whole number from 0 to a greatest one
abbrev pub natural_of : List ℕ → ℕ → Result ℕ FieldFault
natural_of field greatest = as_natural (whole_of field (pos 0) (pos greatest))

-- a record with the right number of fields goes on
abbrev pub of_width : {A B : Type 0} → Option A → (A → Result B ℕ) → Result B ℕ
of_width (Some fields) read = read fields
of_width None read = Err WRONG_WIDTH

-- a field that has its form goes on with its value
abbrev pub well_formed : {A B : Type 0} → Result A FieldFault → (A → Result B ℕ) → Result B ℕ
well_formed (Ok value) read = read value
well_formed (Err fault) read = Err BAD_FIELD

-- a name that is known goes on with its number
abbrev pub known : {B : Type 0} → Option ℕ → ℕ → (ℕ → Result B ℕ) → Result B ℕ
known (Some number) kind read = read number
known None kind read = Err kind

-- a record with this fault has its kind, and one without it goes on
abbrev pub refused_where : {B : Type 0} → Bool → ℕ → Result B ℕ → Result B ℕ
refused_where true kind read = Err kind
refused_where false kind read = read
