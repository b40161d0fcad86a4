-- Lines of the fleets, and numbers that there may be none of.
use Rattle.std.specs.Prelude.{ℕ, zero, suc, List, [], ◌∷◌, ◌++◌, codes, ℤ, Option, Some, None}
use Rattle.std.specs.Fmt.{decimal, signed_decimal}
use Rattle.fleet_model.specs.declared.tables.Tables.{Tables}
use Rattle.fleet_model.specs.Counts.{weights_of}
use Rattle.fleet_model.specs.Schedule.{fleet_of}
use Rattle.fleet_model.specs.Use.{used_of}
pub use Rattle.printed_lines.specs.Lines.{line_of}

-- a number in decimal, or none
abbrev pub number_word : Option ℤ → List ℕ
number_word (Some number) = signed_decimal number
number_word None = codes "none"

-- a fleet's aircraft, used and there
abbrev pub fleet_line : Tables → List ℕ → ℕ → List ℕ
fleet_line t a f = line_of (codes "fleet " ∷ (fleet_of t f).name ∷ codes ": used " ∷ decimal (used_of t (weights_of a) f) ∷ codes " of " ∷ decimal (fleet_of t f).aircraft ∷ [])

-- such a line for each of the first fleets
abbrev pub fleet_lines : Tables → List ℕ → ℕ → List ℕ
fleet_lines t a zero = []
fleet_lines t a (suc n) = fleet_lines t a n ++ fleet_line t a n
