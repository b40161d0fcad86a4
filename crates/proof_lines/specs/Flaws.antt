-- The kinds of flaws of a line, and the least of several.
use Rattle.std.specs.Prelude.{ℕ, nat_le, if◌then◌else◌, Result, Ok, Err}
use Rattle.proof_lines.specs.declared.flaws.Flaw.{Flaw}
use Rattle.proof_lines.specs.declared.flaws.Flaw.TheVariants as flaw

-- the number of a flaw among the kinds of faults of a proof's text
abbrev pub kind_of : Flaw → ℕ
kind_of flaw.Byte = 2
kind_of flaw.Word = 4
kind_of flaw.Width = 5
kind_of flaw.Number = 6
kind_of flaw.Name = 7

-- of two flaws the one of the least kind
abbrev pub least : Flaw → Flaw → Flaw
least a b = if nat_le (kind_of a) (kind_of b) then a else b

-- two readings of one line, or the least of their flaws
abbrev pub both : {A B : Type 0} → Result A Flaw → Result B Flaw → Result (A × B) Flaw
both (Ok a) (Ok b) = Ok (a, b)
both (Ok a) (Err flaw) = Err flaw
both (Err flaw) (Ok b) = Err flaw
both (Err flaw) (Err other) = Err (least flaw other)
