-- A search along a list of numbers by rising columns.
use Rattle.std.specs.Prelude.{ℕ, Bool, nat_lt, List, [], ◌∷◌, if◌then◌else◌}
use Rattle.frac_row.specs.declared.entry.Entry.{Entry}

-- the column of the first number that passes, before the first column from a bound on; else the bound
abbrev pub first_where : (Entry → Bool) → ℕ → List Entry → ℕ
first_where test bound [] = bound
first_where test bound (entry ∷ rest) =
    if nat_lt entry.column bound then (if test entry then entry.column else first_where test bound rest)
    else bound
