-- The limit of computed numbers.
use Rattle.std.specs.Prelude.{ℤ, Bool, ◌-◌, ◌^◌, ◌≤◌, nat_lt, unsigned_abs}

-- the size of a number passes 2 ^ 127 - 1, so that of -2 ^ 127 does, which 128 bits hold
abbrev pub is_outgrown : ℤ → Bool
is_outgrown z = nat_lt (2 ^ 127 - 1) (unsigned_abs z)

-- a number that is not outgrown
abbrev pub IsWithin : ℤ → Type 0
IsWithin z = unsigned_abs z ≤ 2 ^ 127 - 1
