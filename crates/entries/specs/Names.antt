-- The forms of names: the codes of stations, and the names of flights and fleets.
use Rattle.std.specs.Prelude.{◌≡◌, ◌≤◌, ◌||◌, ℕ, Bool, IsTrue, List, length, All}
use Rattle.std.specs.Char.{IsAsciiUppercase, is_ascii_digit, is_ascii_uppercase}

-- three letters A to Z
abbrev pub IsStationCode : List ℕ → Type 0
IsStationCode field = (length field ≡ 3) × All IsAsciiUppercase field

-- a letter A to Z or a digit
abbrev pub is_name_byte : ℕ → Bool
is_name_byte byte = is_ascii_uppercase byte || is_ascii_digit byte

abbrev pub IsNameByte : ℕ → Type 0
IsNameByte byte = IsTrue (is_name_byte byte)

-- 1 to 8 letters A to Z and digits
abbrev pub IsName : List ℕ → Type 0
IsName field = (1 ≤ length field) × (length field ≤ 8) × All IsNameByte field
