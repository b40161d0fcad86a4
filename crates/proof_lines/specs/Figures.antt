-- The numbers that words write.
use Rattle.std.specs.Prelude.{ℕ, zero, suc, ◌==◌, ◌&&◌, nat_le, Bool, true, false, if◌then◌else◌, List, [], ◌∷◌, length, codes, bytes_eq, ℤ, pos, negsuc, Option, Some, None, option_map, Result, Ok, Err}
use Rattle.std.specs.Fmt.{decimal}
use Rattle.std.specs.Str.Parse.{digits_value}
use Rattle.dual_bound.specs.declared.prices.TheConstants.{MAX_SIZE}
use Rattle.proof_lines.specs.declared.flaws.Flaw.{Flaw}
use Rattle.proof_lines.specs.declared.flaws.Flaw.TheVariants as flaw
use Rattle.proof_lines.specs.declared.line.Version.{Version}
use Rattle.proof_lines.specs.declared.line.Version.TheVariants as version

-- the number up to a greatest one whose decimal form the word is
unfoldable pub natural_in : ℕ → List ℕ → Option ℕ
natural_in most word =
    let n = digits_value 10 word in
    if nat_le n most && bytes_eq (decimal n) word then Some n else None

-- no plus, and no zero before other digits, begins the word
abbrev pub is_shortest : List ℕ → Bool
is_shortest [] = true
is_shortest (byte ∷ bytes) = if byte == 48 then length bytes == 0 else if byte == 43 then false else true

-- a number of this size with a minus; none of size 0 is written so
abbrev pub negative : Option ℕ → Option ℤ
negative None = None
negative (Some zero) = None
negative (Some (suc n)) = Some (negsuc n)

-- the number whose decimal form the word is, of a size up to the greatest
unfoldable pub signed_in : List ℕ → Option ℤ
signed_in [] = option_map pos (natural_in MAX_SIZE [])
signed_in (byte ∷ bytes) = if byte == 45 then negative (natural_in MAX_SIZE bytes) else option_map pos (natural_in MAX_SIZE (byte ∷ bytes))

-- a number that is there
abbrev pub figure : {A : Type 0} → Option A → Result A Flaw
figure (Some n) = Ok n
figure None = Err flaw.Number

-- the signed number of a word, its count of 64 bits, and its minute of a period with this last one
abbrev pub signed_figure : List ℕ → Result ℤ Flaw
signed_figure word = figure (signed_in word)

abbrev pub count_in : List ℕ → Result ℕ Flaw
count_in word = figure (natural_in 18446744073709551615 word)

abbrev pub minute_in : ℕ → List ℕ → Result ℕ Flaw
minute_in last word = figure (natural_in last word)

-- a day that is there, days counted from 1
abbrev pub some_day : Option ℕ → Option ℕ
some_day None = None
some_day (Some zero) = None
some_day (Some (suc n)) = Some (suc n)

-- the day of a word, of a period of so many
abbrev pub day_in : ℕ → List ℕ → Result ℕ Flaw
day_in days word = figure (some_day (natural_in days word))

-- the word of a version, and the version of a word
abbrev pub version_word : Version → List ℕ
version_word version.One = codes "1"
version_word version.Two = codes "2"
version_word version.Three = codes "3"

abbrev pub version_in : List ℕ → Result Version Flaw
version_in word =
    if bytes_eq word (version_word version.One) then Ok version.One
    else if bytes_eq word (version_word version.Two) then Ok version.Two
    else if bytes_eq word (version_word version.Three) then Ok version.Three
    else Err flaw.Number
